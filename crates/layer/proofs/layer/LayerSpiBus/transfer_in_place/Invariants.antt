use Rattle.std.proofs.Common.{◌-◌, length, take, drop}
use Rattle.bus.proofs.Midway.{Midway}
use Rattle.layer.specs.Kinds.{changed}
use Rattle.layer.proofs.layer.LayerSpiBus.transfer_in_place.Given as goal

abbrev pub invariant-loop-done : goal.invariant-loop-done
invariant-loop-done g l =
    let k = g.C.Change.kind in
    let a = g.B.SpiBus.answers in
    Midway (changed k (a l.initial.self.below)) l.initial.words (take l.done l.words) (changed k (a l.self.below)) (drop l.done l.words)

abbrev pub decreases-loop-done : goal.decreases-loop-done
decreases-loop-done g l = length l.initial.words - l.done

use Rattle.std.proofs.Common.{◌≡◌, ◌-◌, length, take, drop}
use Rattle.bus.proofs.Midway.{Midway}
use Rattle.splitter.proofs.splitter.SplitterSpiBus.transfer_in_place.Given as goal

abbrev pub invariant-loop-done : goal.invariant-loop-done
invariant-loop-done g l =
    let a = g.B.SpiBus.answers in
    (l.self.port.most ≡ l.most)
    × Midway (a l.initial.self.port.below) l.initial.words (take l.done l.words) (a l.self.port.below) (drop l.done l.words)

abbrev pub decreases-loop-done : goal.decreases-loop-done
decreases-loop-done g l = length l.initial.words - l.done

use Rattle.std.proofs.Common.{ℕ, List, map, drop}
use Rattle.wire.specs.declared.event.Event.TheVariants.{Both}
use Rattle.wire.proofs.Midway.{Midway}
use Rattle.wire.proofs.calls.send.Given as goal

abbrev pub invariant-loop-b : goal.invariant-loop-b
invariant-loop-b g l =
    let a = g.L.Line.answers in
    (came : List ℕ) × Midway (a l.initial.line) (map Both l.bytes) came (a l.line) (map Both (drop l.b-index l.bytes))

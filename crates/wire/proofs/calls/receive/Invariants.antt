use Rattle.std.proofs.Common.{map, length, take, drop, replicate}
use Rattle.wire.specs.declared.event.Event.TheVariants.{In}
use Rattle.wire.proofs.Midway.{Midway}
use Rattle.wire.proofs.calls.receive.Given as goal

abbrev pub invariant-loop-b : goal.invariant-loop-b
invariant-loop-b g l =
    let a = g.L.Line.answers in
    Midway (a l.initial.line) (replicate (length l.initial.buf) In) (take l.b-index l.buf) (a l.line) (map (λ _. In) (drop l.b-index l.buf))

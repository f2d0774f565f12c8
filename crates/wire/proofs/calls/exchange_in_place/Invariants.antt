use Rattle.std.proofs.Common.{map, take, drop}
use Rattle.wire.specs.declared.event.Event.TheVariants.{Both}
use Rattle.wire.proofs.Midway.{Midway}
use Rattle.wire.proofs.calls.exchange_in_place.Given as goal

abbrev pub invariant-loop-b : goal.invariant-loop-b
invariant-loop-b g l =
    let a = g.L.Line.answers in
    Midway (a l.initial.line) (map Both l.initial.buf) (take l.b-index l.buf) (a l.line) (map Both (drop l.b-index l.buf))

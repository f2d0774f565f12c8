use Rattle.std.proofs.Common.{[], map, drop}
use Rattle.wire.specs.declared.event.Event.TheVariants.{Out}
use Rattle.wire.proofs.Midway.{Midway}
use Rattle.wire.proofs.calls.send_only.Given as goal

abbrev pub invariant-loop-b : goal.invariant-loop-b
invariant-loop-b g l =
    let a = g.L.Line.answers in
    Midway (a l.initial.line) (map Out l.bytes) [] (a l.line) (map Out (drop l.b-index l.bytes))

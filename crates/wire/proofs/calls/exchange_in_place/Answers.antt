use Rattle.std.proofs.Common.{arith}
use Rattle.wire.specs.declared.event.Event.TheVariants.{Both}
use Rattle.wire.proofs.Midway.{places_all, places_more}
use Rattle.wire.proofs.calls.exchange_in_place.Goals as goal

pub loop-b-preserved : goal.loop-b-preserved
loop-b-preserved g c =
    places_more Both (g.L.Line.causal _) c.loop-b.buf c.loop-b.b-index c.loop-b.invariant (omega arith) c.both.ensures.ran

pub returns : goal.returns
returns g c =
    record { ran = places_all Both (g.L.Line.causal _) c.loop-b.buf c.loop-b.b-index c.loop-b.invariant (omega arith) }

use Rattle.std.proofs.Common.{refl, arith}
use Rattle.std.proofs.lemmas.Simd.{splat_is_map}
use Rattle.wire.specs.declared.event.Event.TheVariants.{In}
use Rattle.wire.proofs.Midway.{midway_none, places_all, places_more}
use Rattle.wire.proofs.calls.receive.Goals as goal

pub loop-b-init : goal.loop-b-init
loop-b-init g c = rw (splat_is_map c.args.buf.now _ In refl) midway_none

pub loop-b-preserved : goal.loop-b-preserved
loop-b-preserved g c =
    places_more (λ _. In) (g.L.Line.causal _) c.loop-b.buf c.loop-b.b-index c.loop-b.invariant (omega arith) c.receive.ensures.ran

pub returns : goal.returns
returns g c =
    record { ran = places_all (λ _. In) (g.L.Line.causal _) c.loop-b.buf c.loop-b.b-index c.loop-b.invariant (omega arith) }

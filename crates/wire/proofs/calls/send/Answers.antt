use Rattle.std.proofs.Common.{arith}
use Rattle.wire.specs.declared.event.Event.TheVariants.{Both}
use Rattle.wire.proofs.Midway.{bytes_all, bytes_more}
use Rattle.wire.proofs.calls.send.Goals as goal

pub loop-b-preserved : goal.loop-b-preserved
loop-b-preserved g c =
    (_, bytes_more Both (g.L.Line.causal _) c.args.bytes.now c.loop-b.b-index c.loop-b.invariant.1 (omega arith) c.both.ensures.ran)

pub returns : goal.returns
returns g c =
    record { left = (bytes_all Both (g.L.Line.causal _) c.args.bytes.now c.loop-b.b-index c.loop-b.invariant.1 (omega arith)).left }

use Rattle.std.proofs.Common.{arith}
use Rattle.wire.specs.declared.event.Event.TheVariants.{Out}
use Rattle.wire.proofs.Midway.{bytes_all, bytes_more}
use Rattle.wire.proofs.calls.send_only.Goals as goal

pub loop-b-preserved : goal.loop-b-preserved
loop-b-preserved g c =
    bytes_more Out (g.L.Line.causal _) c.args.bytes.now c.loop-b.b-index c.loop-b.invariant (omega arith) c.out.ensures.ran

pub returns : goal.returns
returns g c =
    record { ran = bytes_all Out (g.L.Line.causal _) c.args.bytes.now c.loop-b.b-index c.loop-b.invariant (omega arith) }

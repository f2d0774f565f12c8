use Rattle.std.proofs.Common.{arith}
use Rattle.bus.proofs.Midway.{piece_more, pieces_all}
use Rattle.layer.specs.Changed.{changed_causal}
use Rattle.layer.proofs.layer.LayerSpiBus.transfer_in_place.Goals as goal

pub loop-done-preserved : goal.loop-done-preserved
loop-done-preserved g c =
    let causal = changed_causal g.C.Change.kind _ (g.B.SpiBus.causal c.loop-done.self.below) in
    piece_more causal c.loop-done.words c.loop-done.done c.loop-done.invariant _ _ (omega arith) (omega arith) c.exchange.ensures.ran

pub returns : goal.returns
returns g c =
    let causal = changed_causal g.C.Change.kind _ (g.B.SpiBus.causal c.loop-done.self.below) in
    record { ran = pieces_all causal c.loop-done.words c.loop-done.done c.loop-done.invariant (omega arith) }

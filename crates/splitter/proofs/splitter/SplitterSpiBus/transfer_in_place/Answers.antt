use Rattle.std.proofs.Common.{◌∙◌, arith}
use Rattle.bus.proofs.Midway.{piece_more, pieces_all}
use Rattle.splitter.proofs.splitter.SplitterSpiBus.transfer_in_place.Goals as goal

pub loop-done-preserved : goal.loop-done-preserved
loop-done-preserved g c =
    let inv = c.loop-done.invariant in
    let causal = g.B.SpiBus.causal c.loop-done.self.port.below in (
      c.exchange.ensures.most ∙ inv.0,
      piece_more causal c.loop-done.words c.loop-done.done inv.1 _ _ (omega arith) (omega arith) c.exchange.ensures.ran,
    )

pub returns : goal.returns
returns g c =
    let causal = g.B.SpiBus.causal c.loop-done.self.port.below in
    record { ran = pieces_all causal c.loop-done.words c.loop-done.done c.loop-done.invariant.1 (omega arith) }

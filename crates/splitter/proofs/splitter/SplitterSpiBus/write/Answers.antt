use Rattle.std.proofs.Common.{sym, ◌∙◌}
use Rattle.bus.proofs.Midway.{sent_all, sent_more}
use Rattle.splitter.proofs.splitter.SplitterSpiBus.write.Goals as goal

pub loop-piece-preserved : goal.loop-piece-preserved
loop-piece-preserved g c =
    let inv = c.loop-piece.invariant in
    let step = c.in-Some.ensures.steps in
    (step.0 ∙ inv.0 ∙ sym c.send.ensures.most, sent_more inv.1 _ _ step.1.0 c.send.ensures.left)

pub returns : goal.returns
returns g c = record { left = sent_all c.loop-piece.invariant.1 c.in-None.ensures.steps.1.0 }

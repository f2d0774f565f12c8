use Rattle.std.proofs.Common.{◌∙◌, arith, length-set}
use Rattle.layer.specs.Kinds.{change}
use Rattle.layer.proofs.Pieces.{changed_more}
use Rattle.layer.proofs.scratch.changed_piece.Goals as goal

pub loop-i-preserved : goal.loop-i-preserved
loop-i-preserved g c =
    let inv = c.loop-i.invariant in (
      length-set _ _ _ ∙ inv.0,
      changed_more (change g.C.Change.kind) c.args.piece.now c.loop-i.scratch.bytes c.loop-i.i _ (omega arith) (omega arith) inv.1 c.changed.ensures.value,
    )

use Rattle.layer.proofs.Pieces.{sent_changed}
use Rattle.layer.proofs.layer.Layer.send.Goals as goal

pub returns : goal.returns
returns g c =
    record {
      left = sent_changed g.C.Change.kind (g.B.SpiBus.answers c.args.self.now.below) c.args.piece.now _ c.changed_piece.ensures.bytes c.write.ensures.left;
    }

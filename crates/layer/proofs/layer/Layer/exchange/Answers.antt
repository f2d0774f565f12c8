use Rattle.std.proofs.Common.{◌≡◌, map, length, sym, ap, ◌∙◌}
use Rattle.std.proofs.lemmas.List.{length-map, take_at}
use Rattle.layer.specs.Kinds.{change}
use Rattle.layer.proofs.Pieces.{ran_changed}
use Rattle.layer.proofs.layer.Layer.exchange.Goals as goal

pub returns : goal.returns
returns g c =
    let k = g.C.Change.kind in
    let below = g.B.SpiBus.answers c.args.self.now.below in
    let piece = c.args.piece.now in
    let loaded = c.changed_piece.ensures.bytes in
    let ran = c.transfer_in_place.ensures.ran in
    let got = c.transfer_in_place.new.words in
    let whole : length got ≡ length piece =
    sym (ap length ran.gave) ∙ (g.B.SpiBus.causal c.args.self.now.below).count _ ∙ ap length loaded ∙ length-map piece (change k) in
    record {
      ran = ran_changed k below piece _ loaded ran (c.hand_back.ensures.bytes ∙ ap (map (change k)) (take_at got _ (length piece) whole));
    }

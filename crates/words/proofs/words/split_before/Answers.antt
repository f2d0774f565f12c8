use Rattle.std.proofs.Common.{length, take, sym, ap, ◌∙◌, rules}
use Rattle.std.specs.Option.{unwrap_or}
use Rattle.std.proofs.lemmas.Iterator.{YieldsList-from_slice}
use Rattle.std.proofs.lemmas.Iterator.Search.{position_from_yields_List}
use Rattle.words.proofs.Cuts.{before_is, place}
use Rattle.words.proofs.words.split_before.Goals as goal

pub returns-clause-front : goal.returns-clause-front
returns-clause-front g c = λ p computes.
    let bs = c.args.bytes.now in
    let found = position_from_yields_List p _ _ c.position.result c.position.ensures.ran (YieldsList-from_slice _ c.iter.ensures.rest) (λ x b q k. (search rules, computes x.now b (search rules))) in
    c.split_at.ensures.front ∙ ap (λ n. take n bs) (c.unwrap_or-place.ensures ∙ ap (λ r. unwrap_or r (length bs)) found ∙ place p bs) ∙ sym (before_is p bs)

use Rattle.std.proofs.Common.{◌<◌, not, length, drop, sym, ap, ◌∙◌, arith, rules, true-eqb, false-eqb}
use Rattle.std.proofs.lemmas.List.{nil_from_length}
use Rattle.words.specs.Words.{blank}
use Rattle.words.proofs.Cuts.{left, next_of, no_more, none_left}
use Rattle.words.proofs.words.Words.next_word.Goals as goal

pub returns-then-is_empty : goal.returns-then-is_empty
returns-then-is_empty c =
    let skip = c.split_before in
    let cut = c.split_before-2 in
    let blanks = skip.ensures.front (λ b. not (blank b)) (λ b r e. search rules) in
    let word = cut.ensures.front blank (λ b r e. search rules) in
    let none = nil_from_length cut.result.0.now (true-eqb _ 0 c.if-is_empty.ensures) in
    record {
      word = sym c.self.view_is ∙ no_more _ _ _ _ _ blanks skip.ensures.back word cut.ensures.back none;
      left = none_left _ _ _ _ _ blanks skip.ensures.back word cut.ensures.back none ∙ ap (drop 1) c.self.view_is;
    }

pub returns : goal.returns
returns c =
    let skip = c.split_before in
    let cut = c.split_before-2 in
    let blanks = skip.ensures.front (λ b. not (blank b)) (λ b r e. search rules) in
    let word = cut.ensures.front blank (λ b r e. search rules) in
    let some : 0 < length cut.result.0.now = omega (arith, false-eqb _ 0 c.if-is_empty.ensures) in
    record {
      word = sym c.self.view_is ∙ next_of _ _ _ _ _ blanks skip.ensures.back word cut.ensures.back some;
      left = left _ _ _ _ _ blanks skip.ensures.back word cut.ensures.back some ∙ ap (drop 1) c.self.view_is;
    }

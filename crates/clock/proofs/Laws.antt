-- The clock word sets the clock, and no other answer does.
use Rattle.std.proofs.Common.{◌≡◌, ℕ, ◌*◌, ◌/◌, eqb, ltb, Ok, Err, Result, sym, refl, ap, ◌∙◌, inl, inr, arith}
use Rattle.std.proofs.lemmas.Bool.{cond_both, cond-true, cond-false, eq-eqb, ne_eqb, lt-ltb, le-ltb, eqb-true, eqb-false, ltb-true, ltb-false}
use Rattle.clock.specs.declared.error.ConfigError.{ConfigError}
use Rattle.clock.specs.declared.error.ConfigError.TheVariants.{FrequencyOutOfRange, BadSource}
use Rattle.clock.specs.Clock.{Clocked, Sets, clock_word, divided_word, number, word_of}
use Rattle.clock.proofs.Wins.{best, only}

pub clocked : (s f : ℕ) → Clocked s f (clock_word s f)
clocked s f =
    cond_both (eqb f 0) _ _ (Clocked s f) (λ t. (eqb-true f 0 t, refl))
    (λ t. (
      omega (arith, eqb-false f 0 t),
      cond_both (ltb (s / 4 * 3) f) _ _ (Sets s f)
          (λ u. inl (ltb-true _ _ u, refl)) (λ u. inr (ltb-false _ _ u, (_, (_, (best s f, refl))))),
    ))

sets : (s f w : ℕ) → Sets s f w → w ≡ word_of s f
sets s f w (inl h) = h.1 ∙ sym (cond-true _ _ _ (lt-ltb _ _ h.0))
sets s f w (inr h) =
    let p = h.1.1 in
    p.1.1 ∙ ap (λ (d : ℕ × ℕ). divided_word d.0 d.1) (only s f _ _ p.1.0) ∙ sym (cond-false _ _ _ (le-ltb _ _ h.0))

third : (e : ConfigError) → number e ≡ 3 → e ≡ FrequencyOutOfRange
third FrequencyOutOfRange h = refl
third BadSource h = let z : ⊥ = omega arith in elim z [ ]

pub determined : (s f : ℕ) (q : Result ℕ ConfigError) → Clocked s f q → q ≡ clock_word s f
determined s f (Ok w) h = ap Ok (sets s f w h.1) ∙ sym (cond-false _ _ _ (ne_eqb f 0 (λ z. omega arith)))
determined s f (Err e) h = ap Err (third e h.1) ∙ sym (cond-true _ _ _ (eq-eqb f 0 h.0))

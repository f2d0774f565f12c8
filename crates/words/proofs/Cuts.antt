-- Where a line is cut into its words. Assumes nothing.
use Rattle.std.proofs.Common.{◌≡◌, ℕ, zero, suc, ◌+◌, ◌<◌, ◌≤◌, Bool, true, false, not, cond, eqb, ltb, List, [], ◌∷◌, ◌++◌, length, get_or, take, drop, Some, None, sym, refl, ap, ◌∙◌, arith}
use Rattle.std.specs.List.{position_or_len}
use Rattle.std.specs.Option.{unwrap_or}
use Rattle.std.proofs.lemmas.List.{drop_more, drop_all, take_more, take_all, append_assoc, append-nil}
use Rattle.std.proofs.lemmas.List.Sums.{prefix_len-le-length}
use Rattle.std.proofs.lemmas.Bool.{eq-eqb, ne_eqb, cond-true, cond-false}
use Rattle.std.proofs.lemmas.Bool.Decides.{nat_tests}
use Rattle.words.specs.Words.{before, blank, begun, uncarried, words, words_after}

-- the blanks at the front are passed
abbrev unblanked : List ℕ → List ℕ
unblanked [] = []
unblanked (b ∷ bs) = cond (blank b) (unblanked bs) (b ∷ bs)

-- where the first byte stands that p holds of, or the length
pub before_is : (p : ℕ → Bool) (bs : List ℕ) → before p bs ≡ take (position_or_len p bs) bs
before_is p [] = refl
before_is p (b ∷ bs) = by (p b) (before_is p bs) where
  by : (t : Bool) → before p bs ≡ take (position_or_len p bs) bs → cond t [] (b ∷ before p bs) ≡ take (cond (not t) (1 + position_or_len p bs) 0) (b ∷ bs)
  by true e = refl
  by false e =
      let next : suc (position_or_len p bs) ≡ 1 + position_or_len p bs = omega arith in
      ap (λ xs. b ∷ xs) e ∙ ap (λ n. take n (b ∷ bs)) next

pub place : (p : ℕ → Bool) (bs : List ℕ) → unwrap_or (cond (ltb (position_or_len p bs) (length bs)) (Some (position_or_len p bs)) None) (length bs) ≡ position_or_len p bs
place p bs = grind (arith, prefix_len-le-length, nat_tests)

-- what stands before a byte, and behind blanks, by places
module _ (p : ℕ → Bool) (bs : List ℕ) (i : ℕ) (sofar : take i bs ++ before p (drop i bs) ≡ before p bs) where
  pub before_stop : i < length bs → p (get_or bs i 0) ≡ true → take i bs ≡ before p bs
  before_stop here e =
      sym (append-nil (take i bs)) ∙ ap (λ xs. take i bs ++ xs) (sym (ap (before p) (drop_more bs i 0 here) ∙ cond-true (p (get_or bs i 0)) [] _ e)) ∙ sofar

  pub before_more : i < length bs → p (get_or bs i 0) ≡ false → take (i + 1) bs ++ before p (drop (i + 1) bs) ≡ before p bs
  before_more here e =
      ap (λ xs. xs ++ before p (drop (i + 1) bs)) (take_more bs i 0 here)
      ∙ append_assoc (take i bs) (get_or bs i 0 ∷ []) _
      ∙ ap (λ xs. take i bs ++ xs) (sym (ap (before p) (drop_more bs i 0 here) ∙ cond-false (p (get_or bs i 0)) [] _ e))
      ∙ sofar

  pub before_all : length bs ≤ i → bs ≡ before p bs
  before_all h = sym (append-nil bs) ∙ sym (ap (λ xs. xs ++ []) (take_all i bs h)) ∙ sym (ap (λ xs. take i bs ++ before p xs) (drop_all i bs h)) ∙ sofar

module _ (bs : List ℕ) (i : ℕ) (sofar : unblanked (drop i bs) ≡ unblanked bs) where
  pub unblanked_stop : i < length bs → blank (get_or bs i 0) ≡ false → drop i bs ≡ unblanked bs
  unblanked_stop here e =
      drop_more bs i 0 here ∙ sym (ap unblanked (drop_more bs i 0 here) ∙ cond-false (blank (get_or bs i 0)) _ _ e) ∙ sofar

  pub unblanked_more : i < length bs → blank (get_or bs i 0) ≡ true → unblanked (drop (i + 1) bs) ≡ unblanked bs
  unblanked_more here e = sym (ap unblanked (drop_more bs i 0 here) ∙ cond-true (blank (get_or bs i 0)) _ _ e) ∙ sofar

  pub unblanked_all : length bs ≤ i → [] ≡ unblanked bs
  unblanked_all h = sym (ap unblanked (drop_all i bs h)) ∙ sofar

-- a CR at the end, and none
pub carried : (line : List ℕ) (k : ℕ) → length line ≡ k + 1 → get_or line k 0 ≡ 13 → take k line ≡ uncarried line
carried [] k e h = absurd (omega arith)
carried (b ∷ []) zero e h = sym (cond-true (eqb b 13) [] (b ∷ []) (eq-eqb b 13 h))
carried (b ∷ []) (suc k) e h = absurd (omega arith)
carried (b ∷ c ∷ bs) zero e h = absurd (omega arith)
carried (b ∷ c ∷ bs) (suc k) e h = ap (λ xs. b ∷ xs) (carried (c ∷ bs) k (omega arith) h)

pub not_carried : (line : List ℕ) → ((k : ℕ) → length line ≡ k + 1 → get_or line k 0 ≡ 13 → ⊥) → line ≡ uncarried line
not_carried [] h = refl
not_carried (b ∷ []) h = sym (cond-false (eqb b 13) [] (b ∷ []) (ne_eqb b 13 (h 0 (omega arith))))
not_carried (b ∷ c ∷ bs) h = ap (λ xs. b ∷ xs) (not_carried (c ∷ bs) (λ k e. h (suc k) (omega arith)))

by_blank : {X : Type 0} (b : ℕ) → (blank b ≡ true → X) → (blank b ≡ false → X) → X
by_blank {X} b f g = by (blank b) f g where
  by : (t : Bool) → (t ≡ true → X) → (t ≡ false → X) → X
  by true f g = f refl
  by false f g = g refl

-- the blanks at the front are what stands before the first byte that is none
pub unblanked_is : (bs : List ℕ) → drop (length (before (λ b. not (blank b)) bs)) bs ≡ unblanked bs
unblanked_is [] = refl
unblanked_is (b ∷ bs) = by (blank b) (unblanked_is bs) where
  by : (t : Bool) → drop (length (before (λ c. not (blank c)) bs)) bs ≡ unblanked bs → drop (length (cond (not t) [] (b ∷ before (λ c. not (blank c)) bs))) (b ∷ bs) ≡ cond t (unblanked bs) (b ∷ bs)
  by true e = e
  by false e = refl

words-unblanked : (bs : List ℕ) → words bs ≡ words (unblanked bs)
words-unblanked [] = refl
words-unblanked (b ∷ bs) =
    let rest : words bs ≡ words (unblanked bs) = words-unblanked bs in
    by_blank b
    (λ e. cond-true (blank b) _ _ e ∙ rest ∙ sym (ap words (cond-true (blank b) (unblanked bs) (b ∷ bs) e)))
    (λ e. sym (ap words (cond-false (blank b) (unblanked bs) (b ∷ bs) e)))

-- a word, and the words that follow it
split : (w bs : List ℕ) → words_after w bs ≡ begun (w ++ before blank bs) ++ words (drop (length (before blank bs)) bs)
split w [] = sym (append-nil (begun (w ++ [])) ∙ ap begun (append-nil w))
split w (b ∷ bs) =
    let rest : words_after (w ++ b ∷ []) bs ≡ begun ((w ++ b ∷ []) ++ before blank bs) ++ words (drop (length (before blank bs)) bs) = split (w ++ b ∷ []) bs in
    by_blank b (stops w b bs) (λ e. cond-false (blank b) _ _ e ∙ rest ∙ ap (λ xs. begun xs ++ words (drop (length (before blank bs)) bs)) (append_assoc w (b ∷ []) (before blank bs)) ∙ sym (ap (λ xs. begun (w ++ xs) ++ words (drop (length xs) (b ∷ bs))) (cond-false (blank b) [] (b ∷ before blank bs) e)))
  where
    stops : (w : List ℕ) (b : ℕ) (bs : List ℕ) → blank b ≡ true → words_after w (b ∷ bs) ≡ begun (w ++ before blank (b ∷ bs)) ++ words (drop (length (before blank (b ∷ bs))) (b ∷ bs))
    stops w b bs e =
        cond-true (blank b) (begun w ++ words bs) _ e
        ∙ sym (ap (λ xs. begun (w ++ xs) ++ words (drop (length xs) (b ∷ bs))) (cond-true (blank b) [] (b ∷ before blank bs) e) ∙ ap (λ xs. begun xs ++ words (b ∷ bs)) (append-nil w) ∙ ap (λ ws. begun w ++ ws) (cond-true (blank b) (words bs) _ e))

-- nothing stands before the first blank, and no blank at the front: nothing is there
ends : (bs : List ℕ) → before blank (unblanked bs) ≡ [] → unblanked bs ≡ []
ends [] h = refl
ends (b ∷ bs) h =
    let rest : before blank (unblanked bs) ≡ [] → unblanked bs ≡ [] = ends bs in
    by_blank b
    (λ e. let same = cond-true (blank b) (unblanked bs) (b ∷ bs) e in same ∙ rest (sym (ap (before blank) same) ∙ h))
    (λ e. let same = cond-false (blank b) (unblanked bs) (b ∷ bs) e in
    let cons = sym (cond-false (blank b) [] (b ∷ before blank bs) e) ∙ sym (ap (before blank) same) ∙ h in
    let z : ◌≡◌ {A = ℕ} 0 1 = cc in absurd (omega arith))

module _ (bs : List ℕ) where
  pub no_word : before blank (unblanked bs) ≡ [] → words bs ≡ []
  no_word h = words-unblanked bs ∙ ap words (ends bs h)

  pub one_word : (w : List ℕ) → 0 < length w → w ≡ before blank (unblanked bs) → words bs ≡ w ∷ words (drop (length w) (unblanked bs))
  one_word [] pos e = absurd (omega arith)
  one_word (b ∷ w) pos e = words-unblanked bs ∙ split [] (unblanked bs) ∙ sym (ap (λ xs. begun xs ++ words (drop (length xs) (unblanked bs))) e)

-- the blanks at the front of bs, the word w behind them, and what is left
module _ (bs blanks rest w more : List ℕ) (passed : blanks ≡ before (λ b. not (blank b)) bs) (then : rest ≡ drop (length blanks) bs) (front : w ≡ before blank rest) (back : more ≡ drop (length w) rest) where
  rest_is : rest ≡ unblanked bs
  rest_is = then ∙ ap (λ xs. drop (length xs) bs) passed ∙ unblanked_is bs

  word_is : w ≡ before blank (unblanked bs)
  word_is = front ∙ ap (before blank) rest_is

  more_is : more ≡ drop (length w) (unblanked bs)
  more_is = back ∙ ap (drop (length w)) rest_is

  pub no_more : w ≡ [] → words bs ≡ []
  no_more e = no_word bs (sym word_is ∙ e)

  pub next_of : 0 < length w → words bs ≡ w ∷ words more
  next_of some = one_word bs w some word_is ∙ ap (λ xs. w ∷ words xs) (sym more_is)

  pub none_left : w ≡ [] → words more ≡ drop 1 (words bs)
  none_left e =
      ap words (more_is ∙ ap (λ xs. drop (length xs) (unblanked bs)) e ∙ ends bs (sym word_is ∙ e)) ∙ sym (ap (drop 1) (no_more e))

  pub left : 0 < length w → words more ≡ drop 1 (words bs)
  left some = sym (ap (drop 1) (next_of some))

-- The parts of a text between its LFs are its lines. Assumes nothing.
use Rattle.std.proofs.Common.{◌≡◌, ℕ, suc, ◌+◌, ◌<◌, Bool, true, false, cond, eqb, List, [], ◌∷◌, length, drop, Bor, sym, refl, subst, ap, ◌∙◌, add-one, arith}
use denote.Param.Members.{Mut}
use Rattle.std.specs.Fn.{CalledAt}
use Rattle.std.specs.Iterator.Adapters.{enumerate_source, enumerate_count, enumerate_steps}
use Rattle.std.specs.List.{enumerate_from, onto_first, slice_split}
use Rattle.std.specs.Slice.Iter.{split_rest, split_done, split_callee, split_steps}
use Rattle.std.specs.declared.iter.Enumerate.{Enumerate}
use Rattle.std.specs.declared.slice.Split.{Split}
use Rattle.std.proofs.lemmas.Iterator.{YieldsList}
use Rattle.std.proofs.lemmas.Iterator.Consumers.{YieldsList-from_enumerate}
use Rattle.std.proofs.lemmas.Iterator.Splits.{YieldsList-from_slice_split}
use Rattle.words.specs.Words.{before, lines, onto}

same_onto : (b : ℕ) (ls : List (List ℕ)) → onto_first b ls ≡ onto b ls
same_onto b [] = refl
same_onto b (l ∷ ls) = refl

parts_lines : (bs : List ℕ) → slice_split (λ b. eqb b 0x0A) bs ≡ lines bs
parts_lines [] = refl
parts_lines (b ∷ bs) =
    ap (λ (ls : List (List ℕ)). cond (eqb b 0x0A) ([] ∷ ls) (onto_first b ls)) (parts_lines bs) ∙ ap (cond (eqb b 0x0A) ([] ∷ lines bs)) (same_onto b (lines bs))

-- `split` at LF and then `enumerate` give the lines, each with its place
pub YieldsList-from_lines : {F : Type 0} {s : Enumerate (Split ℕ F)} (g : Mut F (Bor ℕ × Unit {0}) Bool) {f : F} (text : List ℕ)
    → split_rest (enumerate_source s) ≡ text → split_done (enumerate_source s) ≡ false → split_callee (enumerate_source s) ≡ f → enumerate_count s ≡ 0
    → ((x : ℕ) (b : Bool) (q : F) → CalledAt g f x b q → (q ≡ f) × (b ≡ eqb x 0x0A))
    → YieldsList {B = ℕ × List ℕ} (enumerate_steps (split_steps g)) (λ p. (p.0, p.1.now)) s (enumerate_from 0 (lines text))
YieldsList-from_lines {s = s} g text rest done closure count tests =
    subst (λ (ls : List (List ℕ)). YieldsList {B = ℕ × List ℕ} (enumerate_steps (split_steps g)) (λ p. (p.0, p.1.now)) s (enumerate_from 0 ls)) (parts_lines text)
    (YieldsList-from_enumerate (YieldsList-from_slice_split g (λ b. eqb b 0x0A) text rest done closure tests) count)

-- the last line of a text, and the first of several
abbrev pub LF : ℕ → Bool
LF b = eqb b 0x0A

-- all is one line
pub last_line : (bs : List ℕ) → length (before LF bs) ≡ length bs → lines bs ≡ before LF bs ∷ []
last_line [] e = refl
last_line (b ∷ bs) e = by (LF b) (last_line bs) e where
  by : (t : Bool) → (length (before LF bs) ≡ length bs → lines bs ≡ before LF bs ∷ []) → length (cond t [] (b ∷ before LF bs)) ≡ suc (length bs) → cond t ([] ∷ lines bs) (onto b (lines bs)) ≡ cond t [] (b ∷ before LF bs) ∷ []
  by true f h = absurd (omega arith)
  by false f h = ap (onto b) (f (omega arith))

-- a line, and those behind its LF
pub more_lines : (bs : List ℕ) → length (before LF bs) < length bs → lines bs ≡ before LF bs ∷ lines (drop (length (before LF bs) + 1) bs)
more_lines [] h = absurd (omega arith)
more_lines (b ∷ bs) h = by (LF b) (more_lines bs) h where
  by : (t : Bool) → (length (before LF bs) < length bs → lines bs ≡ before LF bs ∷ lines (drop (length (before LF bs) + 1) bs)) → length (cond t [] (b ∷ before LF bs)) < suc (length bs) → cond t ([] ∷ lines bs) (onto b (lines bs)) ≡ cond t [] (b ∷ before LF bs) ∷ lines (drop (length (cond t [] (b ∷ before LF bs)) + 1) (b ∷ bs))
  by true f h = refl
  by false f h = ap (onto b) (f (omega arith)) ∙ ap (λ n. (b ∷ before LF bs) ∷ lines (drop n (b ∷ bs))) (ap suc (add-one (length (before LF bs))) ∙ sym (add-one (suc (length (before LF bs)))))

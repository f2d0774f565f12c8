-- Layers undo themselves and pass one another, so only their parity counts.
use Rattle.std.proofs.Common.{◌≡◌, ℕ, zero, suc, ◌%◌, List, [], ◌∷◌, map, sym, refl, ap, ◌∙◌, ⊎_elim, map-id, arith}
use mathlib.Core.Path.{fun_ext}
use mathlib.Core.List.{map-map}
use Rattle.std.specs.List.{range_with_len}
use Rattle.std.proofs.lemmas.Bool.{cases_lt}
use Rattle.mirror.specs.Mirror as bits
use Rattle.mirror.proofs.Bits.{no_byte}
use Rattle.mirror.proofs.Tables.{by_table}
use Rattle.bus.specs.Answers.{Answers, after}
use Rattle.bus.specs.Calls.{Call, answered_by, sent_by}
use Rattle.layer.specs.Kinds.{Kind, change, changed, invert, inverter, mirror}
use Rattle.layer.specs.Undone.{change_twice, no_inverse}
use Rattle.layer.proofs.Pieces.{changed-after}
use Rattle.pile.specs.Piles.{Alike, Bus, Performed, count, lifted, lowered}

-- antt computes both at each of the 256 bytes
swap_bytes : map (λ x. invert (bits.mirror x)) (range_with_len 0 256) ≡ map (λ x. bits.mirror (invert x)) (range_with_len 0 256)
unfolding bits.mirror invert
swap_bytes = refl

swap : (x : ℕ) → change inverter (change mirror x) ≡ change mirror (change inverter x)
swap x =
    ⊎_elim (by_table (λ y. invert (bits.mirror y)) (λ y. bits.mirror (invert y)) 256 swap_bytes x)
    (λ h. ap invert (no_byte x h) ∙ no_inverse x h ∙ sym (ap bits.mirror (no_inverse x h) ∙ no_byte x h))
    (cases_lt x 256)

change_swap : (j k : Kind) (x : ℕ) → change j (change k x) ≡ change k (change j x)
change_swap mirror mirror x = refl
change_swap mirror inverter x = sym (swap x)
change_swap inverter mirror x = swap x
change_swap inverter inverter x = refl

map_twice : (k : Kind) (xs : List ℕ) → map (change k) (map (change k) xs) ≡ xs
map_twice k xs = map-map (change k) (change k) xs ∙ ap (λ f. map f xs) (fun_ext (change_twice k)) ∙ map-id xs

map_swap : (j k : Kind) (xs : List ℕ) → map (change j) (map (change k) xs) ≡ map (change k) (map (change j) xs)
map_swap j k xs =
    map-map (change j) (change k) xs ∙ ap (λ f. map f xs) (fun_ext (change_swap j k)) ∙ sym (map-map (change k) (change j) xs)

changed_twice : (k : Kind) (a : Answers) → changed k (changed k a) ≡ a
changed_twice k a = fun_ext (λ xs. map_twice k _ ∙ ap a (map_twice k xs))

changed_swap : (j k : Kind) (a : Answers) → changed j (changed k a) ≡ changed k (changed j a)
changed_swap j k a =
    fun_ext (λ xs. map_swap j k _ ∙ ap (λ ys. map (change k) (map (change j) (a ys))) (sym (map_swap j k xs)))

-- a pile after some bytes is the pile over the bus after those bytes, changed on the way
pub lifted-after : (ks : List Kind) (a : Answers) (xs : List ℕ) → after (lifted ks a) xs ≡ lifted ks (after a (lowered ks xs))
lifted-after [] a xs = refl
lifted-after (k ∷ ks) a xs =
    changed-after k (lifted ks a) xs ∙ ap (changed k) (lifted-after ks a (map (change k) xs))

-- the answers above tell those beneath
pub unlifted : (ks : List Kind) (a b : Answers) → lifted ks a ≡ lifted ks b → a ≡ b
unlifted [] a b e = e
unlifted (k ∷ ks) a b e =
    unlifted ks a b (sym (changed_twice k (lifted ks a)) ∙ ap (changed k) e ∙ changed_twice k (lifted ks b))

-- n layers of one kind
times : ℕ → Kind → Answers → Answers
times zero k a = a
times (suc n) k a = changed k (times n k a)

past : (j k : Kind) (n : ℕ) (a : Answers) → changed j (times n k a) ≡ times n k (changed j a)
unfolding times
past j k zero a = refl
past j k (suc n) a = changed_swap j k (times n k a) ∙ ap (changed k) (past j k n a)

-- the layers of one kind first, then those of the other
sorted : (ks : List Kind) (a : Answers) → lifted ks a ≡ times (count mirror ks) mirror (times (count inverter ks) inverter a)
unfolding times
sorted [] a = refl
sorted (mirror ∷ ks) a = ap (changed mirror) (sorted ks a)
sorted (inverter ∷ ks) a =
    ap (changed inverter) (sorted ks a) ∙ past inverter mirror (count mirror ks) (times (count inverter ks) inverter a)

parity : (k : Kind) (n : ℕ) (a : Answers) → times n k a ≡ times (n % 2) k a
unfolding times
parity k zero a = refl
parity k (suc zero) a = refl
parity k (suc (suc n)) a =
    let e : suc (suc n) % 2 ≡ n % 2 = omega arith in
    changed_twice k (times n k a) ∙ parity k n a ∙ ap (λ m. times m k a) (sym e)

reduced : (ks : List Kind) (a : Answers) → lifted ks a ≡ times (count mirror ks % 2) mirror (times (count inverter ks % 2) inverter a)
reduced ks a =
    sorted ks a ∙ parity mirror (count mirror ks) _ ∙ ap (times (count mirror ks % 2) mirror) (parity inverter (count inverter ks) a)

module _ (ks ls : List Kind) (alike : Alike ks ls) where
  pub same_lifted : (a : Answers) → lifted ks a ≡ lifted ls a
  same_lifted a = reduced ks a ∙ (rw (alike mirror, alike inverter)) ∙ sym (reduced ls a)

  pub same_lowered : (a : Answers) (xs : List ℕ) → after a (lowered ks xs) ≡ after a (lowered ls xs)
  same_lowered a xs =
      unlifted ls _ _
      (sym (same_lifted (after a (lowered ks xs))) ∙ sym (lifted-after ks a xs) ∙ ap (λ (h : Answers). after h xs) (same_lifted a) ∙ lifted-after ls a xs)

  -- what was done through some layers was done through any of the same parity
  pub same_performed : {calls results : List Call} {m n : Bus} → Performed ks calls results m n → Performed ls calls results m n
  same_performed {calls} {results} {m} {n} p =
      record {
        received = p.received ∙ ap (λ (a : Answers). answered_by calls (a (sent_by calls))) (same_lifted m.answers);
        left = p.left ∙ same_lowered m.answers (sent_by calls);
        rests = p.rests;
        still = p.still;
      }

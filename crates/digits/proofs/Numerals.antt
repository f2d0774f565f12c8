-- A value that has passed 2^32 stays past it. Assumes nothing.
use Rattle.std.proofs.Common.{◌≡◌, ℕ, ◌+◌, ◌*◌, ◌^◌, ◌<◌, ◌≤◌, List, [], ◌∷◌, length, get_or, drop, Some, None, codes, Option, sym, refl, ◌∙◌, ⊎_elim, le-mul_of_pos_right, arith}
use Rattle.std.specs.Option.{option_map}
use Rattle.std.proofs.lemmas.Bool.{le-ltb, lt-ltb, cases_lt, cond-true, cond-false}
use Rattle.std.proofs.lemmas.Bool.Decides.{nat_tests}
use Rattle.std.specs.Str.{bytes_eq}
use Rattle.digits.specs.Digits.{and_then, below, added, hex_digit, value_after, numeral, number}

-- some value is given up once it is too large
past : (n : ℕ) → 2 ^ 32 ≤ n → below (2 ^ 32) (Some n) ≡ None
past n h = cond-false _ (Some n) None (le-ltb n (2 ^ 32) h)

within : (n : ℕ) → n < 2 ^ 32 → below (2 ^ 32) (Some n) ≡ Some n
within n h = cond-true _ (Some n) None (lt-ltb n (2 ^ 32) h)

over : (base n : ℕ) (bs : List ℕ) → 0 < base → 2 ^ 32 ≤ n → below (2 ^ 32) (value_after base n bs) ≡ None
over base n [] pos h = past n h
over base n (b ∷ bs) pos h = by (below base (hex_digit b)) (λ d. over base (n * base + d) bs pos (omega (arith, le-mul_of_pos_right n pos))) where
  by : (o : Option ℕ) → ((d : ℕ) → below (2 ^ 32) (value_after base (n * base + d) bs) ≡ None) → below (2 ^ 32) (and_then (option_map (λ d. n * base + d) o) (λ m. value_after base m bs)) ≡ None
  by None f = refl
  by (Some d) f = f d

module _ (base n b : ℕ) (bs : List ℕ) (pos : 0 < base) where
  pub stops : below (2 ^ 32) (added base n b) ≡ None → below (2 ^ 32) (value_after base n (b ∷ bs)) ≡ None
  stops = by (added base n b) where
    by : (o : Option ℕ) → below (2 ^ 32) o ≡ None → below (2 ^ 32) (and_then o (λ m. value_after base m bs)) ≡ None
    by None e = refl
    by (Some m) e = ⊎_elim (λ h. let z = sym (within m h) ∙ e in grind arith) (λ h. over base m bs pos h) (cases_lt m (2 ^ 32))

-- some digits are there
pub some : (base : ℕ) (bs : List ℕ) → 0 < length bs → numeral base bs ≡ below (2 ^ 32) (value_after base 0 bs)
some base [] h = absurd (omega arith)
some base (b ∷ bs) h = refl

pub hexadecimal : (word : List ℕ) → 2 ≤ length word → get_or word 0 0 ≡ 48 → get_or word 1 0 ≡ 120 → numeral 16 (drop 2 word) ≡ number word
hexadecimal [] h z x = absurd (omega arith)
hexadecimal (a ∷ []) h z x = absurd (omega arith)
hexadecimal (a ∷ b ∷ ds) h z x = sym (cond-true (bytes_eq (a ∷ b ∷ []) (codes "0x")) _ _ (grind (arith, nat_tests)))

pub decimal : (word : List ℕ) → (2 ≤ length word → get_or word 0 0 ≡ 48 → get_or word 1 0 ≡ 120 → ⊥) → numeral 10 word ≡ number word
decimal [] h = refl
decimal (a ∷ []) h = sym (cond-false (bytes_eq (a ∷ []) (codes "0x")) _ _ (grind (arith, nat_tests)))
decimal (a ∷ b ∷ ds) h = sym (cond-false (bytes_eq (a ∷ b ∷ []) (codes "0x")) _ _ (let f = h (omega arith) in grind (arith, nat_tests)))

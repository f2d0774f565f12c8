-- The mirrored byte's rule, at every byte.
use Rattle.std.proofs.Common.{◌≡◌, ℕ, ◌-◌, ◌<◌, ◌≤◌, true, ltb, List, map, refl, ap, ◌∙◌, ⊎_elim}
use Rattle.std.specs.List.{range_with_len}
use Rattle.std.proofs.lemmas.Bool.{cases_lt, le-ltb, ltb-true}
use Rattle.mirror.specs.Mirror.{Mirrors, bit, mirror}
use Rattle.mirror.proofs.Tables.{by_table}

-- bit i of every byte mirrored, and bit 7 - i of every byte
mirrored_bits : ℕ → List ℕ
mirrored_bits i = map (λ x. bit i (mirror x)) (range_with_len 0 256)

straight_bits : ℕ → List ℕ
straight_bits i = map (bit (7 - i)) (range_with_len 0 256)

pub mirror_mirrors : (x : ℕ) → x < 256 → Mirrors x (mirror x)
unfolding mirror mirrored_bits straight_bits
mirror_mirrors x lt =
    record {
      byte = ltb-true _ _ (by_table (λ y. ltb (mirror y) 256) (λ _. true) 256 refl x lt);
      bits = λ i h. by_table (λ y. bit i (mirror y)) (bit (7 - i)) 256 (by_table mirrored_bits straight_bits 8 refl i h) x lt;
    }

pub no_byte : (x : ℕ) → 256 ≤ x → mirror x ≡ x
unfolding mirror
no_byte x h = rw (le-ltb x 256 h)

twice_bytes : map (λ y. mirror (mirror y)) (range_with_len 0 256) ≡ map (λ y. y) (range_with_len 0 256)
unfolding mirror
twice_bytes = refl

pub mirror_twice : (x : ℕ) → mirror (mirror x) ≡ x
mirror_twice x =
    ⊎_elim (by_table (λ y. mirror (mirror y)) (λ y. y) 256 twice_bytes x) (λ h. ap mirror (no_byte x h) ∙ no_byte x h) (cases_lt x 256)

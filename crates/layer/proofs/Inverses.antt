-- The inverter's rule, at every byte.
use Rattle.std.proofs.Common.{ℕ, ◌-◌, ◌<◌, List, map, refl, arith}
use Rattle.std.specs.List.{range_with_len}
use Rattle.mirror.specs.Mirror.{bit}
use Rattle.mirror.proofs.Tables.{by_table}
use Rattle.layer.specs.Kinds.{Flips}

-- bit i of every byte inverted, and what is not bit i of every byte
inverted_bits : ℕ → List ℕ
inverted_bits i = map (λ x. bit i (255 - x)) (range_with_len 0 256)

other_bits : ℕ → List ℕ
other_bits i = map (λ x. 1 - bit i x) (range_with_len 0 256)

pub flips : (x : ℕ) → x < 256 → Flips x (255 - x)
unfolding inverted_bits other_bits
flips x lt =
    record {
      byte = omega arith;
      bits = λ i h. by_table (λ y. bit i (255 - y)) (λ y. 1 - bit i y) 256 (by_table inverted_bits other_bits 8 refl i h) x lt;
    }

-- The mirrored byte: bit 0 for bit 7 and so on.
use Rattle.std.specs.Prelude.{◌≡◌, ℕ, ◌+◌, ◌-◌, ◌*◌, ◌/◌, ◌%◌, ◌^◌, ◌<◌, cond, nat_lt}

abbrev pub bit : ℕ → ℕ → ℕ
bit i x = x / 2 ^ i % 2

-- what is no byte stays as it is, so that the mirror undoes itself at every number
unfoldable pub mirror : ℕ → ℕ
mirror x =
    cond (nat_lt x 256)
    (bit 0 x * 128 + bit 1 x * 64 + bit 2 x * 32 + bit 3 x * 16 + bit 4 x * 8 + bit 5 x * 4 + bit 6 x * 2 + bit 7 x) x

-- y is the byte x mirrored: bit i stands where bit 7 - i stood
pub record Mirrors (x y : ℕ) : Type 0 where
  pub byte : y < 256
  pub bits : (i : ℕ) → i < 8 → bit i y ≡ bit (7 - i) x

-- The two dividers of a source rate s toward a wanted frequency f, in Hz: n from 2 to 64, and its prescaler. Divisions drop the fraction.
use Rattle.std.specs.Prelude.{◌≡◌, ℕ, zero, suc, ◌+◌, ◌-◌, ◌*◌, ◌/◌, ◌<◌, ◌≤◌, min, max, cond, Some, None, Option, ◌==◌, nat_le}

-- the prescaler that goes with n: rounded, and brought into 1 to 16
abbrev pub pre_of : ℕ → ℕ → ℕ → ℕ
pre_of s f n = max 1 (min ((s / n + f / 2) / f) 16)

-- how far from f the divided clock runs
abbrev pub error_of : ℕ → ℕ → ℕ → ℕ
error_of s f n = let out = s / (pre_of s f n * n) in (out - f) + (f - out)

-- n from 2 to last, of the least error, the largest where several have it
pub record Least (error : ℕ → ℕ) (last n : ℕ) : Type 0 where
  pub low : 2 ≤ n
  pub high : n ≤ last
  pub least : (k : ℕ) → 2 ≤ k → k ≤ last → error n ≤ error k
  pub largest : (k : ℕ) → n < k → k ≤ last → error n < error k

-- n and pre are the dividers of s toward f: n of the least error, the largest on ties, and its prescaler
pub record Best (s f n pre : ℕ) : Type 0 where
  pub wins : Least (error_of s f) 64 n
  pub goes_with : pre ≡ pre_of s f n

-- the n that Least asks for, with last = m + 2, found by trying each in turn
abbrev pub winner : (ℕ → ℕ) → ℕ → ℕ
winner error zero = 2
winner error (suc m) = let k = suc m + 2 in cond (nat_le (error k) (error (winner error m))) k (winner error m)

-- the dividers: the winning n, and its prescaler
unfoldable pub divisions : ℕ → ℕ → ℕ × ℕ
divisions s f = let n = winner (error_of s f) 62 in (n, pre_of s f n)

-- no dividers make a clock of 0 Hz
abbrev pub dividers_of : ℕ → ℕ → Option (ℕ × ℕ)
dividers_of s f = cond (f == 0) None (Some (divisions s f))

-- A list of one byte. Assumes nothing.
use Rattle.std.proofs.Common.{◌≡◌, ℕ, List, [], ◌∷◌, length, get_or, sym, ap, arith}

pub single : (bs : List ℕ) (b : ℕ) → length bs ≡ 1 → b ≡ get_or bs 0 b → bs ≡ b ∷ []
single [] b n e = absurd (omega arith)
single (a ∷ []) b n e = ap (λ x. x ∷ []) (sym e)
single (a ∷ c ∷ bs) b n e = absurd (omega arith)

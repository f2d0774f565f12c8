-- The winner has the least error, and no other has it.
use Rattle.std.proofs.Common.{◌≡◌, ℕ, zero, suc, ◌+◌, ◌<◌, ◌≤◌, leb, refl, arith}
use Rattle.std.proofs.lemmas.Bool.{cond_both, leb-true, leb-false}
use Rattle.clock.specs.Dividers.{Best, Least, divisions, error_of, winner}

module _ (e : ℕ → ℕ) where
  pub first : Least e 2 2
  first = record { low = omega arith; high = omega arith; least = λ k l h. grind arith; largest = λ k l h. omega arith }

  module _ {z n k : ℕ} (s : k ≡ z + 1) (p : Least e z n) where
    pub taken : e k ≤ e n → Least e k k
    taken t = record { low = omega arith; high = omega arith; least = λ j l h. grind (arith, p.least); largest = λ j l h. omega arith }

    pub kept : e n < e k → Least e k n
    kept t = record { low = omega arith; high = omega arith; least = λ j l h. grind (arith, p.least); largest = λ j l h. grind (arith, p.largest) }

  pub wins : (m : ℕ) → Least e (m + 2) (winner e m)
  wins zero = first
  wins (suc m) =
      cond_both (leb (e (suc m + 2)) (e (winner e m))) _ _ (Least e (suc m + 2))
      (λ t. taken (omega arith) (wins m) (leb-true _ _ t)) (λ t. kept (omega arith) (wins m) (leb-false _ _ t))

  pub alone : {z n k : ℕ} → Least e z n → Least e z k → n ≡ k
  alone {n = n} {k = k} p q = grind (arith, p.largest k, q.largest n, p.least k, q.least n)

pub best : (s f : ℕ) → Best s f (divisions s f).0 (divisions s f).1
unfolding divisions
best s f = record { wins = wins (error_of s f) 62; goes_with = refl }

pub only : (s f n pre : ℕ) → Best s f n pre → (n, pre) ≡ divisions s f
unfolding divisions
only s f n pre b = let q = alone (error_of s f) b.wins (wins (error_of s f) 62) in cc b.goes_with

-- A Both for each byte of a list.
use Rattle.std.proofs.Common.{◌≡◌, ℕ, zero, suc, List, [], ◌∷◌, map, length, refl, arith, lit<}
use Rattle.wire.specs.declared.event.Event.TheVariants.{Both}
use Rattle.wire.specs.Answers.{Bytes, Sendable, replies}

pub replies_boths : (xs : List ℕ) → replies (map Both xs) ≡ length xs
replies_boths [] = refl
replies_boths (x ∷ xs) = omega (arith, replies_boths xs)

pub boths_sendable : (xs : List ℕ) → Bytes xs → Sendable (map Both xs)
boths_sendable [] all k = lit< tt
boths_sendable (x ∷ xs) all zero = all 0
boths_sendable (x ∷ xs) all (suc k) = boths_sendable xs (λ j. all (suc j)) k

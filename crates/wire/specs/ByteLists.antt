-- Lists of bytes, and what keeps them so. Cited where a line says what it means.
use Rattle.std.specs.Prelude.{ℕ, zero, suc, ◌+◌, ◌<◌, List, [], ◌∷◌, ◌++◌, take, drop, replicate, slice_index_or, slice_set}
use Rattle.std.proofs.Common.{sym, subst, lit<}
use Rattle.std.proofs.lemmas.List.{get_or-drop}
use Rattle.wire.specs.Answers.{Bytes}

pub bytes_drop : (n : ℕ) (xs : List ℕ) → Bytes xs → Bytes (drop n xs)
bytes_drop n xs all k = subst (λ (b : ℕ). b < 256) (sym (get_or-drop n xs k 0)) (all (n + k))

pub bytes_take : (n : ℕ) (xs : List ℕ) → Bytes xs → Bytes (take n xs)
bytes_take zero xs all k = lit< tt
bytes_take (suc n) [] all k = lit< tt
bytes_take (suc n) (x ∷ xs) all zero = all 0
bytes_take (suc n) (x ∷ xs) all (suc k) = bytes_take n xs (λ j. all (suc j)) k

pub bytes-append : (xs ys : List ℕ) → Bytes xs → Bytes ys → Bytes (xs ++ ys)
bytes-append [] ys all more k = more k
bytes-append (x ∷ xs) ys all more zero = all 0
bytes-append (x ∷ xs) ys all more (suc k) = bytes-append xs ys (λ j. all (suc j)) more k

pub bytes_one : (b : ℕ) → b < 256 → Bytes (b ∷ [])
bytes_one b h zero = h
bytes_one b h (suc k) = lit< tt

-- what holds at every place holds there once one is set
pub all_set : {X : Type 0} (P : X → Type 0) (d : X) (xs : List X) (i : ℕ) (x : X) → ((k : ℕ) → P (slice_index_or xs k d)) → P x → (k : ℕ) → P (slice_index_or (slice_set xs i x) k d)
all_set P d [] i x all p k = all k
all_set P d (y ∷ xs) zero x all p zero = p
all_set P d (y ∷ xs) zero x all p (suc k) = all (suc k)
all_set P d (y ∷ xs) (suc i) x all p zero = all 0
all_set P d (y ∷ xs) (suc i) x all p (suc k) = all_set P d xs i x (λ j. all (suc j)) p k

pub bytes-replicate : (n b : ℕ) → b < 256 → Bytes (replicate n b)
bytes-replicate zero b h k = lit< tt
bytes-replicate (suc n) b h zero = h
bytes-replicate (suc n) b h (suc k) = bytes-replicate n b h k

-- What a bus is: for every list of bytes sent from now on, the bytes that it gives back.
use Rattle.std.specs.Prelude.{◌≡◌, ℕ, List, ◌++◌, length, take, drop}
use Rattle.wire.specs.Answers.{Bytes}

abbrev pub Answers : Type 0
Answers = List ℕ → List ℕ

-- the answers still to come once the bytes are sent
abbrev pub after : Answers → List ℕ → Answers
after a xs = λ ys. drop (length xs) (a (xs ++ ys))

-- answers that a bus can have: one for each byte, none depends on what follows, each is a byte
pub record Causal (a : Answers) : Type 0 where
  pub count : (xs : List ℕ) → length (a xs) ≡ length xs
  pub front : (xs ys : List ℕ) → take (length xs) (a (xs ++ ys)) ≡ a xs
  pub bytes : (xs : List ℕ) → Bytes xs → Bytes (a xs)

-- xs were sent: the bus answered rs to them, and b are its answers from then on
pub record Ran (a : Answers) (xs rs : List ℕ) (b : Answers) : Type 0 where
  pub gave : a xs ≡ rs
  pub left : b ≡ after a xs

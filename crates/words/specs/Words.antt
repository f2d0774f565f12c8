-- The lines of a text, and the words of a line. Assumes nothing.
use Rattle.std.specs.Prelude.{◌≡◌, ℕ, Bool, cond, ◌||◌, List, [], ◌∷◌, ◌++◌, ◌==◌, nat_eq}

-- what a test returns at each byte is what p gives
abbrev pub Computes : (ℕ → Bool → Type 0) → (ℕ → Bool) → Type 0
Computes returns p = (b : ℕ) (r : Bool) → returns b r → r ≡ p b

-- what stands before the first byte of which p holds
abbrev pub before : (ℕ → Bool) → List ℕ → List ℕ
before p [] = []
before p (b ∷ bs) = cond (p b) [] (b ∷ before p bs)

-- b is the first byte of the first line
abbrev pub onto : ℕ → List (List ℕ) → List (List ℕ)
onto b [] = (b ∷ []) ∷ []
onto b (l ∷ ls) = (b ∷ l) ∷ ls

-- LF ends a line; what follows the last is a line too
abbrev pub lines : List ℕ → List (List ℕ)
lines [] = [] ∷ []
lines (b ∷ bs) = cond (b == 0x0A) ([] ∷ lines bs) (onto b (lines bs))

-- without a CR at the very end
abbrev pub uncarried : List ℕ → List ℕ
uncarried [] = []
uncarried (b ∷ []) = cond (b == 0x0D) [] (b ∷ [])
uncarried (b ∷ c ∷ bs) = b ∷ uncarried (c ∷ bs)

-- without the comment, which # begins
abbrev pub uncommented : List ℕ → List ℕ
uncommented line = before (λ b. nat_eq b 0x23) (uncarried line)

abbrev pub blank : ℕ → Bool
blank b = b == 0x20 || b == 0x09

-- the word w, unless it is empty
abbrev pub begun : List ℕ → List (List ℕ)
begun [] = []
begun (b ∷ bs) = (b ∷ bs) ∷ []

-- blanks part the words; w is the word so far
abbrev pub words_after : List ℕ → List ℕ → List (List ℕ)
words_after w [] = begun w
words_after w (b ∷ bs) = cond (blank b) (begun w ++ words_after [] bs) (words_after (w ++ b ∷ []) bs)

abbrev pub words : List ℕ → List (List ℕ)
words bs = words_after [] bs

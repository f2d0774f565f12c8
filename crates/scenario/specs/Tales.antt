-- What a scenario tells, by the statements of its lines. Assumes nothing.
use Rattle.std.specs.Prelude.{◌≡◌, ℕ, Bool, true, false, List, [], ◌∷◌, ◌++◌, Ok}
use Rattle.std.specs.Option.{option_to_list}
use Rattle.faults.specs.Readings.{Reading, ok_map, read_then}
use Rattle.scenario.specs.Statements.{Line, Act, Said, line, source, call, board, fresh_board, statement}
use Rattle.words.specs.Words.{lines, uncommented, words}

-- the statements of the lines in order, the empty lines left out
abbrev pub told : List (List ℕ) → Reading (List Said)
told [] = Ok []
told (l ∷ ls) = read_then (statement (words (uncommented l))) (λ o. ok_map (λ ms. option_to_list o ++ ms) (told ls))

-- a line statement stands at most once, and before the first call; may is whether one may still come
abbrev pub Ruled : Bool → List Said → Type 0
Ruled may [] = Unit {0}
Ruled may (line l ∷ ms) = (may ≡ true) × Ruled false ms
Ruled may (source hz ∷ ms) = Ruled may ms
Ruled may (call a ∷ ms) = Ruled false ms

-- the line that is set up
abbrev pub line_in : List Said → Line
line_in [] = board fresh_board
line_in (line l ∷ ms) = l
line_in (source hz ∷ ms) = line_in ms
line_in (call a ∷ ms) = line_in ms

-- the calls in order, each with the rate of the source that holds at it
abbrev pub timed : ℕ → List Said → List (ℕ × Act)
timed rate [] = []
timed rate (line l ∷ ms) = timed rate ms
timed rate (source hz ∷ ms) = timed hz ms
timed rate (call a ∷ ms) = (rate, a) ∷ timed rate ms

-- the line and the steps are what the text tells
pub record Tells (text : List ℕ) (x : Line × List (ℕ × Act)) : Type 0 where
  pub said : List Said
  pub lines_say : told (lines text) ≡ Ok said
  pub ruled : Ruled true said
  pub line_set : x.0 ≡ line_in said
  pub steps : x.1 ≡ timed 80000000 said

-- A whole scenario: what its lines say, one after the other. Assumes nothing.
use Rattle.std.specs.Prelude.{ℕ, ◌+◌, cond, List, [], ◌∷◌, ◌++◌, length, is_some, Some, None, Ok, Err, Option, Result, nat_lt}
use Rattle.std.specs.Option.{unwrap_or}
use Rattle.faults.specs.declared.fault.Expected.{Expected}
use Rattle.faults.specs.declared.fault.Expected.TheVariants.{OneLine, LineBeforeCalls}
use Rattle.faults.specs.Readings.{Reading, read_then}
use Rattle.scenario.specs.Statements.{Line, Act, Said, line, source, call, board, fresh_board, statement}
use Rattle.words.specs.Words.{lines, uncommented, words}

-- what the lines so far say: the line, the source's rate, and each call with the rate that holds at it
pub record Sofar : Type 0 where
  pub given : Option Line
  pub rate : ℕ
  pub steps : List (ℕ × Act)

abbrev pub start : Sofar
start = record { given = None; rate = 80000000; steps = [] }

-- a line stands once, and before the first call
abbrev pub with_line : Sofar → Line → Reading Sofar
with_line s l =
    cond (is_some s.given) (Err OneLine)
    (cond (nat_lt 0 (length s.steps)) (Err LineBeforeCalls)
    (Ok (record { given = Some l; rate = s.rate; steps = s.steps })))

abbrev pub with_said : Sofar → Said → Reading Sofar
with_said s (line l) = with_line s l
with_said s (source hz) = Ok (record { given = s.given; rate = hz; steps = s.steps })
with_said s (call a) = Ok (record { given = s.given; rate = s.rate; steps = s.steps ++ (s.rate, a) ∷ [] })

abbrev pub with_any : Sofar → Option Said → Reading Sofar
with_any s None = Ok s
with_any s (Some m) = with_said s m

-- one line of the text more
abbrev pub with_text : Sofar → List ℕ → Reading Sofar
with_text s l = read_then (statement (words (uncommented l))) (with_any s)

-- go on from what was read, or stop at the line n
abbrev pub go_on : ℕ → Reading Sofar → (Sofar → Result Sofar (ℕ × Expected)) → Result Sofar (ℕ × Expected)
go_on n (Ok s) f = f s
go_on n (Err e) f = Err (n, e)

-- the lines from the n-th on: what they say, or the number of the first that is wrong and what was expected there
abbrev pub lines_from : ℕ → Sofar → List (List ℕ) → Result Sofar (ℕ × Expected)
lines_from n s [] = Ok s
lines_from n s (l ∷ ls) = go_on n (with_text s l) (λ t. lines_from (n + 1) t ls)

-- without a line statement: a fresh board
abbrev pub finished : Result Sofar (ℕ × Expected) → Result (Line × List (ℕ × Act)) (ℕ × Expected)
finished (Ok s) = Ok (unwrap_or s.given (board fresh_board), s.steps)
finished (Err f) = Err f

abbrev pub scenario : List ℕ → Result (Line × List (ℕ × Act)) (ℕ × Expected)
scenario text = finished (lines_from 1 start (lines text))

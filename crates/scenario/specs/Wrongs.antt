-- The first line of a text that is wrong. Assumes nothing.
use Rattle.std.specs.Prelude.{◌≡◌, ℕ, ◌+◌, List, ◌∷◌, ◌++◌, length, Ok, Err, Result}
use Rattle.faults.specs.declared.fault.Expected.{Expected}
use Rattle.faults.specs.declared.fault.Fault.{Fault}
use Rattle.faults.specs.declared.fault.Fault.TheVariants.{Bad, Memory}
use Rattle.scenario.specs.declared.whole.Scenario.{Scenario}
use Rattle.scenario.specs.Scenarios.{Sofar, lines_from, start, with_text}
use Rattle.words.specs.Words.{lines}

-- of the lines from the n-th on, read from s: all before the k-th are read, and that one is refused
pub record Refuses (n : ℕ) (s : Sofar) (ls : List (List ℕ)) (k : ℕ) (e : Expected) : Type 0 where
  pub front : List (List ℕ)
  pub here : List ℕ
  pub back : List (List ℕ)
  pub before : Sofar
  pub cut : ls ≡ front ++ here ∷ back
  pub place : k ≡ n + length front
  pub read : lines_from n s front ≡ Ok before
  pub wrong : with_text before here ≡ Err e

-- a fault names the first line that is wrong, counted from 1
abbrev pub NamesFirst : Result Scenario Fault → List ℕ → Type 0
NamesFirst (Ok s) text = Unit {0}
NamesFirst (Err (Bad k e)) text = Refuses 1 start (lines text) k e
NamesFirst (Err Memory) text = Unit {0}

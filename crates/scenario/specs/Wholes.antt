-- What a scenario that was read stands for. Assumes nothing.
use Rattle.std.specs.Prelude.{◌≡◌, ℕ, List, map, Ok, Err, vec_items, Result}
use Rattle.std.specs.Option.{option_map}
use Rattle.faults.specs.declared.fault.Fault.{Fault}
use Rattle.faults.specs.declared.fault.Fault.TheVariants.{Bad, Memory}
use Rattle.scenario.specs.declared.whole.Reader.TheInside.{Inside}
use Rattle.scenario.specs.declared.whole.Scenario.{Scenario}
use Rattle.scenario.specs.declared.whole.Step.{Step}
use Rattle.scenario.specs.Models.{call_model, line_model}
use Rattle.scenario.specs.Scenarios.{Sofar, scenario}
use Rattle.scenario.specs.Statements.{Line, Act}

abbrev pub step_model : Step → ℕ × Act
step_model s = (s.source, call_model s.call)

abbrev pub sofar : Inside → Sofar
sofar r = record { given = option_map line_model r.line; rate = r.source; steps = map step_model (vec_items r.steps) }

abbrev pub scenario_model : Scenario → Line × List (ℕ × Act)
scenario_model s = (line_model s.line, map step_model (vec_items s.steps))

-- the scenario that the text is, or the number of the first line that is wrong and what was expected there, unless memory gave out
abbrev pub ReadAs : Result Scenario Fault → List ℕ → Type 0
ReadAs (Ok s) text = scenario text ≡ Ok (scenario_model s)
ReadAs (Err (Bad n e)) text = scenario text ≡ Err (n, e)
ReadAs (Err Memory) text = Unit {0}

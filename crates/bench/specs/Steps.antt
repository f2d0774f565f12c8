-- What a step of a scenario tells of the clock.
use Rattle.std.specs.Prelude.{ℕ, Bool, true, false, Some, None, Ok, Err, Option, Result}
use Rattle.clock.specs.declared.error.ConfigError.{ConfigError}
use Rattle.scenario.specs.Statements.{Act}
use Rattle.scenario.specs.Statements as model
use Rattle.config.specs.declared.clocking.Clocking.{Clocking}
use Rattle.config.specs.Clocking.{Asked}

-- nothing
abbrev Silent : Option (Result Clocking ConfigError) → Type 0
Silent None = Unit {0}
Silent (Some r) = ⊥

-- an answer to `clock`, and nothing to any other call
abbrev pub Tells : ℕ → Act → Option (Result Clocking ConfigError) → Type 0
Tells s (model.bus_write bs) o = Silent o
Tells s (model.bus_read n) o = Silent o
Tells s (model.bus_transfer n bs) o = Silent o
Tells s (model.transfer_in_place bs) o = Silent o
Tells s model.flush o = Silent o
Tells s (model.clock f) None = ⊥
Tells s (model.clock f) (Some r) = Asked s f r

-- only a question for a clock word can be refused
abbrev pub accepted : Option (Result Clocking ConfigError) → Bool
accepted None = true
accepted (Some (Ok k)) = true
accepted (Some (Err e)) = false

-- The answer to the question for a clock word.
use Rattle.std.specs.Prelude.{◌≡◌, ℕ, true, false, ◌⊎◌, Ok, Err, Result}
use Rattle.clock.specs.declared.error.ConfigError.{ConfigError}
use Rattle.clock.specs.Clock.{accepts, clock_word, in_range, number, pair_behind}
use Rattle.config.specs.declared.clocking.Clocking.{Clocking}

-- the word of the source rate s and the frequency f with the dividers behind it; refused by 4 where s is out of range, and else by 3 where a driver would not take f
abbrev pub Asked : ℕ → ℕ → Result Clocking ConfigError → Type 0
Asked s f (Ok k) = (in_range s ≡ true) × (accepts s f ≡ true) × (clock_word s f ≡ Ok k.word) × (k.dividers ≡ pair_behind s f)
Asked s f (Err e) = ((in_range s ≡ false) × (number e ≡ 4)) ⊎ ((in_range s ≡ true) × (accepts s f ≡ false) × (number e ≡ 3))

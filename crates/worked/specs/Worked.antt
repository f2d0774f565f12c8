-- The worked values, as one list. Clock values are at a source rate of 80 MHz.
use Rattle.std.specs.Prelude.{◌≡◌, ℕ, cond, List, [], ◌∷◌, map}
use Rattle.clock.specs.declared.error.ConfigError.TheVariants.{FrequencyOutOfRange}
use Rattle.clock.specs.Clock.{accepts, number, word_of}
use Rattle.clock.specs.Dividers.{divisions}
use Rattle.mirror.specs.Mirror.{mirror}

abbrev pub source : ℕ
source = 80000000

pub data Example : Type 0 where
  -- a frequency, and the divider n and the prescaler that it gets
  divides : ℕ → ℕ → ℕ → Example
  -- a frequency that is accepted, and its clock word
  clocks : ℕ → ℕ → Example
  -- a frequency that is refused, and the number of the refusal
  refuses : ℕ → ℕ → Example
  -- a byte, and the byte mirrored
  mirrors : ℕ → ℕ → Example

-- 0 where a frequency is accepted
abbrev pub refusal : ℕ → ℕ
refusal f = cond (accepts source f) 0 (number FrequencyOutOfRange)

-- what the rules give
abbrev pub found : Example → List ℕ
found (divides f n pre) = (divisions source f).0 ∷ (divisions source f).1 ∷ []
found (clocks f w) = refusal f ∷ word_of source f ∷ []
found (refuses f k) = refusal f ∷ []
found (mirrors b m) = mirror b ∷ []

-- what the example says
abbrev pub stated : Example → List ℕ
stated (divides f n pre) = n ∷ pre ∷ []
stated (clocks f w) = 0 ∷ w ∷ []
stated (refuses f k) = k ∷ []
stated (mirrors b m) = m ∷ []

abbrev pub examples : List Example
examples =
    divides 1000000 40 2
    ∷ clocks 1000000 0x674E7
    ∷ clocks 60000000 0x1001
    ∷ clocks 60000001 0x80000000
    ∷ clocks 78125 0x3FF7FF
    ∷ refuses 78124 3
    ∷ refuses 80000001 3
    ∷ mirrors 0x16 0x68
    ∷ []

abbrev pub Worked : Type 0
Worked = map found examples ≡ map stated examples

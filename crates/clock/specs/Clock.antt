-- The clock word of a source rate s and a wanted frequency f, in Hz, and the refusals by number.
use Rattle.std.specs.Prelude.{◌≡◌, ℕ, ◌+◌, ◌-◌, ◌*◌, ◌/◌, ◌<◌, ◌≤◌, Bool, true, false, cond, ◌&&◌, ◌⊎◌, Some, None, Ok, Err, Option, Result, ◌==◌, nat_le, nat_lt}
use Rattle.clock.specs.declared.error.ConfigError.{ConfigError}
use Rattle.clock.specs.declared.error.ConfigError.TheVariants.{FrequencyOutOfRange, BadSource}
use Rattle.clock.specs.Dividers.{Best, dividers_of, divisions}

-- the refusals, by number
abbrev pub number : ConfigError → ℕ
number FrequencyOutOfRange = 3
number BadSource = 4

-- the source rates that a configuration may have
abbrev pub in_range : ℕ → Bool
in_range s = nat_le 1000000 s && nat_le s 160000000

-- the frequencies that a driver takes
abbrev pub accepts : ℕ → ℕ → Bool
accepts s f = nat_le (s / 1024) f && nat_le f s

-- above three quarters of s the clock is the source itself
abbrev pub direct : ℕ → ℕ → Bool
direct s f = nat_lt (s / 4 * 3) f

-- the word that divides nothing
abbrev pub direct_word : ℕ
direct_word = 0x80000000

-- the high part of a period of n, about half of it
abbrev pub high_of : ℕ → ℕ
high_of n = (128 * n + 127) / 256

-- the word of a divider n and its prescaler, each field less one: n, the high part from bit 6, n from bit 12, the prescaler from bit 18
abbrev pub divided_word : ℕ → ℕ → ℕ
divided_word n pre = (n - 1) + (high_of n - 1) * 64 + (n - 1) * 4096 + (pre - 1) * 262144

-- the word where f is not 0
abbrev pub word_of : ℕ → ℕ → ℕ
word_of s f = cond (direct s f) direct_word (let d = divisions s f in divided_word d.0 d.1)

-- the clock word, or why there is none
abbrev pub clock_word : ℕ → ℕ → Result ℕ ConfigError
clock_word s f = cond (f == 0) (Err FrequencyOutOfRange) (Ok (word_of s f))

-- the dividers behind the clock word, where it has some
abbrev pub pair_behind : ℕ → ℕ → Option (ℕ × ℕ)
pair_behind s f = cond (direct s f) None (dividers_of s f)

-- w sets the clock: the direct word above three quarters of s, and otherwise the word of the best dividers
abbrev pub Sets : ℕ → ℕ → ℕ → Type 0
Sets s f w =
    ((s / 4 * 3 < f) × (w ≡ direct_word))
    ⊎ ((f ≤ s / 4 * 3) × ((n : ℕ) × ((pre : ℕ) × (Best s f n pre × (w ≡ divided_word n pre)))))

-- a word that sets the clock, or refusal 3 at f = 0
abbrev pub Clocked : ℕ → ℕ → Result ℕ ConfigError → Type 0
Clocked s f (Ok w) = (0 < f) × Sets s f w
Clocked s f (Err e) = (f ≡ 0) × (number e ≡ 3)

-- the best dividers, whose word it is; none where the word is the direct one or refused
abbrev pub Behind : ℕ → ℕ → Result ℕ ConfigError → Option (ℕ × ℕ) → Type 0
Behind s f reg None = (f ≡ 0) ⊎ (s / 4 * 3 < f)
Behind s f reg (Some d) = (0 < f) × (f ≤ s / 4 * 3) × Best s f d.0 d.1 × (reg ≡ Ok (divided_word d.0 d.1))

-- a configuration as P says, exactly where its source rate is in range; otherwise refusal 4
abbrev pub Made : {C : Type 0} → ℕ → (C → Type 0) → Result C ConfigError → Type 0
Made s P (Ok c) = (in_range s ≡ true) × P c
Made s P (Err e) = (in_range s ≡ false) × (number e ≡ 4)

-- passed exactly where a driver takes the frequency; otherwise refusal 3
abbrev pub Validated : {C : Type 0} → ℕ → ℕ → Result C ConfigError → Type 0
Validated s f (Ok c) = accepts s f ≡ true
Validated s f (Err e) = (accepts s f ≡ false) × (number e ≡ 3)

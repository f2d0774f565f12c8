-- The changes of a byte that undo themselves, and what a layer makes of the answers below.
use Rattle.std.specs.Prelude.{◌≡◌, ℕ, ◌-◌, ◌<◌, cond, map, nat_lt}
use Rattle.mirror.specs.Mirror.{bit}
use Rattle.mirror.specs.Mirror as bits
use Rattle.bus.specs.Answers.{Answers}

pub data Kind : Type 0 where
  mirror : Kind
  inverter : Kind

-- every bit of a byte flipped; what is no byte stays as it is, so that the inverter undoes itself at every number
unfoldable pub invert : ℕ → ℕ
invert x = cond (nat_lt x 256) (255 - x) x

abbrev pub change : Kind → ℕ → ℕ
change mirror x = bits.mirror x
change inverter x = invert x

-- y is the byte x with every bit flipped
pub record Flips (x y : ℕ) : Type 0 where
  pub byte : y < 256
  pub bits : (i : ℕ) → i < 8 → bit i y ≡ 1 - bit i x

-- the answers above a layer: those below to the changed bytes, changed
abbrev pub changed : Kind → Answers → Answers
changed k a xs = map (change k) (a (map (change k) xs))

-- What a single word gives, or what was expected in its place. Assumes nothing.
use Rattle.std.specs.Prelude.{ℕ, cond, List, length, Some, None, codes, Option, ◌==◌}
use Rattle.std.specs.Option.{option_map}
use Rattle.std.specs.Str.{bytes_eq}
use Rattle.faults.specs.declared.fault.Expected.TheVariants.{Number, Count, Hex, Bytes, Slot}
use Rattle.digits.specs.Digits.{below, hex_bytes, number}
use Rattle.faults.specs.Readings.{Reading, wanted}

abbrev pub number_of : List ℕ → Reading ℕ
number_of w = wanted Number (number w)

-- places to read: up to 65,536
abbrev pub count_of : List ℕ → Reading ℕ
count_of w = wanted Count (below 65537 (number w))

abbrev pub bytes_of : List ℕ → Reading (List ℕ)
bytes_of w = wanted Hex (hex_bytes w)

abbrev pub of_length : ℕ → Option (List ℕ) → Option (List ℕ)
of_length n None = None
of_length n (Some bs) = cond (length bs == n) (Some bs) None

-- exactly n bytes
abbrev pub exactly : ℕ → List ℕ → Reading (List ℕ)
exactly n w = wanted (Bytes n) (of_length n (hex_bytes w))

-- none, or a slot from 0 to 7
abbrev pub slot_of : List ℕ → Reading (Option ℕ)
slot_of w = wanted Slot (cond (bytes_eq w (codes "none")) (Some None) (option_map Some (below 8 (number w))))

-- What the words after the program's name mean.
use Rattle.std.specs.Prelude.{ℕ, Bool, true, false, cond, not, List, codes, ◌==◌, slice_index}
use Rattle.std.specs.Str.{bytes_eq}
use Rattle.bench.specs.declared.options.Sort as sorts
use Rattle.bench.specs.declared.options.Sort.TheVariants.{State, File, Unknown}

-- 0x2D is the dash
abbrev pub sort_of : List ℕ → sorts.Sort
sort_of w = cond (bytes_eq w (codes "--state")) State (cond (slice_index w 0 == 0x2D) Unknown File)

abbrev pub usage_text : List ℕ
usage_text = codes "usage: spibench [--state] [FILE]"

-- a file's name only where there is none yet
abbrev pub allowed : sorts.Sort → Bool → Bool
allowed State named = true
allowed File named = not named
allowed Unknown named = false

abbrev pub names_state : sorts.Sort → Bool
names_state State = true
names_state File = false
names_state Unknown = false

abbrev pub names_file : sorts.Sort → Bool
names_file State = false
names_file File = true
names_file Unknown = false

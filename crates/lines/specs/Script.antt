-- A script, by the answers that are left of it.
use Rattle.std.specs.Prelude.{ℕ, ◌<◌, List, [], ◌∷◌, drop, slice_index_or}
use Rattle.std.proofs.Common.{lit<}
use Rattle.wire.specs.Answers.{Bytes, replies}
use Rattle.wire.specs.Machine.{Bytewise, Machine}
use Rattle.wire.specs.ByteLists.{bytes_drop}

-- each Both and In takes one; past the end it is 0xFF
abbrev pub script : Machine (List ℕ)
script = record { ready = λ rest. slice_index_or rest 0 0xFF; next = λ rest e. drop (replies (e ∷ [])) rest }

script_ready : (rest : List ℕ) → Bytes rest → slice_index_or rest 0 0xFF < 256
script_ready [] all = lit< tt
script_ready (x ∷ xs) all = all 0

pub script_bytes : Bytewise script Bytes
script_bytes =
    record { ready = script_ready; next = λ rest e all _. bytes_drop (replies (e ∷ [])) rest all }

-- A pump board, by what an event makes of it.
use Rattle.std.specs.Prelude.{ℕ, ◌+◌, ◌-◌, ◌<◌, Bool, true, cond, ◌&&◌, List, [], ◌∷◌, map, Some, None, Option, nat_le, nat_lt, slice_index, slice_index_or, slice_set}
use Rattle.std.specs.List.{range_with_len}
use Rattle.wire.specs.declared.event.Event.{Event}
use Rattle.wire.specs.declared.event.Event.TheVariants.{Both, Out, In, Head}
use Rattle.wire.specs.Machine.{Machine}
use Rattle.board.specs.declared.pump.Slot.{Slot}
use Rattle.board.specs.declared.pump.Board.{Board}

-- nobody holds it, and nobody did before
abbrev pub free : Slot
free = record { holder = 0; previous = 0 }

abbrev pub slot : Board → ℕ → Slot
slot p k = slice_index_or p.slots k free

-- the eight slots, from a list of holders and a list of previous ones
abbrev pub row : List ℕ → List ℕ → ℕ → Slot
row hs ps k = record { holder = slice_index hs k; previous = slice_index ps k }

abbrev pub rows : List ℕ → List ℕ → List Slot
rows hs ps = map (row hs ps) (range_with_len 0 8)

-- b is one of the eight bytes from `first` on
abbrev pub among : ℕ → ℕ → Bool
among first b = nat_le first b && nat_lt b (first + 8)

-- none is awaited, or one of the eight
abbrev pub one_of_eight : Option ℕ → Bool
one_of_eight None = true
one_of_eight (Some k) = nat_lt k 8

-- the same slots, with another reply and another slot awaited
abbrev pub turned : Board → ℕ → Option ℕ → Board
turned p r o = record { slots = p.slots; reply = r; awaited = o }

-- b where no slot is awaited: a look, a look back, the start of a mark, or nothing
abbrev pub asked : Board → ℕ → Board
asked p b =
    cond (among 0x10 b) (turned p (slot p (b - 0x10)).holder None)
    (cond (among 0x30 b) (turned p (slot p (b - 0x30)).previous None)
    (cond (among 0x20 b) (turned p 0 (Some (b - 0x20)))
    (turned p 0 None)))

-- b becomes the holder of the slot k, and the old holder its previous one
abbrev pub marked : Board → ℕ → ℕ → List Slot
marked p k b = slice_set p.slots k (record { holder = b; previous = (slot p k).holder })

abbrev pub acted : Board → ℕ → Board
acted p b = elim p.awaited [ Some k ↦ record { slots = marked p k b; reply = 0; awaited = None } | None ↦ asked p b ]

abbrev pub moved : Board → Event → Board
moved p (Both b) = acted p b
moved p (Out b) = acted p b
moved p In = acted p 0
moved p (Head h) = turned p p.reply None

-- the reply stands ready
abbrev pub pump : Machine Board
pump = record { ready = λ p. p.reply; next = moved }

-- every holder, every previous holder and the reply are bytes
abbrev pub Bytewide : Board → Type 0
Bytewide p = (p.reply < 256) × ((k : ℕ) → (slot p k).holder < 256) × ((k : ℕ) → (slot p k).previous < 256)

-- a mark of the slot k by b, then a look and a look back
abbrev pub mark_and_look : ℕ → ℕ → List Event
mark_and_look k b = map Both ((0x20 + k) ∷ b ∷ (0x10 + k) ∷ (0x30 + k) ∷ 0 ∷ [])

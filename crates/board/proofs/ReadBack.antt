-- A holder that was marked is read back, with the one before it as previous holder.
use Rattle.std.proofs.Common.{◌≡◌, ℕ, ◌+◌, ◌<◌, List, [], ◌∷◌, length, get_or, Some, None, Option, sym, refl, ap, ◌∙◌, arith, rules}
use Rattle.std.proofs.lemmas.List.{get_or-set_same}
use Rattle.wire.specs.Machine.{run}
use Rattle.board.specs.declared.pump.Board.{Board}
use Rattle.board.specs.declared.pump.Slot.{Slot}
use Rattle.board.specs.Board.{acted, free, mark_and_look, marked, pump, slot, turned}

-- the first byte of a mark, a look and a look back, each alone
awaits : (p : Board) (k : ℕ) → k < 8 → p.awaited ≡ None → acted p (0x20 + k) ≡ turned p 0 (Some k)
awaits p k h e = search rules

looks : (p : Board) (k : ℕ) → k < 8 → p.awaited ≡ None → acted p (0x10 + k) ≡ turned p (slot p k).holder None
looks p k h e = search rules

looks_back : (p : Board) (k : ℕ) → k < 8 → p.awaited ≡ None → acted p (0x30 + k) ≡ turned p (slot p k).previous None
looks_back p k h e = search rules

pub read_back : (p : Board) (k b : ℕ) → k < 8 → length p.slots ≡ 8 → p.awaited ≡ None → run pump p (mark_and_look k b) ≡ p.reply ∷ 0 ∷ 0 ∷ b ∷ (slot p k).holder ∷ []
read_back p k b lt n e =
    let l : k < length p.slots = omega arith in
    let q : Board = record { slots = marked p k b; reply = 0; awaited = None } in
    let s = get_or-set_same p.slots k (record { holder = b; previous = (slot p k).holder }) free l in
    rw (awaits p k lt e, looks q k lt refl, looks_back (turned q (slot q k).holder None) k lt refl, s)

same_slot : (h p x y : ℕ) → h ≡ x → p ≡ y → ◌≡◌ {A = Option Slot} (Some (record { holder = h; previous = p })) (Some (record { holder = x; previous = y }))
same_slot h p x y e f = cc

-- of the five answers the last two tell
pub seen : (p : Board) (k b v w x h r : ℕ) → k < 8 → length p.slots ≡ 8 → p.awaited ≡ None → run pump p (mark_and_look k b) ≡ v ∷ w ∷ x ∷ h ∷ r ∷ [] → ◌≡◌ {A = Option Slot} (Some (record { holder = h; previous = r })) (Some (record { holder = b; previous = (slot p k).holder }))
seen p k b v w x h r lt n none gave =
    let e = sym gave ∙ read_back p k b lt n none in
    same_slot h r b (slot p k).holder (ap (λ (xs : List ℕ). get_or xs 3 0) e) (ap (λ (xs : List ℕ). get_or xs 4 0) e)

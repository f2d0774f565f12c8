-- A pump board that holds bytes goes on holding bytes. Cited where the board says what it means.
use Rattle.std.specs.Prelude.{ℕ, ◌-◌, ◌<◌, Some, None, Option}
use Rattle.std.proofs.Common.{lit<}
use Rattle.std.proofs.lemmas.Bool.{cond_both}
use Rattle.wire.specs.declared.event.Event.{Event}
use Rattle.wire.specs.declared.event.Event.TheVariants.{Both, Out, In, Head}
use Rattle.wire.specs.Answers.{sent}
use Rattle.wire.specs.ByteLists.{all_set}
use Rattle.wire.specs.Machine.{Bytewise}
use Rattle.board.specs.declared.pump.Board.{Board}
use Rattle.board.specs.Board.{Bytewide, acted, among, asked, free, marked, moved, pump, slot, turned}

module _ (p : Board) (b : ℕ) (all : Bytewide p) where
  with_reply : (r : ℕ) (o : Option ℕ) → r < 256 → Bytewide (turned p r o)
  with_reply r o h = (h, all.1, all.2)

  asked_bytes : Bytewide (asked p b)
  asked_bytes =
      cond_both (among 0x10 b) _ _ Bytewide (λ _. with_reply (slot p (b - 0x10)).holder None (all.1 (b - 0x10)))
      (λ _. cond_both (among 0x30 b) _ _ Bytewide (λ _. with_reply (slot p (b - 0x30)).previous None (all.2 (b - 0x30)))
      (λ _. cond_both (among 0x20 b) _ _ Bytewide (λ _. with_reply 0 (Some (b - 0x20)) (lit< tt)) (λ _. with_reply 0 None (lit< tt))))

  marked_bytes : (k : ℕ) → b < 256 → Bytewide (record { slots = marked p k b; reply = 0; awaited = None })
  marked_bytes k h = (
    lit< tt,
    all_set (λ s. s.holder < 256) free p.slots k _ all.1 h,
    all_set (λ s. s.previous < 256) free p.slots k _ all.2 (all.1 k),
  )

  acted_bytes : b < 256 → Bytewide (acted p b)
  acted_bytes h =
      elim p.awaited as (λ o. Bytewide (elim o [ Some k ↦ record { slots = marked p k b; reply = 0; awaited = None } | None ↦ asked p b ])) [
        | Some k ↦ marked_bytes k h
        | None ↦ asked_bytes
      ]

pub pump_bytes : Bytewise pump Bytewide
pump_bytes = record { ready = λ p all. all.0; next = next } where
  next : (p : Board) (e : Event) → Bytewide p → sent e < 256 → Bytewide (moved p e)
  next p (Both b) all h = acted_bytes p b all h
  next p (Out b) all h = acted_bytes p b all h
  next p In all h = acted_bytes p 0 all h
  next p (Head x) all h = (all.0, all.1, all.2)

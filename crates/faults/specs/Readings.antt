-- A reading: what was read, or what was expected in its place. Assumes nothing.
use Rattle.std.specs.Prelude.{◌≡◌, Some, None, Ok, Err, Option, Result}
use Rattle.faults.specs.declared.fault.Expected.{Expected}
use Rattle.faults.specs.declared.fault.Refusal.{Refusal}
use Rattle.faults.specs.declared.fault.Refusal.TheVariants.{Unread, NoMemory}

abbrev pub Reading : Type 0 → Type 0
Reading A = Result A Expected

module _ {A : Type 0} where
  abbrev pub ok_map : {B : Type 0} → (A → B) → Reading A → Reading B
  ok_map f (Ok x) = Ok (f x)
  ok_map f (Err e) = Err e

  abbrev pub read_then : {B : Type 0} → Reading A → (A → Reading B) → Reading B
  read_then (Ok x) f = f x
  read_then (Err e) f = Err e

  -- x, where it is there
  abbrev pub wanted : Expected → Option A → Reading A
  wanted e None = Err e
  wanted e (Some x) = Ok x

-- r is what the reading m says, unless memory gave out; f is what a value stands for
abbrev pub Reads : {X A : Type 0} → (X → A) → Result X Refusal → Reading A → Type 0
Reads f (Ok x) m = m ≡ Ok (f x)
Reads f (Err (Unread e)) m = m ≡ Err e
Reads f (Err NoMemory) m = Unit {0}

-- A line by its states: the byte that stands ready, and the state that an event leads to.
use Rattle.std.specs.Prelude.{ℕ, ◌<◌, List, [], ◌∷◌}
use Rattle.wire.specs.declared.event.Event.{Event}
use Rattle.wire.specs.declared.event.Event.TheVariants.{Both, Out, In, Head}
use Rattle.wire.specs.Answers.{sent}

pub record Machine (S : Type 0) : Type 0 where
  pub ready : S → ℕ
  pub next : S → Event → S

-- a Both or an In is answered by the byte that stands ready
abbrev pub run : {S : Type 0} → Machine S → S → List Event → List ℕ
run m s [] = []
run m s (Both b ∷ es) = m.ready s ∷ run m (m.next s (Both b)) es
run m s (Out b ∷ es) = run m (m.next s (Out b)) es
run m s (In ∷ es) = m.ready s ∷ run m (m.next s In) es
run m s (Head h ∷ es) = run m (m.next s (Head h)) es

-- in a good state a byte stands ready, and events that send bytes lead to good states
pub record Bytewise {S : Type 0} (m : Machine S) (Good : S → Type 0) : Type 0 where
  pub ready : (s : S) → Good s → m.ready s < 256
  pub next : (s : S) (e : Event) → Good s → sent e < 256 → Good (m.next s e)

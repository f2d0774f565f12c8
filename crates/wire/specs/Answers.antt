-- What a line is: for every list of events from now on, the bytes that it gives back.
use Rattle.std.specs.Prelude.{◌≡◌, ℕ, suc, ◌-◌, ◌<◌, List, [], ◌∷◌, ◌++◌, length, take, drop, replicate, slice_index, slice_index_or}
use Rattle.wire.specs.declared.event.Event.{Event}
use Rattle.wire.specs.declared.event.Event.TheVariants.{Both, Out, In, Head}

abbrev pub Answers : Type 0
Answers = List Event → List ℕ

-- how many bytes the events bring back: one for each Both and In
abbrev pub replies : List Event → ℕ
replies [] = 0
replies (Both b ∷ es) = suc (replies es)
replies (Out b ∷ es) = replies es
replies (In ∷ es) = suc (replies es)
replies (Head h ∷ es) = replies es

-- the answers still to come once the events have passed
abbrev pub after : Answers → List Event → Answers
after a es = λ fs. drop (replies es) (a (es ++ fs))

-- every place holds a byte
abbrev pub Bytes : List ℕ → Type 0
Bytes xs = (k : ℕ) → slice_index xs k < 256

-- the byte that an event sends, 0 where it sends none
abbrev pub sent : Event → ℕ
sent (Both b) = b
sent (Out b) = b
sent In = 0
sent (Head h) = 0

-- events as a wire carries them: each sends a byte or nothing
abbrev pub Sendable : List Event → Type 0
Sendable es = (k : ℕ) → sent (slice_index_or es k In) < 256

-- answers that a line can have: one for each Both and In, none depends on what follows, each is a byte
pub record Causal (a : Answers) : Type 0 where
  pub count : (es : List Event) → length (a es) ≡ replies es
  pub front : (es fs : List Event) → take (replies es) (a (es ++ fs)) ≡ a es
  pub bytes : (es : List Event) → Sendable es → Bytes (a es)

-- the wire carried es: the line answered rs to them, and b are its answers from then on
pub record Ran (a : Answers) (es : List Event) (rs : List ℕ) (b : Answers) : Type 0 where
  pub gave : a es ≡ rs
  pub left : b ≡ after a es

-- what a transfer with two buffers sends: the bytes to write, then 0x00 as long as there are places to read
abbrev pub padded : List ℕ → ℕ → List ℕ
padded ws places = ws ++ replicate (places - length ws) 0

-- A relay chain, by the bytes that it holds, the oldest first.
use Rattle.std.specs.Prelude.{◌≡◌, ℕ, ◌-◌, ◌<◌, ◌≤◌, List, [], ◌∷◌, ◌++◌, length, drop, slice_index}
use Rattle.wire.specs.declared.event.Event.{Event}
use Rattle.wire.specs.declared.event.Event.TheVariants.{Both, Out, In, Head}
use Rattle.wire.specs.Answers.{Bytes, sent}
use Rattle.wire.specs.Machine.{Bytewise, Machine}
use Rattle.wire.specs.ByteLists.{bytes-append, bytes_drop, bytes_one}
use Rattle.relay.specs.declared.Cells.{Cells}

-- the bytes stand at the end of the cells
abbrev pub held : Cells → List ℕ
held c = drop c.first c.bytes

-- b enters, and the oldest byte falls out
abbrev pub shifted : List ℕ → ℕ → List ℕ
shifted bs b = drop 1 (bs ++ b ∷ [])

abbrev pub passed : List ℕ → Event → List ℕ
passed bs (Both b) = shifted bs b
passed bs (Out b) = shifted bs b
passed bs In = shifted bs 0
passed bs (Head h) = bs

-- the oldest byte stands ready
abbrev pub chain : Machine (List ℕ)
chain = record { ready = λ bs. slice_index bs 0; next = passed }

-- what comes back from a chain is what was sent as many bytes earlier as it holds, and at first what it held
pub record Delayed (bs went got : List ℕ) : Type 0 where
  pub count : length got ≡ length went
  pub first : (k : ℕ) → k < length went → k < length bs → slice_index got k ≡ slice_index bs k
  pub later : (k : ℕ) → k < length went → length bs ≤ k → slice_index got k ≡ slice_index went (k - length bs)

shifted_bytes : (bs : List ℕ) (b : ℕ) → Bytes bs → b < 256 → Bytes (shifted bs b)
shifted_bytes bs b all h = bytes_drop 1 (bs ++ b ∷ []) (bytes-append bs (b ∷ []) all (bytes_one b h))

pub chain_bytes : Bytewise chain Bytes
chain_bytes = record { ready = λ bs all. all 0; next = next } where
  next : (bs : List ℕ) (e : Event) → Bytes bs → sent e < 256 → Bytes (passed bs e)
  next bs (Both b) all h = shifted_bytes bs b all h
  next bs (Out b) all h = shifted_bytes bs b all h
  next bs In all h = shifted_bytes bs 0 all h
  next bs (Head x) all h = all

-- The worked value of layers: two places read through an inverter over a relay chain of one byte.
use Rattle.std.specs.Prelude.{◌≡◌, ℕ, List, [], ◌∷◌, replicate}
use Rattle.wire.specs.Machine.{run}
use Rattle.bus.specs.Bare.{bare}
use Rattle.layer.specs.Kinds.{inverter}
use Rattle.pile.specs.Piles.{lifted}
use Rattle.relay.specs.Relay.{chain}

-- what the places then hold
abbrev pub held : List ℕ
held = 0xFF ∷ 0x00 ∷ []

abbrev pub Worked : Type 0
Worked = lifted (inverter ∷ []) (bare (run chain (replicate 1 0))) (replicate 2 0) ≡ held

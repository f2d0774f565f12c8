-- A step that is written as a scenario's, through layers.
use Rattle.std.specs.Prelude.{◌≡◌, ℕ, ◌<◌, List, [], ◌∷◌, replicate, Some, None, Option}
use Rattle.std.specs.Option.{option_to_list}
use Rattle.bus.specs.Calls.{Call, places}
use Rattle.bus.specs.Calls as bus
use Rattle.layer.specs.Kinds.{Kind}
use Rattle.pile.specs.Piles.{Bus, Performed}
use Rattle.stack.specs.Stacks.{most_layers}
use Rattle.scenario.specs.Statements.{Act}
use Rattle.scenario.specs.Statements as model
use Rattle.stack.specs.declared.step.Stop.{Stop}
use Rattle.stack.specs.declared.step.Stop.TheVariants.{NoMemory, TooManyLayers}

-- the bus call that a statement writes; a place to read holds 0xAA before it
abbrev pub bus_call : Act → Option Call
bus_call (model.bus_write bs) = Some (bus.write bs)
bus_call (model.bus_read n) = Some (bus.read (replicate n 0xAA))
bus_call (model.bus_transfer n bs) = Some (bus.transfer (replicate n 0xAA) bs)
bus_call (model.transfer_in_place bs) = Some (bus.in_place bs)
bus_call model.flush = Some bus.flush
bus_call (model.clock hz) = None

-- the places of the last of some calls
abbrev pub places_of : List Call → List ℕ
places_of [] = []
places_of (c ∷ []) = places c
places_of (c ∷ d ∷ cs) = places_of (d ∷ cs)

-- the call, if there is one, was performed, and buf is what its places then hold
abbrev pub Passed : List Kind → Option Call → Bus → Bus → List ℕ → Type 0
Passed ks o m n buf = (results : List Call) × Performed ks (option_to_list o) results m n × (buf ≡ places_of results)

-- of n layers, only more than the most are too many
abbrev pub Stopped : Stop → ℕ → Type 0
Stopped NoMemory n = Unit {0}
Stopped TooManyLayers n = most_layers < n

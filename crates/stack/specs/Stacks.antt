-- Layers put on one after the other, over a bare line.
use Rattle.std.specs.Prelude.{ℕ, true, List, [], ◌∷◌}
use Rattle.wire.specs.Answers as line
use Rattle.bus.specs.Bare.{bare}
use Rattle.layer.specs.Kinds.{Kind, inverter, mirror}
use Rattle.pile.specs.Piles.{Bus}
use Rattle.stack.specs.declared.setup.LayerSetup.{LayerSetup}
use Rattle.stack.specs.declared.setup.LayerSetup.TheVariants.{Mirror, Inverter, Split}

-- the most layers that are put on a line
abbrev pub most_layers : ℕ
most_layers = 4

-- the layers of a pile, the top one first, once these are put on it; a splitter alters no answer
abbrev pub onto : List Kind → List LayerSetup → List Kind
onto ks [] = ks
onto ks (Mirror ∷ xs) = onto (mirror ∷ ks) xs
onto ks (Inverter ∷ xs) = onto (inverter ∷ ks) xs
onto ks (Split most ∷ xs) = onto ks xs

-- a line driven by Boths, as a bus: always idle
abbrev pub driven : line.Answers → Bus
driven a = record { answers = bare a; idle = true }

-- The names of the calls.
use Rattle.std.specs.Prelude.{ℕ, List, codes}
use Rattle.scenario.specs.Statements.{Act}
use Rattle.scenario.specs.Statements as model

abbrev pub name_of : Act → List ℕ
name_of (model.bus_write bs) = codes "bus_write"
name_of (model.bus_read n) = codes "bus_read"
name_of (model.bus_transfer n bs) = codes "bus_transfer"
name_of (model.transfer_in_place bs) = codes "transfer_in_place"
name_of model.flush = codes "flush"
name_of (model.clock hz) = codes "clock"

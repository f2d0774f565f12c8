-- What the values read stand for, with lists in place of vectors. Assumes nothing.
use Rattle.std.specs.Prelude.{vec_items}
use Rattle.scenario.specs.declared.statement.LineSetup as lines
use Rattle.scenario.specs.declared.statement.LineSetup.TheVariants.{Relay, Script, Board}
use Rattle.scenario.specs.declared.statement.Call as calls
use Rattle.scenario.specs.declared.statement.Call.TheVariants.{BusWrite, BusRead, BusTransfer, TransferInPlace, Flush, Clock}
use Rattle.scenario.specs.declared.statement.Statement as statements
use Rattle.scenario.specs.declared.statement.Statement.TheVariants as said
use Rattle.scenario.specs.Statements.{Line, Act, Said}
use Rattle.scenario.specs.Statements as model

abbrev pub line_model : lines.LineSetup → Line
line_model (Relay v) = model.relay (vec_items v)
line_model (Script v) = model.script (vec_items v)
line_model (Board b) = model.board b

abbrev pub call_model : calls.Call → Act
call_model (BusWrite v) = model.bus_write (vec_items v)
call_model (BusRead n) = model.bus_read n
call_model (BusTransfer n v) = model.bus_transfer n (vec_items v)
call_model (TransferInPlace v) = model.transfer_in_place (vec_items v)
call_model Flush = model.flush
call_model (Clock hz) = model.clock hz

abbrev pub statement_model : statements.Statement → Said
statement_model (said.Line l) = model.line (line_model l)
statement_model (said.Source hz) = model.source hz
statement_model (said.Call c) = model.call (call_model c)

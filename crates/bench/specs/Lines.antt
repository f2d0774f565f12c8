-- The line that a set-up asks for.
use Rattle.std.specs.Prelude.{Bool, true, ◌&&◌, length, nat_le}
use Rattle.wire.specs.Answers.{Answers}
use Rattle.wire.specs.Machine.{run}
use Rattle.relay.specs.Relay.{chain}
use Rattle.lines.specs.Script.{script}
use Rattle.board.specs.Board.{one_of_eight, pump}
use Rattle.scenario.specs.Statements.{Line}
use Rattle.scenario.specs.Statements as model

-- a relay chain holds 1 to 16 bytes, and a board awaits one of its slots or none
abbrev pub possible : Line → Bool
possible (model.relay bs) = nat_le 1 (length bs) && nat_le (length bs) 16
possible (model.script bs) = true
possible (model.board b) = one_of_eight b.awaited

-- what the line answers before the first call
abbrev pub at_first : Line → Answers
at_first (model.relay bs) = run chain bs
at_first (model.script bs) = run script bs
at_first (model.board b) = run pump b

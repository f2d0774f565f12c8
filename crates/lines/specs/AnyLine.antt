-- What a line of any of the three kinds answers: what that one answers.
use Rattle.std.specs.Prelude.{drop, vec_items}
use Rattle.wire.specs.Answers.{Answers, Causal}
use Rattle.wire.specs.ByteLists.{bytes_drop}
use Rattle.wire.specs.Causality.{run_causal}
use Rattle.wire.specs.Machine.{run}
use Rattle.lines.specs.declared.any.AnyLine.{AnyLine}
use Rattle.lines.specs.declared.any.AnyLine.TheVariants.{Relay, Script, Board}
use Rattle.relay.specs.Relay.{chain, chain_bytes, held}
use Rattle.lines.specs.Script.{script, script_bytes}
use Rattle.board.specs.Board.{pump}
use Rattle.board.specs.BoardBytes.{pump_bytes}

abbrev pub any_answers : AnyLine → Answers
any_answers (Relay c) = run chain (held c.cells)
any_answers (Script s) = run script (drop s.at (vec_items s.bytes))
any_answers (Board p) = run pump p.board

pub any_causal : (l : AnyLine) → Causal (any_answers l)
any_causal (Relay c) = run_causal chain chain_bytes (held c.cells) (bytes_drop c.cells.first c.cells.bytes c.bytes)
any_causal (Script s) = run_causal script script_bytes (drop s.at (vec_items s.bytes)) (bytes_drop s.at (vec_items s.bytes) s.ok)
any_causal (Board p) = run_causal pump pump_bytes p.board p.bytes

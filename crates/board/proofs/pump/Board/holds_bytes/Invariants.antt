use Rattle.std.proofs.Common.{ℕ, ◌<◌, get_or}
use Rattle.board.specs.Board.{free}
use Rattle.board.proofs.pump.Board.holds_bytes.Given as goal

abbrev pub invariant-loop-slot : goal.invariant-loop-slot
invariant-loop-slot l = (j : ℕ) → j < l.slot-index → ((get_or l.self.slots j free).holder < 256) × ((get_or l.self.slots j free).previous < 256)

use Rattle.std.proofs.Common.{arith}
use Rattle.relay.proofs.Chains.{turned_end}
use Rattle.relay.proofs.RelayChain.shift.Goals as goal

pub returns-clause-held : goal.returns-clause-held
returns-clause-held c =
    let s = c.args.self.now in
    rw c.rotate_left.ensures.after (turned_end s.cells.bytes s.cells.first 15 c.args.b (omega arith) (omega arith))

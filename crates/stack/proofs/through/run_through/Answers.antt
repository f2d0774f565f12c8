use Rattle.std.proofs.Common.{[], rules}
use Rattle.pile.proofs.Parity.{same_performed}
use Rattle.stack.specs.Stacks.{onto}
use Rattle.stack.proofs.through.run_through.Goals as goal

pub returns-clause-parity : goal.returns-clause-parity
returns-clause-parity g c = λ ls alike. same_performed (onto [] c.args.layers.now) ls alike (search rules)

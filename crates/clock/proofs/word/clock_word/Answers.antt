use Rattle.std.proofs.Common.{rules}
use Rattle.clock.proofs.Laws.{determined}
use Rattle.clock.proofs.word.clock_word.Goals as goal

pub returns-clause-only : goal.returns-clause-only
returns-clause-only c q h = rw (determined c.args.source c.args.frequency q h) (search rules)

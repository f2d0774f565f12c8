use Rattle.std.proofs.Common.{◌-◌, length, rules}
use Rattle.words.proofs.Cuts.{carried, not_carried}
use Rattle.words.proofs.words.without_carriage_return.Goals as goal

pub returns-in-13 : goal.returns-in-13
returns-in-13 c = carried c.args.line.now (length c.args.line.now - 1) (search rules) (search rules)

pub returns-in_default-2 : goal.returns-in_default-2
returns-in_default-2 c = not_carried c.args.line.now (λ k e h. search rules)

use Rattle.std.proofs.Common.{refl}
use Rattle.clock.specs.Dividers.{divisions}
use Rattle.mirror.specs.Mirror.{mirror}
use Rattle.worked.proofs.worked_values.Goals as goal

pub returns-clause-worked : goal.returns-clause-worked
unfolding divisions mirror
returns-clause-worked c = refl

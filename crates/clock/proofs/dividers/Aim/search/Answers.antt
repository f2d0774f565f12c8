use Rattle.std.proofs.Common.{◌≡◌, ◌-◌, arith}
use Rattle.clock.proofs.Wins.{only}
use Rattle.clock.proofs.dividers.Aim.search.Goals as goal

pub returns-clause-value : goal.returns-clause-value
returns-clause-value c =
    let z : c.loop-n.n - 1 ≡ 64 = omega arith in
    only _ _ _ _ (record { wins = rw z at c.loop-n.invariant.0; goes_with = c.pre_for.ensures })

use Rattle.std.proofs.Common.{◌≡◌, ◌-◌}
use Rattle.clock.specs.Dividers.{Least, error_of}
use Rattle.clock.proofs.dividers.Aim.search.Given as goal

abbrev pub invariant-loop-n : goal.invariant-loop-n
invariant-loop-n l = let e = error_of l.self.source l.self.frequency in Least e (l.n - 1) l.best × (l.least ≡ e l.best)

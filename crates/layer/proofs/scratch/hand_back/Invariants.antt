use Rattle.std.proofs.Common.{◌≡◌, map, take}
use Rattle.layer.specs.Kinds.{change}
use Rattle.layer.proofs.scratch.hand_back.Given as goal

abbrev pub invariant-loop-i : goal.invariant-loop-i
invariant-loop-i g l = take l.i l.piece ≡ map (change g.C.Change.kind) (take l.i l.from)

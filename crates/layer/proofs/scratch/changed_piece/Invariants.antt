use Rattle.std.proofs.Common.{◌≡◌, map, length, take}
use Rattle.layer.specs.Kinds.{change}
use Rattle.layer.proofs.scratch.changed_piece.Given as goal

abbrev pub invariant-loop-i : goal.invariant-loop-i
invariant-loop-i g l =
    (length l.scratch.bytes ≡ 64) × (take l.i l.scratch.bytes ≡ map (change g.C.Change.kind) (take l.i l.piece))

use Rattle.std.proofs.Common.{◌≡◌}
use Rattle.std.specs.Slice.Iter.{chunks_rest, chunks_size}
use Rattle.bus.proofs.Midway.{Sending}
use Rattle.layer.specs.Kinds.{changed}
use Rattle.layer.proofs.layer.LayerSpiBus.write.Given as goal

abbrev pub invariant-loop-piece : goal.invariant-loop-piece
invariant-loop-piece g l =
    let k = g.C.Change.kind in
    let a = g.B.SpiBus.answers in
    (chunks_size l.piece-iterator ≡ 64)
    × Sending (changed k (a l.initial.self.below)) l.words (changed k (a l.self.below)) (chunks_rest l.piece-iterator)

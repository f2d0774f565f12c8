use Rattle.std.proofs.Common.{◌≡◌}
use Rattle.std.specs.Slice.Iter.{chunks_rest, chunks_size}
use Rattle.bus.proofs.Midway.{Sending}
use Rattle.splitter.proofs.splitter.SplitterSpiBus.write.Given as goal

abbrev pub invariant-loop-piece : goal.invariant-loop-piece
invariant-loop-piece g l =
    let a = g.B.SpiBus.answers in
    (chunks_size l.piece-iterator ≡ l.self.port.most)
    × Sending (a l.initial.self.port.below) l.words (a l.self.port.below) (chunks_rest l.piece-iterator)

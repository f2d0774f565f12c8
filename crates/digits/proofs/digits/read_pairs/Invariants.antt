use Rattle.std.proofs.Common.{◌≡◌, ◌%◌, length, vec_items}
use Rattle.std.specs.Slice.Iter.{chunks_exact_rest, chunks_exact_size}
use Rattle.digits.specs.Digits.{pairs}
use Rattle.digits.proofs.Pairs.{with}
use Rattle.digits.proofs.digits.read_pairs.Given as goal

abbrev pub invariant-loop-pair : goal.invariant-loop-pair
invariant-loop-pair l =
    record {
      twos : chunks_exact_size l.pair-iterator ≡ 2;
      even : length (chunks_exact_rest l.pair-iterator) % 2 ≡ 0;
      sofar : with (vec_items l.bytes) (pairs (chunks_exact_rest l.pair-iterator)) ≡ pairs l.word;
    }

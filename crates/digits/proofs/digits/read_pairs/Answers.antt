use Rattle.std.proofs.Common.{vec_items, length, sym, refl, ap, ◌∙◌, arith}
use Rattle.std.proofs.lemmas.List.{length-append}
use Rattle.std.specs.Slice.Iter.{chunks_exact_rest}
use Rattle.digits.specs.Digits.{pairs}
use Rattle.digits.proofs.Pairs.{more, odd, with}
use Rattle.digits.proofs.digits.read_pairs.Goals as goal

pub returns-then-word-ne0 : goal.returns-then-word-ne0
returns-then-word-ne0 c = sym (odd c.args.word.now (omega arith))

pub loop-pair-preserved : goal.loop-pair-preserved
loop-pair-preserved c =
    let steps = c.in-Some.ensures.steps in
    let sofar = c.loop-pair.invariant in
    let parts = steps.1.0 in
    let two = steps.1.1 ∙ sofar.twos in
    let whole = ap length parts ∙ length-append c.in-Some.pair.now (chunks_exact_rest c.next.new.self) in
    record {
      twos = steps.0 ∙ sofar.twos;
      even = omega (arith, two, whole, sofar.even);
      sofar = ap (λ xs. with xs (pairs (chunks_exact_rest c.next.new.self))) c.in_ok-push.ensures.items ∙ sym (more _ _ _ c.read_pair.result 2 refl parts (omega (arith, two, whole)) (omega (arith, two, whole)) c.read_pair.ensures (vec_items c.loop-pair.bytes) c.in-Some-read_pair.byte c.in-Some-read_pair.is) ∙ sofar.sofar;
    }

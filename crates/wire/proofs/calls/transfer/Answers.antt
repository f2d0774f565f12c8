use Rattle.std.proofs.Common.{◌≡◌, ℕ, ◌-◌, min, map, length, take, drop, ap, ◌∙◌, arith}
use Rattle.std.proofs.lemmas.List.{take_rest}
use Rattle.wire.specs.declared.event.Event.TheVariants.{Both}
use Rattle.wire.specs.Answers.{after}
use Rattle.wire.proofs.Padding.{two_buffers}
use Rattle.wire.proofs.calls.transfer.Goals as goal

pub returns : goal.returns
returns g c =
    let ws = c.args.bytes.now in
    let xs = c.load.new.buf in
    let i = c.min.result in
    let n : length xs ≡ length c.args.buf.now = omega arith in
    let m : i ≡ min (length xs) (length ws) = omega arith in
    let e : take (length ws - i) (drop i ws) ≡ drop (min (length xs) (length ws)) ws = take_rest ws i ∙ ap (λ (j : ℕ). drop j ws) m in
    let t = two_buffers ws xs (λ k h. c.load.ensures.loaded k (omega arith)) (g.L.Line.causal _) c.exchange_in_place.ensures.ran (c.send.ensures.left ∙ ap (λ bs. after (g.L.Line.answers c.exchange_in_place.new.line) (map Both bs)) e) in
    let u = rw n at t in
    record { filled = u.0; left = u.1 }

use Rattle.std.proofs.Common.{◌≡◌, ℕ, ◌-◌, min, length, take, drop, ap, ◌∙◌, arith}
use Rattle.std.proofs.lemmas.List.{take_rest}
use Rattle.wire.proofs.Padding.{all_sent}
use Rattle.bus.specs.Answers.{after}
use Rattle.bus.proofs.Runs.{two_parts}
use Rattle.bus.proofs.bus.SpiBus.transfer.Goals as goal

pub returns : goal.returns
returns g c =
    let ws = c.args.write.now in
    let xs = c.load.new.buf in
    let i = c.min.result in
    let n : length xs ≡ length c.args.read.now = omega arith in
    let m : i ≡ min (length xs) (length ws) = omega arith in
    let e : take (length ws - i) (drop i ws) ≡ drop (min (length xs) (length ws)) ws = take_rest ws i ∙ ap (λ (j : ℕ). drop j ws) m in
    let whole = all_sent ws xs (λ k h. c.load.ensures.loaded k (omega arith)) in
    let left = c.write.ensures.left ∙ ap (after (g.Self.SpiBus.answers c.transfer_in_place.new.self)) e in
    let t = two_parts c.transfer_in_place.ensures.ran _ _ (g.Self.SpiBus.causal _) whole left in
    let u = rw n at t in
    record { filled = u.0; left = u.1 }

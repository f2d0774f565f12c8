use Rattle.std.proofs.Common.{◌+◌, ◌^◌, ◌<◌, length, get_or, drop, sym, ap, ◌∙◌, arith}
use Rattle.std.proofs.lemmas.List.{drop_more}
use Rattle.digits.specs.Digits.{below, value_after}
use Rattle.digits.proofs.Numerals.{stops, some}
use Rattle.digits.proofs.digits.read_digits.Goals as goal

pub returns-in_err-value : goal.returns-in_err-value
returns-in_err-value c =
    let ds = c.args.digits.now in
    let i = c.loop-b.b-index in
    let long : 0 < length ds = omega arith in
    let here : i < length ds = omega arith in
    let left = ap (below (2 ^ 32)) (ap (value_after c.args.base c.loop-b.value) (sym (drop_more ds i 0 here)) ∙ c.loop-b.invariant.1) in
    c.from_residual.ensures ∙ sym (some c.args.base ds long ∙ sym left ∙ stops c.args.base c.loop-b.value (get_or ds i 0) (drop (i + 1) ds) c.requires (sym c.in_err-value.ensures))

use Rattle.std.proofs.Common.{◌<◌, sym, ap, ◌∙◌, rules}
use Rattle.layer.specs.Kinds.{invert}
use Rattle.layer.specs.Undone.{invert_byte, invert_twice}
use Rattle.layer.proofs.Inverses.{flips}
use Rattle.layer.proofs.change.inverted.Goals as goal

pub returns : goal.returns
returns c =
    let lt : c.args.byte < 256 = search rules in
    let e = invert_byte c.args.byte lt in
    record { value = sym e; bits = flips c.args.byte lt; back = ap invert (sym e) ∙ invert_twice c.args.byte }

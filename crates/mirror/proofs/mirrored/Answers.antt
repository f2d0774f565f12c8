use Rattle.std.proofs.Common.{◌<◌, ap, ◌∙◌, arith, rules}
use Rattle.std.proofs.lemmas.List.FromFn.{get_or-map-range_with_len}
use Rattle.mirror.specs.Mirror.{mirror}
use Rattle.mirror.proofs.Bits.{mirror_mirrors, mirror_twice}
use Rattle.mirror.proofs.mirrored.Goals as goal

pub returns : goal.returns
unfolding mirror
returns c =
    let lt : c.args.byte < 256 = search rules in
    let e = get_or-map-range_with_len mirror 0 256 c.args.byte c.args.byte 0 lt (omega arith) in
    record { value = e; bits = rw e (mirror_mirrors c.args.byte lt); back = ap mirror e ∙ mirror_twice c.args.byte }

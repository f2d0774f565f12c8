use Rattle.std.proofs.Common.{◌≡◌, codes, sym, ap, arith, rules}
use Rattle.std.proofs.lemmas.Slice.Eq.{text_from_reads}
use Rattle.bench.specs.Options.{sort_of}
use Rattle.bench.proofs.options.sort_of.Goals as goal

pub returns-in-45 : goal.returns-in-45
returns-in-45 c =
    let whole : c.args.word.now ≡ codes "--state" = text_from_reads c.args.word.now (codes "--state") (omega arith) (search rules) in
    record { value = sym (ap sort_of whole) }

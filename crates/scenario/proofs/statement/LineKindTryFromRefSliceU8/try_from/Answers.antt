use Rattle.std.proofs.Common.{codes, arith, rules}
use Rattle.std.proofs.lemmas.Slice.Eq.{text_from_reads}
use Rattle.scenario.proofs.statement.LineKindTryFromRefSliceU8.try_from.Goals as goal

pub returns-in-script : goal.returns-in-script
returns-in-script c = rw (text_from_reads c.args.word.now (codes "script") (omega arith) (search rules))

use Rattle.std.proofs.Common.{codes, arith, rules}
use Rattle.std.proofs.lemmas.Slice.Eq.{text_from_reads}
use Rattle.scenario.proofs.statement.KeywordTryFromRefSliceU8.try_from.Goals as goal

pub returns-in-source : goal.returns-in-source
returns-in-source c = rw (text_from_reads c.args.word.now (codes "source") (omega arith) (search rules))

pub returns-in-98 : goal.returns-in-98
returns-in-98 c = rw (text_from_reads c.args.word.now (codes "bus_write") (omega arith) (search rules))

pub returns-in-98-2 : goal.returns-in-98-2
returns-in-98-2 c = rw (text_from_reads c.args.word.now (codes "bus_read") (omega arith) (search rules))

pub returns-in-98-3 : goal.returns-in-98-3
returns-in-98-3 c = rw (text_from_reads c.args.word.now (codes "bus_transfer") (omega arith) (search rules))

pub returns-in-116 : goal.returns-in-116
returns-in-116 c = rw (text_from_reads c.args.word.now (codes "transfer_in_place") (omega arith) (search rules))

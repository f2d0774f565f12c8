use Rattle.std.proofs.Common.{◌≡◌, ◌+◌, length, drop}
use Rattle.scenario.specs.Scenarios.{lines_from, start}
use Rattle.words.specs.Words.{lines}
use Rattle.scenario.proofs.whole.read_scenario.Given as goal

abbrev pub invariant-loop-i : goal.invariant-loop-i
invariant-loop-i l = lines_from (length l.yielded + 1) l.reader (drop (length l.yielded) (lines l.text)) ≡ lines_from 1 start (lines l.text)

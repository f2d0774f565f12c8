-- A refusal, once it is known which line it is of, and what the faults read as. Assumes nothing.
use Rattle.std.specs.Prelude.{ℕ, List, ◌++◌, codes, decimal}
use Rattle.faults.specs.declared.fault.Expected.{Expected}
use Rattle.faults.specs.declared.fault.Expected.TheVariants.{Name, LineKind, Number, Count, Hex, Bytes, Slot, MoreWords, NoMoreWords, OneLine, LineBeforeCalls}
use Rattle.faults.specs.declared.fault.Fault.{Fault}
use Rattle.faults.specs.declared.fault.Fault.TheVariants.{Bad, Memory}
use Rattle.faults.specs.declared.fault.Refusal.{Refusal}
use Rattle.faults.specs.declared.fault.Refusal.TheVariants.{Unread, NoMemory}

abbrev pub fault_at : Refusal → ℕ → Fault
fault_at (Unread e) n = Bad n e
fault_at NoMemory n = Memory

abbrev pub expected_text : Expected → List ℕ
expected_text Name = codes "expected the name of a statement"
expected_text LineKind = codes "expected relay, script or board"
expected_text Number = codes "expected a number below 4294967296"
expected_text Count = codes "expected a number up to 65536"
expected_text Hex = codes "expected an even number of hex digits, or - for none"
expected_text (Bytes n) = codes "expected bytes in hex, exactly " ++ (decimal n ++ codes " of them")
expected_text Slot = codes "expected a slot from 0 to 7, or none"
expected_text MoreWords = codes "expected more words"
expected_text NoMoreWords = codes "expected no more words"
expected_text OneLine = codes "expected a line statement only once"
expected_text LineBeforeCalls = codes "expected the line statement before the first call"

abbrev pub fault_text : Fault → List ℕ
fault_text (Bad n e) = codes "line " ++ (decimal n ++ (codes ": " ++ expected_text e))
fault_text Memory = codes "out of memory"

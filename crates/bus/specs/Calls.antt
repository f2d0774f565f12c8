-- Bus calls: what they send, and what they hold once they are answered.
use Rattle.std.specs.Prelude.{ℕ, List, [], ◌∷◌, ◌++◌, map, length, take, drop, replicate, vec_items}
use Rattle.wire.specs.Answers.{padded}
use Rattle.bus.specs.declared.call.BusCall.{BusCall}
use Rattle.bus.specs.declared.call.BusCall.TheVariants.{Write, Read, Transfer, TransferInPlace, Flush}

-- a call with its buffers; a transfer has the places to read into first
pub data Call : Type 0 where
  write : List ℕ → Call
  read : List ℕ → Call
  transfer : List ℕ → List ℕ → Call
  in_place : List ℕ → Call
  flush : Call

-- the bytes that a call sends
abbrev pub sent : Call → List ℕ
sent (write words) = words
sent (read words) = replicate (length words) 0
sent (transfer into words) = padded words (length into)
sent (in_place words) = words
sent flush = []

-- the call once these are the answers to its bytes
abbrev pub answered : Call → List ℕ → Call
answered (write words) got = write words
answered (read words) got = read got
answered (transfer into words) got = transfer (take (length into) got) words
answered (in_place words) got = in_place got
answered flush got = flush

-- the places that a call fills
abbrev pub places : Call → List ℕ
places (write words) = []
places (read words) = words
places (transfer into words) = into
places (in_place words) = words
places flush = []

-- all bytes that a list of calls sends
abbrev pub sent_by : List Call → List ℕ
sent_by [] = []
sent_by (c ∷ cs) = sent c ++ sent_by cs

-- the calls once these are the answers to all their bytes: each takes the answers to its own
abbrev pub answered_by : List Call → List ℕ → List Call
answered_by [] got = []
answered_by (c ∷ cs) got = answered c (take (length (sent c)) got) ∷ answered_by cs (drop (length (sent c)) got)

-- what a value of the code stands for, with lists in place of vectors
abbrev pub call_of : BusCall → Call
call_of (Write words) = write (vec_items words)
call_of (Read words) = read (vec_items words)
call_of (Transfer into words) = transfer (vec_items into) (vec_items words)
call_of (TransferInPlace words) = in_place (vec_items words)
call_of Flush = flush

abbrev pub calls_of : List BusCall → List Call
calls_of cs = map call_of cs

-- What the words of a line say. Assumes nothing.
use Rattle.std.specs.Prelude.{ℕ, min, max, cond, List, [], ◌∷◌, replicate, Some, None, Ok, Err, codes, Option, slice_index}
use Rattle.std.specs.Str.{bytes_eq}
use Rattle.faults.specs.declared.fault.Expected.TheVariants.{Name, LineKind}
use Rattle.board.specs.declared.pump.Board as boards
use Rattle.board.specs.Board.{free, rows}
use Rattle.scenario.specs.declared.statement.CallName.{CallName}
use Rattle.scenario.specs.declared.statement.CallName.TheVariants.{BusWrite, BusRead, BusTransfer, TransferInPlace, Flush, Clock}
use Rattle.scenario.specs.declared.statement.Keyword as words
use Rattle.scenario.specs.declared.statement.Keyword.TheVariants as keywords
use Rattle.scenario.specs.declared.statement.LineKind as kinds
use Rattle.scenario.specs.declared.statement.LineKind.TheVariants.{Relay, Script, Board}
use Rattle.words.specs.Arities.{none, one, two, one_or_two, none_or_four}
use Rattle.faults.specs.Readings.{Reading, ok_map, read_then, wanted}
use Rattle.values.specs.Values.{bytes_of, count_of, exactly, number_of, slot_of}

pub data Line : Type 0 where
  relay : List ℕ → Line
  script : List ℕ → Line
  board : boards.Board → Line

pub data Act : Type 0 where
  bus_write : List ℕ → Act
  bus_read : ℕ → Act
  bus_transfer : ℕ → List ℕ → Act
  transfer_in_place : List ℕ → Act
  flush : Act
  clock : ℕ → Act

pub data Said : Type 0 where
  line : Line → Said
  source : ℕ → Said
  call : Act → Said

abbrev pub keyword : List ℕ → Option words.Keyword
keyword w =
    cond (bytes_eq w (codes "line")) (Some keywords.Line)
    (cond (bytes_eq w (codes "source")) (Some keywords.Source)
    (cond (bytes_eq w (codes "bus_write")) (Some (keywords.Call BusWrite))
    (cond (bytes_eq w (codes "bus_read")) (Some (keywords.Call BusRead))
    (cond (bytes_eq w (codes "bus_transfer")) (Some (keywords.Call BusTransfer))
    (cond (bytes_eq w (codes "transfer_in_place")) (Some (keywords.Call TransferInPlace))
    (cond (bytes_eq w (codes "flush")) (Some (keywords.Call Flush))
    (cond (bytes_eq w (codes "clock")) (Some (keywords.Call Clock))
    None)))))))

abbrev pub line_kind : List ℕ → Option kinds.LineKind
line_kind w =
    cond (bytes_eq w (codes "relay")) (Some Relay)
    (cond (bytes_eq w (codes "script")) (Some Script)
    (cond (bytes_eq w (codes "board")) (Some Board)
    None))

-- a relay's length is brought into 1 to 16
abbrev pub clamped : ℕ → ℕ
clamped n = min (max n 1) 16

-- n bytes held: those given, or 0x00 each
abbrev pub held : ℕ → Option (List ℕ) → Reading (List ℕ)
held n None = Ok (replicate n 0)
held n (Some w) = exactly n w

abbrev pub relay_line : List (List ℕ) → Reading (List ℕ)
relay_line ws = read_then (one_or_two ws) (λ p. read_then (number_of p.0) (λ n. held (clamped n) p.1))

-- the slots are free, and none is awaited
abbrev pub fresh_board : boards.Board
fresh_board = record { slots = replicate 8 free; reply = 0; awaited = None }

-- HOLDERS PREVIOUS REPLY AWAITED
abbrev pub board_given : List ℕ × List ℕ × List ℕ × List ℕ → Reading boards.Board
board_given f =
    read_then (exactly 8 f.0) (λ hs.
    read_then (exactly 8 f.1) (λ ps.
    read_then (exactly 1 f.2) (λ rs.
    ok_map (λ a. record { slots = rows hs ps; reply = slice_index rs 0; awaited = a }) (slot_of f.3))))

abbrev pub board_from : Option (List ℕ × List ℕ × List ℕ × List ℕ) → Reading boards.Board
board_from None = Ok fresh_board
board_from (Some f) = board_given f

abbrev pub line_of : kinds.LineKind → List (List ℕ) → Reading Line
line_of Relay ws = ok_map relay (relay_line ws)
line_of Script ws = ok_map script (read_then (one ws) bytes_of)
line_of Board ws = ok_map board (read_then (none_or_four ws) board_from)

abbrev pub line_statement : List (List ℕ) → Reading Line
line_statement [] = Err LineKind
line_statement (w ∷ ws) = read_then (wanted LineKind (line_kind w)) (λ k. line_of k ws)

abbrev pub call_of : CallName → List (List ℕ) → Reading Act
call_of BusWrite ws = ok_map bus_write (read_then (one ws) bytes_of)
call_of BusRead ws = ok_map bus_read (read_then (one ws) count_of)
call_of BusTransfer ws = read_then (two ws) (λ p. read_then (count_of p.0) (λ n. ok_map (bus_transfer n) (bytes_of p.1)))
call_of TransferInPlace ws = ok_map transfer_in_place (read_then (one ws) bytes_of)
call_of Flush ws = ok_map (λ _. flush) (none ws)
call_of Clock ws = ok_map clock (read_then (one ws) number_of)

abbrev pub said_by : words.Keyword → List (List ℕ) → Reading Said
said_by keywords.Line ws = ok_map line (line_statement ws)
said_by keywords.Source ws = ok_map source (read_then (one ws) number_of)
said_by (keywords.Call c) ws = ok_map call (call_of c ws)

-- a line with no word says nothing
abbrev pub statement : List (List ℕ) → Reading (Option Said)
statement [] = Ok None
statement (w ∷ ws) = read_then (wanted Name (keyword w)) (λ k. ok_map Some (said_by k ws))

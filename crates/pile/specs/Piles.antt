-- A pile: what its layers make of the bus beneath, and what a list of calls does to both.
use Rattle.std.specs.Prelude.{◌≡◌, ℕ, suc, ◌%◌, Bool, true, false, cond, List, [], ◌∷◌, ◌++◌, map}
use Rattle.bus.specs.Answers.{Answers, after}
use Rattle.bus.specs.Calls.{Call, answered_by, flush, sent_by}
use Rattle.layer.specs.Kinds.{Kind, change, changed, inverter, mirror}

-- a bus, as whoever uses it sees it
pub record Bus : Type 0 where
  pub answers : Answers
  pub idle : Bool

-- the answers above all layers, the top one first
abbrev pub lifted : List Kind → Answers → Answers
lifted [] a = a
lifted (k ∷ ks) a = changed k (lifted ks a)

-- the bytes that come out beneath all layers
abbrev pub lowered : List Kind → List ℕ → List ℕ
lowered [] xs = xs
lowered (k ∷ ks) xs = lowered ks (map (change k) xs)

-- the calls, on layers over the bus m, gave the results, and left the bus as n
pub record Performed (layers : List Kind) (calls results : List Call) (m n : Bus) : Type 0 where
  -- the bytes received are the answers at the start to all bytes sent, each call's to its own
  pub received : results ≡ answered_by calls (lifted layers m.answers (sent_by calls))
  -- the bus beneath keeps the answers after those bytes, as changed on the way
  pub left : n.answers ≡ after m.answers (lowered layers (sent_by calls))
  -- a flush at the end leaves the bus idle
  pub rests : (cs : List Call) → calls ≡ cs ++ flush ∷ [] → n.idle ≡ true
  -- no calls leave it as it was
  pub still : calls ≡ [] → n.idle ≡ m.idle

abbrev pub same : Kind → Kind → Bool
same mirror mirror = true
same mirror inverter = false
same inverter mirror = false
same inverter inverter = true

-- how many layers of a kind there are
abbrev pub count : Kind → List Kind → ℕ
count k [] = 0
count k (j ∷ ks) = cond (same k j) (suc (count k ks)) (count k ks)

-- of each kind the layers differ in number by an even amount
abbrev pub Alike : List Kind → List Kind → Type 0
Alike ks ls = (k : Kind) → count k ks % 2 ≡ count k ls % 2

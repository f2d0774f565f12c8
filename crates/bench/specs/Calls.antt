-- The bus calls on a bare line: what each sends, and what its places hold afterwards.
use Rattle.std.specs.Prelude.{◌≡◌, ℕ, List, [], map, length, take, replicate, Result, MatchResult}
use Rattle.wire.specs.declared.event.Event.TheVariants.{Both}
use Rattle.wire.specs.Answers.{Answers, after, padded}
use Rattle.scenario.specs.Statements.{Act}
use Rattle.scenario.specs.Statements as model

-- the bytes that a call sends, a Both for each
abbrev pub sent : Act → List ℕ
sent (model.bus_write bs) = bs
sent (model.bus_read n) = replicate n 0
sent (model.bus_transfer n bs) = padded bs n
sent (model.transfer_in_place bs) = bs
sent model.flush = []
sent (model.clock hz) = []

-- how many places it fills
abbrev pub places : Act → ℕ
places (model.bus_write bs) = 0
places (model.bus_read n) = n
places (model.bus_transfer n bs) = n
places (model.transfer_in_place bs) = length bs
places model.flush = 0
places (model.clock hz) = 0

-- a call took a line from the answers a to the answers b, and its places hold buf
pub record Performed (c : Act) (a : Answers) (buf : List ℕ) (b : Answers) : Type 0 where
  pub filled : buf ≡ take (places c) (a (map Both (sent c)))
  pub left : b ≡ after a (map Both (sent c))

-- what came of a call: it took a line from the answers a to the answers b, and its places hold what buf finds in the result; or nothing was sent
abbrev pub Done : {T E : Type 0} → Act → Answers → Result T E → (T → List ℕ) → Answers → Type 0
Done c a result buf b = MatchResult result (λ x. Performed c a (buf x) b) (λ _. b ≡ a)

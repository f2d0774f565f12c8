-- A buffer that a call on a line has filled.
use Rattle.std.proofs.Common.{◌≡◌, ℕ, ◌≤◌, List, ◌++◌, map, length, take, drop, replicate, sym, ap, ◌∙◌, arith}
use Rattle.std.proofs.lemmas.List.{take_all, take_at}
use Rattle.wire.specs.declared.event.Event.TheVariants.{Both}
use Rattle.wire.specs.Answers.{Answers, Ran, after, padded}
use Rattle.scenario.specs.Statements.{Act, bus_read, bus_transfer, transfer_in_place}
use Rattle.bench.specs.Calls.{Performed, places, sent}

-- what a vector of `len` holds once its slice was filled
module _ (len : ℕ) (got items : List ℕ) (whole : length got ≡ len) where
  stored : take len (got ++ drop (length got) items) ≡ got
  stored = take_at got (drop (length got) items) len whole

  -- a call whose places take every answer
  ran_performed : (c : Act) {a b : Answers} → len ≡ places c → Ran a (map Both (sent c)) got b → Performed c a (take len (got ++ drop (length got) items)) b
  ran_performed c {a = a} e ran =
      let n : length (a (map Both (sent c))) ≤ places c = omega (arith, ap length ran.gave) in
      record { filled = stored ∙ sym ran.gave ∙ sym (take_all (places c) (a (map Both (sent c))) n); left = ran.left }

  pub read_performed : {a b : Answers} (m n : ℕ) → m ≡ n → len ≡ n → Ran a (map Both (replicate m 0)) got b → Performed (bus_read n) a (take len (got ++ drop (length got) items)) b
  read_performed m n e k ran = ran_performed (bus_read n) k (rw e at ran)

  pub in_place_performed : {a b : Answers} (bs cs : List ℕ) → cs ≡ bs → len ≡ length bs → Ran a (map Both cs) got b → Performed (transfer_in_place bs) a (take len (got ++ drop (length got) items)) b
  in_place_performed bs cs e k ran = ran_performed (transfer_in_place bs) k (rw e at ran)

  pub transfer_performed : {a b : Answers} (bs : List ℕ) (m n : ℕ) → m ≡ n → got ≡ take m (a (map Both (padded bs m))) → b ≡ after a (map Both (padded bs m)) → Performed (bus_transfer n bs) a (take len (got ++ drop (length got) items)) b
  transfer_performed bs m n e filled left = record { filled = stored ∙ (rw e at filled); left = rw e at left }

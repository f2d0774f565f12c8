-- A loop that gives a line one event after another: the one invariant of all of them.
use Rattle.std.proofs.Common.{◌≡◌, ℕ, ◌+◌, ◌<◌, ◌≤◌, List, [], ◌∷◌, ◌++◌, map, length, get_or, take, drop, set, sym, refl, ap, ◌∙◌, arith}
use Rattle.std.proofs.lemmas.List.{append_assoc, append-nil, drop_all, drop_more, drop-set-lt, nil_from_length, take_all, take_more_set}
use Rattle.wire.specs.declared.event.Event.{Event}
use Rattle.wire.specs.Answers.{Answers, Causal, Ran, after}
use Rattle.wire.proofs.Runs.{goes, leads}

-- of all events the rest is still to come: what was given so far, and what the rest will give, is what all give
pub record Midway (start : Answers) (all : List Event) (given : List ℕ) (a : Answers) (rest : List Event) : Type 0 where
  pub gave : given ++ a rest ≡ start all
  pub left : after a rest ≡ after start all

pub midway_none : {a : Answers} {all : List Event} → Midway a all [] a all
midway_none = record { gave = refl; left = refl }

module _ {start a : Answers} {all : List Event} {given : List ℕ} (causal : Causal a) where
  pub midway_more : {e : Event} {rest : List Event} {rs : List ℕ} {b : Answers} → Midway start all given a (e ∷ rest) → Ran a (e ∷ []) rs b → Midway start all (given ++ rs) b rest
  midway_more {rest = rest} mid ran =
      record {
        gave = append_assoc given _ _ ∙ ap (λ xs. given ++ xs) (sym (goes ran causal rest)) ∙ mid.gave;
        left = leads ran rest ∙ mid.left;
      }

  pub midway_all : Midway start all given a [] → Ran start all given a
  midway_all mid =
      record {
        gave = sym mid.gave ∙ ap (λ xs. given ++ xs) (nil_from_length (a []) (causal.count [])) ∙ append-nil given;
        left = mid.left;
      }

-- a loop over bytes, at the place i: an event of each
module _ (f : ℕ → Event) {start a : Answers} {all : List Event} {given : List ℕ} (causal : Causal a) (bs : List ℕ) (i : ℕ) (mid : Midway start all given a (map f (drop i bs))) where
  pub bytes_more : {rs : List ℕ} {b : Answers} → i < length bs → Ran a (f (get_or bs i 0) ∷ []) rs b → Midway start all (given ++ rs) b (map f (drop (i + 1) bs))
  bytes_more h ran = midway_more causal (rw (drop_more bs i 0 h) at mid) ran

  pub bytes_all : length bs ≤ i → Ran start all given a
  bytes_all h = midway_all causal (rw (drop_all i bs h) at mid)

-- the same where each answer takes the place of its byte
module _ (f : ℕ → Event) {start a : Answers} {all : List Event} (causal : Causal a) (bs : List ℕ) (i : ℕ) (mid : Midway start all (take i bs) a (map f (drop i bs))) where
  pub places_more : {r : ℕ} {b : Answers} → i < length bs → Ran a (f (get_or bs i 0) ∷ []) (r ∷ []) b → Midway start all (take (i + 1) (set bs i r)) b (map f (drop (i + 1) (set bs i r)))
  places_more {r = r} h ran =
      rw (take_more_set bs i r h, drop-set-lt (i + 1) bs i r (omega arith)) (bytes_more f causal bs i mid h ran)

  pub places_all : length bs ≤ i → Ran start all bs a
  places_all h = rw (take_all i bs h) at (bytes_all f causal bs i mid h)

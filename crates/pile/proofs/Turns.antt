-- A list of calls, performed one after the other.
use Rattle.std.proofs.Common.{◌≡◌, ℕ, ◌+◌, ◌<◌, true, List, [], ◌∷◌, ◌++◌, map, length, get_or, take, drop, set, sym, refl, ap, ◌∙◌, arith}
use Rattle.std.proofs.lemmas.List.{append_assoc, append-nil, drop_all, drop-drop, drop-map, drop_more, drop-set-lt, get_or_at, get_or-drop, length-append, length-map, length-set, map-set, take_all, take_more_set}
use Rattle.bus.specs.declared.call.BusCall.{BusCall}
use Rattle.bus.specs.Answers.{Answers, Causal, after}
use Rattle.bus.specs.Calls.{Call, answered, answered_by, call_of, flush, sent, sent_by, write}
use Rattle.bus.proofs.Runs.{after-after}
use Rattle.pile.specs.Piles.{Bus, Performed}

-- of all calls i are performed: what is still to come gives what all gave at the start
pub record Going (m : Bus) (all : List Call) (i : ℕ) (now : List Call) (n : Bus) : Type 0 where
  pub long : length now ≡ length all
  pub received : answered_by all (m.answers (sent_by all)) ≡ take i now ++ answered_by (drop i all) (n.answers (sent_by (drop i all)))
  pub rest : drop i now ≡ drop i all
  pub left : after m.answers (sent_by all) ≡ after n.answers (sent_by (drop i all))
  pub rests : (j : ℕ) → i ≡ j + 1 → get_or all j (write []) ≡ flush → n.idle ≡ true
  pub still : i ≡ 0 → n.idle ≡ m.idle

-- the call at a place, and those that follow
abbrev at_place : List BusCall → ℕ → BusCall → Call
at_place xs i d = call_of (get_or xs i d)

-- one call more
module _ {m n : Bus} {all : List Call} {i : ℕ} (xs : List BusCall) (going : Going m all i (map call_of xs) n) (d : BusCall) (lt : i < length xs) where
  next : drop (i + 1) (map call_of xs) ≡ drop (i + 1) all
  next = sym (drop-drop 1 i (map call_of xs)) ∙ ap (drop 1) going.rest ∙ drop-drop 1 i all

  cut : drop i all ≡ at_place xs i d ∷ drop (i + 1) all
  cut =
      sym going.rest ∙ drop-map call_of i xs ∙ ap (map call_of) (drop_more xs i d lt)
      ∙ ap (λ (l : List Call). at_place xs i d ∷ l) (sym (drop-map call_of (i + 1) xs) ∙ next)

  found : get_or all i (write []) ≡ at_place xs i d
  found =
      let e : i + 0 ≡ i = omega arith in
      sym (rw e at (get_or-drop i all 0 (write []))) ∙ ap (λ (l : List Call). get_or l 0 (write [])) cut

  pub more : {n' : Bus} (y : BusCall) → Causal n.answers → call_of y ≡ answered (at_place xs i d) (n.answers (sent (at_place xs i d))) → n'.answers ≡ after n.answers (sent (at_place xs i d)) → (at_place xs i d ≡ flush → n'.idle ≡ true) → Going m all (i + 1) (map call_of (set xs i y)) n'
  more {n'} y causal filled left rests =
      let c = at_place xs i d in
      let cs = drop (i + 1) all in
      let lt' : i < length (map call_of xs) = rw length-map lt in
      record {
        long = simp (length-map, length-set) (sym (length-map xs call_of) ∙ going.long);
        received =
            going.received
            ∙ ap (λ (ds : List Call). take i (map call_of xs) ++ answered_by ds (n.answers (sent_by ds))) cut
            ∙ ap (λ (r : List ℕ). take i (map call_of xs) ++ (answered c r ∷ answered_by cs (after n.answers (sent c) (sent_by cs)))) (causal.front (sent c) (sent_by cs))
            ∙ rw (map-set, take_more_set, append_assoc, filled, left);
        rest = rw map-set (drop-set-lt (i + 1) (map call_of xs) i (call_of y) (omega arith) ∙ next);
        left =
            going.left
            ∙ ap (λ (ds : List Call). after n.answers (sent_by ds)) cut
            ∙ sym (after-after n.answers (sent c) (sent_by cs))
            ∙ ap (λ (h : Answers). after h (sent_by cs)) (sym left);
        rests = λ j e f. let same : i ≡ j = omega arith in rests (sym found ∙ (rw same f));
        still = λ e. absurd (omega arith);
      }

-- all calls
module _ {m n : Bus} {all : List Call} {i : ℕ} (xs : List BusCall) (going : Going m all i (map call_of xs) n) (end : i ≡ length xs) where
  none : drop i all ≡ []
  none = sym going.rest ∙ drop_all i (map call_of xs) (rw length-map (omega arith))

  whole : i ≡ length all
  whole = end ∙ sym (length-map xs call_of) ∙ going.long

  pub performed : Performed [] all (map call_of xs) m n
  performed =
      record {
        received =
            sym (going.received ∙ ap (λ (ds : List Call). take i (map call_of xs) ++ answered_by ds (n.answers (sent_by ds))) none ∙ append-nil _ ∙ take_all i (map call_of xs) (rw length-map (omega arith)));
        left = sym (going.left ∙ ap (λ (ds : List Call). after n.answers (sent_by ds)) none);
        rests = λ cs e. going.rests (length cs) (whole ∙ ap length e ∙ length-append cs (flush ∷ [])) (ap (λ (l : List Call). get_or l (length cs) (write [])) e ∙ get_or_at cs flush [] (write []) (length cs) refl);
        still = λ e. going.still (whole ∙ ap length e);
      }

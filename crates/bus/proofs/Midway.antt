-- A buffer that goes out piece by piece: the one invariant of all such loops.
use Rattle.std.proofs.Common.{◌≡◌, ℕ, ◌+◌, ◌-◌, ◌<◌, ◌≤◌, min, ◌⊎◌, List, [], ◌++◌, length, take, drop, inl, inr, sym, ap, ◌∙◌, ⊎_elim, arith}
use Rattle.std.proofs.lemmas.Bool.{cases_lt}
use borrow.Rule.Slice.PartMut.{put_mid}
use Rattle.std.proofs.lemmas.List.{append_assoc, append-nil, drop_all, drop-drop, length-append, length-drop, length-take, nil_from_length, take_all, take-append-drop}
use Rattle.std.proofs.lemmas.Slice.{drop-put_mid, take-put_mid}
use Rattle.bus.specs.Answers.{Answers, Causal, Ran, after}
use Rattle.bus.proofs.Runs.{after-after, goes, leads}

-- of all bytes the rest is still to come: what was given so far, and what the rest will give, is what all give
pub record Midway (start : Answers) (all given : List ℕ) (a : Answers) (rest : List ℕ) : Type 0 where
  pub gave : given ++ a rest ≡ start all
  pub left : after a rest ≡ after start all

-- a list from the place d on: a piece of k, and then the rest
cut : (words : List ℕ) (d k : ℕ) → take k (drop d words) ++ drop (d + k) words ≡ drop d words
cut words d k =
    ap (λ (ys : List ℕ). take k (drop d words) ++ ys) (sym (drop-drop k d words ∙ ap (λ (j : ℕ). drop j words) (omega arith)))
    ∙ take-append-drop k (drop d words)

-- past the end all places are one
ends_alike : (words : List ℕ) (i j : ℕ) → (i ≡ j) ⊎ ((length words ≤ i) × (length words ≤ j)) → (take i words ≡ take j words) × (drop i words ≡ drop j words)
ends_alike words i j =
    ⊎_elim (λ e. (ap (λ (m : ℕ). take m words) e, ap (λ (m : ℕ). drop m words) e))
    (λ le. (take_all i words le.0 ∙ sym (take_all j words le.1), drop_all i words le.0 ∙ sym (drop_all j words le.1)))

module _ (words out : List ℕ) (d k : ℕ) (le : d + k ≤ length words) (long : length out ≡ k) where
  put_front : take (d + k) (put_mid d k words out) ≡ take d words ++ out
  put_front = take-put_mid d k words out (d + k) (omega arith) (omega arith)

  put_back : drop (d + k) (put_mid d k words out) ≡ drop (d + k) words
  put_back = drop-put_mid d k words out (d + k) (omega arith) (omega arith) long

  put_length : length (put_mid d k words out) ≡ length words
  put_length =
      let parts : put_mid d k words out ≡ take d words ++ out ++ drop (d + k) words = sym (take-append-drop (d + k) (put_mid d k words out)) ∙ (rw (put_front, put_back)) in
      ap length parts ∙ (simp (length-append, length-take, length-drop) (omega arith))

pub pieces_all : {start a : Answers} {all : List ℕ} → Causal a → (words : List ℕ) (d : ℕ) → Midway start all (take d words) a (drop d words) → length words ≤ d → Ran start all words a
pieces_all {a = a} causal words d mid le =
    let none : a (drop d words) ≡ [] = ap a (drop_all d words le) ∙ nil_from_length (a []) (causal.count []) in
    record {
      gave = sym mid.gave ∙ ap (λ (ys : List ℕ). take d words ++ ys) none ∙ append-nil (take d words) ∙ take_all d words le;
      left = sym (ap (after a) (drop_all d words le)) ∙ mid.left;
    }

-- a piece of at most `most` places, whose answers take those; the next piece begins `most` places on
module _ {start a : Answers} {all : List ℕ} (causal : Causal a) (words : List ℕ) (d : ℕ) (mid : Midway start all (take d words) a (drop d words)) (most k : ℕ) (lt : d < length words) (m : k ≡ min (length words - d) most) {out : List ℕ} {b : Answers} (ran : Ran a (take k (drop d words)) out b) where
  long : length out ≡ k
  long = sym (ap length ran.gave) ∙ causal.count _ ∙ (simp (length-take, length-drop) (omega arith))

  pub piece_more : Midway start all (take (d + most) (put_mid d k words out)) b (drop (d + most) (put_mid d k words out))
  piece_more =
      let whole = put_mid d k words out in
      let rest = drop (d + k) words in
      let same : length whole ≡ length words = put_length words out d k (omega arith) long in
      let ends = ends_alike whole (d + most) (d + k) (⊎_elim (λ short. inr (omega arith, omega arith)) (λ full. inl (omega arith)) (cases_lt (length words - d) most)) in
      let front = put_front words out d k (omega arith) long in
      let back = put_back words out d k (omega arith) long in
      rw (ends.0, ends.1, front, back) (record {
        gave = append_assoc (take d words) out (b rest) ∙ ap (λ (ys : List ℕ). take d words ++ ys) (sym (goes ran causal rest) ∙ ap a (cut words d k)) ∙ mid.gave;
        left = leads ran rest ∙ ap (after a) (cut words d k) ∙ mid.left;
      })

-- the same where the answers are dropped: what was sent, and then the rest, are all words
pub record Sending (start : Answers) (words : List ℕ) (a : Answers) (rest : List ℕ) : Type 0 where
  pub left : after a rest ≡ after start words

module _ {start a : Answers} {words rest : List ℕ} (mid : Sending start words a rest) where
  pub sent_more : (piece more : List ℕ) → rest ≡ piece ++ more → {b : Answers} → b ≡ after a piece → Sending start words b more
  sent_more piece more cut left =
      record {
        left = ap (λ (h : Answers). after h more) left ∙ after-after a piece more ∙ ap (after a) (sym cut) ∙ mid.left;
      }

  pub sent_all : length rest ≡ 0 → a ≡ after start words
  sent_all none = sym (ap (after a) (nil_from_length rest none)) ∙ mid.left

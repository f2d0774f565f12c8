-- A piece that is changed into a scratch buffer, sent below, and changed back.
use Rattle.std.proofs.Common.{◌≡◌, ℕ, ◌+◌, ◌<◌, List, map, length, get_or, take, set, sym, ap, ◌∙◌}
use mathlib.Core.Path.{fun_ext}
use Rattle.std.proofs.lemmas.List.{drop-map, length-map, map-append, map_more, take_more_set}
use Rattle.bus.specs.Answers.{Answers, Ran, after}
use Rattle.layer.specs.Kinds.{Kind, change, changed}

-- one element more is changed
pub changed_more : (f : ℕ → ℕ) (xs ys : List ℕ) (i v : ℕ) → i < length xs → i < length ys → take i ys ≡ map f (take i xs) → v ≡ f (get_or xs i 0) → take (i + 1) (set ys i v) ≡ map f (take (i + 1) xs)
changed_more f xs ys i v lx ly inv is = take_more_set ys i v ly ∙ (let e = map_more f xs i 0 lx in cc)

-- a layer after some bytes is a layer over the bus after those bytes, changed
pub changed-after : (k : Kind) (a : Answers) (xs : List ℕ) → after (changed k a) xs ≡ changed k (after a (map (change k) xs))
changed-after k a xs = fun_ext (λ ys. rw (map-append, drop-map, length-map))

module _ (k : Kind) (a : Answers) (p : List ℕ) {b : Answers} (bytes : List ℕ) (loaded : bytes ≡ map (change k) p) where
  pub sent_changed : b ≡ after a bytes → changed k b ≡ after (changed k a) p
  sent_changed left = ap (changed k) (left ∙ ap (after a) loaded) ∙ sym (changed-after k a p)

  pub ran_changed : {got out : List ℕ} → Ran a bytes got b → out ≡ map (change k) got → Ran (changed k a) p out (changed k b)
  ran_changed ran back =
      record { gave = ap (map (change k)) (ap a (sym loaded) ∙ ran.gave) ∙ sym back; left = sent_changed ran.left }

-- One run of a bus after another.
use Rattle.std.proofs.Common.{◌≡◌, ℕ, List, ◌++◌, length, take, sym, ap, ◌∙◌}
use mathlib.Core.Path.{fun_ext}
use Rattle.std.proofs.lemmas.List.{append_assoc, drop-drop, length-append, take-append-drop, take_at}
use Rattle.bus.specs.Answers.{Answers, Causal, Ran, after}

-- what is left after xs, and then after ys, is what is left after both
pub after-after : (a : Answers) (xs ys : List ℕ) → after (after a xs) ys ≡ after a (xs ++ ys)
after-after a xs ys = fun_ext (λ zs. rw (drop-drop, length-append, append_assoc))

module _ {a b : Answers} {xs rs : List ℕ} (ran : Ran a xs rs b) where
  -- what is left leads on
  pub leads : (ys : List ℕ) → after b ys ≡ after a (xs ++ ys)
  leads ys = rw ran.left (after-after a xs ys)

  -- the bytes that came, and then those still to come
  pub goes : Causal a → (ys : List ℕ) → a (xs ++ ys) ≡ rs ++ b ys
  goes c ys =
      rw (← ran.gave, ran.left, ← c.front xs ys) (sym (take-append-drop (length xs) (a (xs ++ ys))))

  -- a first part into its places, and the rest with no place
  pub two_parts : {c : Answers} (ys all : List ℕ) → Causal a → xs ++ ys ≡ all → c ≡ after b ys → (rs ≡ take (length xs) (a all)) × (c ≡ after a all)
  two_parts ys all causal whole left =
      let e : length rs ≡ length xs = ap length (sym ran.gave) ∙ causal.count xs in (
        sym (take_at rs (b ys) (length xs) e) ∙ ap (take (length xs)) (sym (goes causal ys) ∙ ap a whole),
        left ∙ leads ys ∙ ap (after a) whole,
      )

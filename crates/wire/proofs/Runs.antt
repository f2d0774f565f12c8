-- One run of a line after another.
use Rattle.std.proofs.Common.{◌≡◌, ℕ, ◌+◌, List, [], ◌∷◌, ◌++◌, sym, ap, ◌∙◌, arith}
use mathlib.Core.Path.{fun_ext}
use Rattle.std.proofs.lemmas.List.{append_assoc, drop-drop, take-append-drop}
use Rattle.wire.specs.declared.event.Event.{Event}
use Rattle.wire.specs.declared.event.Event.TheVariants.{Both, Out, In, Head}
use Rattle.wire.specs.Answers.{Answers, Causal, Ran, after, replies}

pub replies-append : (es fs : List Event) → replies (es ++ fs) ≡ replies es + replies fs
replies-append [] fs = omega arith
replies-append (Both b ∷ es) fs = omega (arith, replies-append es fs)
replies-append (Out b ∷ es) fs = replies-append es fs
replies-append (In ∷ es) fs = omega (arith, replies-append es fs)
replies-append (Head h ∷ es) fs = replies-append es fs

-- what is left after es, and then after fs, is what is left after both
pub after-after : (a : Answers) (es fs : List Event) → after (after a es) fs ≡ after a (es ++ fs)
after-after a es fs =
    fun_ext (λ gs. rw (replies-append, append_assoc) (drop-drop (replies fs) (replies es) _))

module _ {a b : Answers} {es : List Event} {rs : List ℕ} (ran : Ran a es rs b) where
  -- what is left leads on
  pub leads : (fs : List Event) → after b fs ≡ after a (es ++ fs)
  leads fs = rw ran.left (after-after a es fs)

  -- the bytes that came, and then those still to come
  pub goes : Causal a → (fs : List Event) → a (es ++ fs) ≡ rs ++ b fs
  goes c fs =
      rw (← ran.gave, ran.left, ← c.front es fs) (sym (take-append-drop (replies es) (a (es ++ fs))))

  pub ran_then : {c : Answers} {fs : List Event} {ss : List ℕ} → Causal a → Ran b fs ss c → Ran a (es ++ fs) (rs ++ ss) c
  ran_then {fs = fs} causal more =
      record { gave = goes causal fs ∙ ap (λ xs. rs ++ xs) more.gave; left = more.left ∙ leads fs }

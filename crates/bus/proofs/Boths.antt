-- What a line carries as Boths, a bus over it has sent.
use Rattle.std.proofs.Common.{◌≡◌, ℕ, List, map, ap, ◌∙◌}
use mathlib.Core.Path.{fun_ext}
use Rattle.std.proofs.lemmas.List.{map-append}
use Rattle.wire.specs.declared.event.Event.TheVariants.{Both}
use Rattle.wire.specs.Answers as line
use Rattle.bus.specs.Answers.{Ran, after}
use Rattle.wire.proofs.Boths.{replies_boths}
use Rattle.bus.specs.Bare.{bare}

module _ (a : line.Answers) (xs : List ℕ) {b : line.Answers} where
  pub left_bare : b ≡ line.after a (map Both xs) → bare b ≡ after (bare a) xs
  left_bare e = ap bare e ∙ fun_ext (λ ys. rw (map-append, replies_boths))

  pub ran_bare : {rs : List ℕ} → line.Ran a (map Both xs) rs b → Ran (bare a) xs rs (bare b)
  ran_bare ran = record { gave = ran.gave; left = left_bare ran.left }

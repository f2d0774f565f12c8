-- A machine after some events answers as the state that they lead to.
use Rattle.std.proofs.Common.{◌≡◌, List, [], ◌∷◌, refl}
use Rattle.wire.specs.declared.event.Event.{Event}
use Rattle.wire.specs.declared.event.Event.TheVariants.{Both, Out, In, Head}
use Rattle.wire.specs.Answers.{after}
use Rattle.wire.specs.Machine.{Machine, run}

module _ {S : Type 0} (m : Machine S) where
  abbrev pub led : S → List Event → S
  led s [] = s
  led s (e ∷ es) = led (m.next s e) es

  pub after_run : (s : S) (es : List Event) → after (run m s) es ≡ run m (led s es)
  after_run s [] = refl
  after_run s (Both b ∷ es) = after_run (m.next s (Both b)) es
  after_run s (Out b ∷ es) = after_run (m.next s (Out b)) es
  after_run s (In ∷ es) = after_run (m.next s In) es
  after_run s (Head h ∷ es) = after_run (m.next s (Head h)) es

-- How many words a statement takes, and what is wrong with another number. Assumes nothing.
use Rattle.std.specs.Prelude.{List, [], ◌∷◌, Some, None, Ok, Err, Option, Result}
use Rattle.faults.specs.declared.fault.Expected.{Expected}
use Rattle.faults.specs.declared.fault.Expected.TheVariants.{MoreWords, NoMoreWords}

module _ {A : Type 0} where
  abbrev pub none : List A → Result (Unit {0}) Expected
  none [] = Ok tt
  none (a ∷ more) = Err NoMoreWords

  abbrev pub one : List A → Result A Expected
  one [] = Err MoreWords
  one (a ∷ []) = Ok a
  one (a ∷ b ∷ more) = Err NoMoreWords

  abbrev pub two : List A → Result (A × A) Expected
  two [] = Err MoreWords
  two (a ∷ []) = Err MoreWords
  two (a ∷ b ∷ []) = Ok (a, b)
  two (a ∷ b ∷ c ∷ more) = Err NoMoreWords

  abbrev pub one_or_two : List A → Result (A × Option A) Expected
  one_or_two [] = Err MoreWords
  one_or_two (a ∷ []) = Ok (a, None)
  one_or_two (a ∷ b ∷ []) = Ok (a, Some b)
  one_or_two (a ∷ b ∷ c ∷ more) = Err NoMoreWords

  abbrev pub none_or_four : List A → Result (Option (A × A × A × A)) Expected
  none_or_four [] = Ok None
  none_or_four (a ∷ []) = Err MoreWords
  none_or_four (a ∷ b ∷ []) = Err MoreWords
  none_or_four (a ∷ b ∷ c ∷ []) = Err MoreWords
  none_or_four (a ∷ b ∷ c ∷ d ∷ []) = Ok (Some (a, b, c, d))
  none_or_four (a ∷ b ∷ c ∷ d ∷ e ∷ more) = Err NoMoreWords

-- A line driven by Boths, as a bus. Cited where a bare line says what it means.
use Rattle.std.specs.Prelude.{ℕ, List, ◌++◌, map, length, take}
use Rattle.std.proofs.Common.{sym, ap, ◌∙◌}
use Rattle.std.proofs.lemmas.List.{map-append}
use Rattle.wire.specs.declared.event.Event.{Event}
use Rattle.wire.specs.declared.event.Event.TheVariants.{Both}
use Rattle.wire.specs.Answers as line
use Rattle.wire.proofs.Boths.{boths_sendable, replies_boths}
use Rattle.bus.specs.Answers.{Answers, Causal}

-- a Both for each byte
abbrev pub bare : line.Answers → Answers
bare a xs = a (map Both xs)

pub bare_causal : (a : line.Answers) → line.Causal a → Causal (bare a)
bare_causal a c =
    record {
      count = λ xs. c.count (map Both xs) ∙ replies_boths xs;
      front = λ xs ys. ap (λ (es : List Event). take (length xs) (a es)) (map-append Both xs ys) ∙ ap (λ (n : ℕ). take n (a (map Both xs ++ map Both ys))) (sym (replies_boths xs)) ∙ c.front (map Both xs) (map Both ys);
      bytes = λ xs all. c.bytes (map Both xs) (boths_sendable xs all);
    }

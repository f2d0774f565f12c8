-- What a layer answers is what a bus can answer. Cited where a layer says what it means.
use Rattle.std.specs.Prelude.{ℕ, zero, suc, List, [], ◌∷◌, ◌++◌, map, length, take}
use Rattle.std.proofs.Common.{sym, ap, ◌∙◌, lit<}
use Rattle.std.proofs.lemmas.List.{length-map, map-append, take-map}
use Rattle.wire.specs.Answers.{Bytes}
use Rattle.bus.specs.Answers.{Answers, Causal}
use Rattle.layer.specs.Kinds.{Kind, change, changed}
use Rattle.layer.specs.Undone.{change_byte}

changed_bytes : (k : Kind) (xs : List ℕ) → Bytes xs → Bytes (map (change k) xs)
changed_bytes k [] all j = lit< tt
changed_bytes k (x ∷ xs) all zero = change_byte k x (all 0)
changed_bytes k (x ∷ xs) all (suc j) = changed_bytes k xs (λ i. all (suc i)) j

pub changed_causal : (k : Kind) (a : Answers) → Causal a → Causal (changed k a)
changed_causal k a c =
    record {
      count = λ xs. length-map _ _ ∙ c.count _ ∙ length-map _ _;
      front = λ xs ys. ap (λ (zs : List ℕ). take (length xs) (map (change k) (a zs))) (map-append (change k) xs ys) ∙ take-map (change k) (length xs) _ ∙ ap (λ (n : ℕ). map (change k) (take n (a (map (change k) xs ++ map (change k) ys)))) (sym (length-map xs (change k))) ∙ ap (map (change k)) (c.front (map (change k) xs) (map (change k) ys));
      bytes = λ xs all. changed_bytes k (a (map (change k) xs)) (c.bytes (map (change k) xs) (changed_bytes k xs all));
    }

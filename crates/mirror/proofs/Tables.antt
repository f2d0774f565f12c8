-- A rule computed once over a whole table, and carried to each entry.
use Rattle.std.proofs.Common.{◌≡◌, ℕ, ◌<◌, map, get_or, sym, ap, ◌∙◌, arith}
use Rattle.std.specs.List.{range_with_len}
use Rattle.std.proofs.lemmas.List.FromFn.{get_or-map-range_with_len}

-- two functions that agree in the whole table of n entries agree at each number below n
pub by_table : {X : Type 0} (f g : ℕ → X) (n : ℕ) → map f (range_with_len 0 n) ≡ map g (range_with_len 0 n) → (x : ℕ) → x < n → f x ≡ g x
by_table f g n same x lt =
    sym (get_or-map-range_with_len f 0 n x x (f x) lt (omega arith))
    ∙ ap (λ l. get_or l x (f x)) same
    ∙ get_or-map-range_with_len g 0 n x x (f x) lt (omega arith)

-- Bytes that are read pair by pair. Assumes nothing.
use Rattle.std.proofs.Common.{◌≡◌, ℕ, ◌+◌, ◌*◌, ◌%◌, ◌<◌, ◌≤◌, min, List, [], ◌∷◌, ◌++◌, length, get_or, drop, Some, None, Option, sym, refl, ap, ◌∙◌, arith}
use Rattle.std.specs.Option.{option_map}
use Rattle.std.proofs.lemmas.List.{append_assoc, append-nil, drop_all, drop_more, length-append, nil_from_length}
use Rattle.digits.specs.Digits.{and_then, hex_pair, pairs}

-- bs was read, and the rest is left
abbrev pub with : List ℕ → Option (List ℕ) → Option (List ℕ)
with bs o = option_map (λ rest. bs ++ rest) o

nothing : (o : Option ℕ) → and_then {B = List ℕ} o (λ b. None) ≡ None
nothing None = refl
nothing (Some b) = refl

pub odd : (ws : List ℕ) → length ws % 2 ≡ 1 → pairs ws ≡ None
odd [] h = absurd (omega arith)
odd (a ∷ []) h = refl
odd (a ∷ b ∷ ws) h =
    let rest : pairs ws ≡ None = odd ws (omega arith) in
    ap (λ o. and_then (hex_pair a b) (λ x. option_map (λ (xs : List ℕ). x ∷ xs) o)) rest ∙ nothing (hex_pair a b)

-- the first pair, of which r was read, and what follows it
module _ (all pair rest : List ℕ) (r : Option ℕ) (n : ℕ) (two : n ≡ 2) (parts : all ≡ pair ++ rest) (size : length pair ≡ min n (length all)) (some : 0 < length all) (read : 0 < length pair → length pair ≤ 2 → option_map (λ b. b ∷ []) r ≡ pairs pair) where
  parted : pairs all ≡ and_then r (λ b. option_map (λ bs. b ∷ bs) (pairs rest))
  parted = ap pairs parts ∙ by pair r (omega arith) (omega arith) (λ h. nil_from_length rest (omega (arith, ap length parts, length-append pair rest))) (read (omega arith) (omega arith)) where
    by : (pair : List ℕ) (r : Option ℕ) → 0 < length pair → length pair ≤ 2 → (length pair < 2 → rest ≡ []) → option_map (λ b. b ∷ []) r ≡ pairs pair
        → pairs (pair ++ rest) ≡ and_then r (λ b. option_map (λ bs. b ∷ bs) (pairs rest))
    by [] r some short none e = absurd (omega arith)
    by (h ∷ []) None some short none e = ap (λ xs. pairs (h ∷ xs)) (none (omega arith))
    by (h ∷ []) (Some b) some short none e = grind arith
    by (h ∷ l ∷ []) r some short none e = ap (λ o. and_then o (λ b. option_map (λ bs. b ∷ bs) (pairs rest))) (same (hex_pair h l) r e) where
      same : (o r : Option ℕ) → option_map (λ b. b ∷ []) r ≡ and_then o (λ b. Some (b ∷ [])) → o ≡ r
      same None None e = refl
      same None (Some b) e = grind arith
      same (Some a) None e = grind arith
      same (Some a) (Some b) e = grind arith
    by (h ∷ l ∷ x ∷ xs) r some short none e = absurd (omega arith)

  pub more : (bs : List ℕ) (b : ℕ) → r ≡ Some b → with bs (pairs all) ≡ with (bs ++ b ∷ []) (pairs rest)
  more bs b e = ap (with bs) (parted ∙ ap (λ o. and_then o (λ b. option_map (λ bs. b ∷ bs) (pairs rest))) e) ∙ by (pairs rest) where
    by : (o : Option (List ℕ)) → with bs (option_map (λ xs. b ∷ xs) o) ≡ with (bs ++ b ∷ []) o
    by None = refl
    by (Some xs) = ap Some (sym (append_assoc bs (b ∷ []) xs))

-- bytes read from pairs by their places
module _ (bs ws : List ℕ) (i : ℕ) (here : 2 * i + 1 < length ws) where
  two : drop (2 * i) ws ≡ get_or ws (2 * i) 0 ∷ get_or ws (2 * i + 1) 0 ∷ drop (2 * (i + 1)) ws
  two =
      drop_more ws (2 * i) 0 (omega arith)
      ∙ ap (λ xs. get_or ws (2 * i) 0 ∷ xs) (drop_more ws (2 * i + 1) 0 here ∙ ap (λ n. get_or ws (2 * i + 1) 0 ∷ drop n ws) (omega arith))

  pub pair_more : (b : ℕ) → hex_pair (get_or ws (2 * i) 0) (get_or ws (2 * i + 1) 0) ≡ Some b → with bs (pairs (drop (2 * i) ws)) ≡ with (bs ++ b ∷ []) (pairs (drop (2 * (i + 1)) ws))
  pair_more b e = rw (two, e) (by (pairs (drop (2 * (i + 1)) ws))) where
    by : (o : Option (List ℕ)) → with bs (option_map (λ rest. b ∷ rest) o) ≡ with (bs ++ b ∷ []) o
    by None = refl
    by (Some xs) = ap Some (sym (append_assoc bs (b ∷ []) xs))

  pub pair_none : hex_pair (get_or ws (2 * i) 0) (get_or ws (2 * i + 1) 0) ≡ None → with bs (pairs (drop (2 * i) ws)) ≡ None
  pair_none e = rw (two, e) refl

pub read_none : (bs ws : List ℕ) → bs ≡ [] → with bs (pairs (drop (2 * 0) ws)) ≡ pairs ws
read_none bs ws e = ap (λ xs. with xs (pairs ws)) e ∙ by (pairs ws) where
  by : (o : Option (List ℕ)) → with [] o ≡ o
  by None = refl
  by (Some xs) = refl

pub read_all : (bs ws : List ℕ) (n : ℕ) → length ws ≤ n → with bs (pairs (drop n ws)) ≡ Some bs
read_all bs ws n h = rw (drop_all n ws h) (ap Some (append-nil bs))

-- What a transfer with two buffers sends.
use Rattle.std.proofs.Common.{◌≡◌, ℕ, ◌+◌, ◌-◌, ◌<◌, ◌≤◌, min, List, ◌++◌, map, length, get_or, take, drop, replicate, sym, refl, ap, ◌∙◌, ⊎_elim, arith}
use Rattle.std.proofs.lemmas.List.{ext_get_or, get_or_append_left, get_or-append_right, get_or-drop, get_or_past, get_or-replicate, length-append, length-drop, length-replicate, map-append, take_at}
use Rattle.std.proofs.lemmas.Bool.{cases_lt}
use Rattle.wire.specs.declared.event.Event.TheVariants.{Both}
use Rattle.wire.specs.Answers.{Answers, Causal, Ran, after, padded}
use Rattle.wire.proofs.Boths.{replies_boths}
use Rattle.wire.proofs.Runs.{goes, leads}

zeros : (m j : ℕ) → get_or {A = ℕ} (replicate m 0) j 0 ≡ 0
zeros m j =
    ⊎_elim (get_or-replicate {A = ℕ} m j 0 0) (λ h. get_or_past {X = ℕ} (replicate m 0) j 0 (simp length-replicate h)) (cases_lt j m)

-- a pad reads as what stands past the end
get_or-padded : (ws : List ℕ) (n k : ℕ) → get_or (padded ws n) k 0 ≡ get_or ws k 0
get_or-padded ws n k =
    ⊎_elim (get_or_append_left ws (replicate (n - length ws) 0) 0 k)
    (λ h. get_or-append_right ws (replicate (n - length ws) 0) (length ws) k 0 refl h ∙ zeros (n - length ws) (k - length ws) ∙ sym (get_or_past ws k 0 h))
    (cases_lt k (length ws))

-- what was not placed goes on where the places end
past_places : (ws : List ℕ) (n k : ℕ) → n ≤ k → get_or ws (min n (length ws) + (k - n)) 0 ≡ get_or ws k 0
past_places ws n k le =
    ⊎_elim (λ lt. ap (λ (j : ℕ). get_or ws j 0) (omega arith))
    (λ ge. get_or_past ws (min n (length ws) + (k - n)) 0 (omega arith) ∙ sym (get_or_past ws k 0 (omega arith)))
    (cases_lt n (length ws))

module _ (ws xs : List ℕ) (same : (k : ℕ) → k < length xs → get_or xs k 0 ≡ get_or ws k 0) where
  -- the places hold the bytes to send or pads, and what was not placed follows
  pub all_sent : xs ++ drop (min (length xs) (length ws)) ws ≡ padded ws (length xs)
  all_sent =
      let n = length xs in
      let rest = drop (min n (length ws)) ws in
      ext_get_or 0 (xs ++ rest) (padded ws n) (simp (length-append, length-drop, length-replicate) (omega arith))
      (λ k _. ⊎_elim (λ lt. get_or_append_left xs rest 0 k lt ∙ same k lt)
      (λ le. get_or-append_right xs rest n k 0 refl le ∙ get_or-drop (min n (length ws)) ws (k - n) 0 ∙ past_places ws n k le)
      (cases_lt k n)
      ∙ sym (get_or-padded ws n k))

  -- the places in one run, what was not placed in another
  pub two_buffers : {a b c : Answers} {got : List ℕ} → Causal a → Ran a (map Both xs) got b → c ≡ after b (map Both (drop (min (length xs) (length ws)) ws)) → (got ≡ take (length xs) (a (map Both (padded ws (length xs))))) × (c ≡ after a (map Both (padded ws (length xs))))
  two_buffers {a = a} {b = b} {got = got} causal ran left =
      let n = length xs in
      let rest = drop (min n (length ws)) ws in
      let es : map Both xs ++ map Both rest ≡ map Both (padded ws n) = sym (map-append Both xs rest) ∙ ap (map Both) all_sent in
      let e : length got ≡ n = ap length (sym ran.gave) ∙ causal.count (map Both xs) ∙ replies_boths xs in (
        sym (take_at got (b (map Both rest)) n e) ∙ ap (take n) (sym (goes ran causal (map Both rest)) ∙ ap a es),
        left ∙ leads ran (map Both rest) ∙ ap (after a) es,
      )

-- What a relay chain holds and gives back, byte after byte.
use Rattle.std.proofs.Common.{◌≡◌, ℕ, ◌+◌, ◌<◌, ◌≤◌, List, [], ◌∷◌, ◌++◌, map, length, get_or, take, drop, set, sym, refl, ap, ◌∙◌, add-one, arith}
use borrow.Rule.Slice.PartMut.{put_mid}
use Rattle.std.proofs.lemmas.List.{append_assoc, append-nil, drop_all, drop-append-le, drop-drop, get_or_append_left, get_or-append_right, get_or-take, length-append, length-drop, length-take-le, set_at}
use Rattle.wire.specs.declared.event.Event.TheVariants.{Both}
use Rattle.wire.specs.Machine.{run}
use Rattle.wire.proofs.States.{led}
use Rattle.relay.specs.Relay.{Delayed, chain, shifted}

-- cells turned by one, with b in the last place: their end from n on is shifted
pub turned_end : (cells : List ℕ) (n k b : ℕ) → length cells ≡ k + 1 → n ≤ k → drop n (set (drop 1 cells ++ take 1 cells) k b) ≡ shifted (drop n cells) b
turned_end [] n k b e le = absurd (omega arith)
turned_end (x ∷ xs) n k b e le =
    let l : 1 ≤ length (drop n (x ∷ xs)) = simp length-drop (omega arith) in
    let m : n ≤ length xs = omega arith in
    rw (set_at xs x [] b k (omega arith), drop-append-le n xs, drop-append-le 1 (drop n (x ∷ xs)), drop-drop 1 n (x ∷ xs), add-one)

pub filled_end : (xs ys : List ℕ) (a k : ℕ) → length xs ≡ a + k → put_mid a k xs ys ≡ take a xs ++ ys
filled_end xs ys a k e =
    ap (λ (zs : List ℕ). take a xs ++ (ys ++ zs)) (drop_all k (drop a xs) (simp length-drop (omega arith)))
    ∙ ap (λ (zs : List ℕ). take a xs ++ zs) (append-nil ys)

-- what is sent comes back behind what the chain held
pub delays : (bs ws : List ℕ) → 0 < length bs → run chain bs (map Both ws) ≡ take (length ws) (bs ++ ws)
delays [] ws pos = absurd (omega arith)
delays (x ∷ bs) [] pos = refl
delays (x ∷ bs) (w ∷ ws) pos =
    ap (λ (xs : List ℕ). x ∷ xs) (delays (bs ++ w ∷ []) ws (simp length-append (omega arith)) ∙ ap (take (length ws)) (append_assoc bs (w ∷ []) ws))

-- and the chain keeps the rest
pub keeps : (bs ws : List ℕ) → 0 < length bs → led chain bs (map Both ws) ≡ drop (length ws) (bs ++ ws)
keeps [] ws pos = absurd (omega arith)
keeps (x ∷ bs) [] pos = sym (append-nil (x ∷ bs))
keeps (x ∷ bs) (w ∷ ws) pos =
    keeps (bs ++ w ∷ []) ws (simp length-append (omega arith)) ∙ ap (drop (length ws)) (append_assoc bs (w ∷ []) ws)

pub delayed : (bs ws got : List ℕ) → got ≡ take (length ws) (bs ++ ws) → Delayed bs ws got
delayed bs ws got e =
    let n : length ws ≤ length (bs ++ ws) = simp length-append (omega arith) in
    record {
      count = ap length e ∙ length-take-le (length ws) (bs ++ ws) n;
      first = λ k lt in_held. ap (λ (xs : List ℕ). get_or xs k 0) e ∙ get_or-take (length ws) (bs ++ ws) k 0 lt ∙ get_or_append_left bs ws 0 k in_held;
      later = λ k lt past. ap (λ (xs : List ℕ). get_or xs k 0) e ∙ get_or-take (length ws) (bs ++ ws) k 0 lt ∙ get_or-append_right bs ws (length bs) k 0 refl past;
    }

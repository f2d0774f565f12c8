-- A machine that is bytewise answers as a line does. Cited where a line says what it means.
use Rattle.std.specs.Prelude.{◌≡◌, zero, suc, List, [], ◌∷◌, ◌++◌, length, take, refl}
use Rattle.std.proofs.Common.{ap, lit<}
use Rattle.wire.specs.declared.event.Event.{Event}
use Rattle.wire.specs.declared.event.Event.TheVariants.{Both, Out, In, Head}
use Rattle.wire.specs.Answers.{Bytes, Causal, Sendable, replies}
use Rattle.wire.specs.Machine.{Bytewise, Machine, run}

module _ {S : Type 0} (m : Machine S) where
  run_count : (s : S) (es : List Event) → length (run m s es) ≡ replies es
  run_count s [] = refl
  run_count s (Both b ∷ es) = ap suc (run_count (m.next s (Both b)) es)
  run_count s (Out b ∷ es) = run_count (m.next s (Out b)) es
  run_count s (In ∷ es) = ap suc (run_count (m.next s In) es)
  run_count s (Head h ∷ es) = run_count (m.next s (Head h)) es

  run_front : (s : S) (es fs : List Event) → take (replies es) (run m s (es ++ fs)) ≡ run m s es
  run_front s [] fs = refl
  run_front s (Both b ∷ es) fs = ap (λ xs. m.ready s ∷ xs) (run_front (m.next s (Both b)) es fs)
  run_front s (Out b ∷ es) fs = run_front (m.next s (Out b)) es fs
  run_front s (In ∷ es) fs = ap (λ xs. m.ready s ∷ xs) (run_front (m.next s In) es fs)
  run_front s (Head h ∷ es) fs = run_front (m.next s (Head h)) es fs

  module _ {Good : S → Type 0} (w : Bytewise m Good) where
    run_bytes : (s : S) (es : List Event) → Good s → Sendable es → Bytes (run m s es)
    run_bytes s [] g ok k = lit< tt
    run_bytes s (Both b ∷ es) g ok zero = w.ready s g
    run_bytes s (Both b ∷ es) g ok (suc k) =
        run_bytes (m.next s (Both b)) es (w.next s (Both b) g (ok 0)) (λ j. ok (suc j)) k
    run_bytes s (Out b ∷ es) g ok k =
        run_bytes (m.next s (Out b)) es (w.next s (Out b) g (ok 0)) (λ j. ok (suc j)) k
    run_bytes s (In ∷ es) g ok zero = w.ready s g
    run_bytes s (In ∷ es) g ok (suc k) =
        run_bytes (m.next s In) es (w.next s In g (ok 0)) (λ j. ok (suc j)) k
    run_bytes s (Head h ∷ es) g ok k =
        run_bytes (m.next s (Head h)) es (w.next s (Head h) g (ok 0)) (λ j. ok (suc j)) k

    pub run_causal : (s : S) → Good s → Causal (run m s)
    run_causal s g =
        record { count = run_count s; front = run_front s; bytes = λ es ok. run_bytes s es g ok }

-- A text that is not read stops at its first wrong line. Assumes nothing.
use Rattle.std.proofs.Common.{◌≡◌, ℕ, ◌+◌, List, [], ◌∷◌, Ok, Err, Result, sym, refl, ap, ◌∙◌, arith}
use Rattle.faults.specs.declared.fault.Expected.{Expected}
use Rattle.faults.specs.declared.fault.Fault.{Fault}
use Rattle.faults.specs.declared.fault.Fault.TheVariants.{Bad, Memory}
use Rattle.scenario.specs.declared.whole.Scenario.{Scenario}
use Rattle.faults.specs.Readings.{Reading}
use Rattle.scenario.specs.Scenarios.{Sofar, finished, go_on, lines_from, start, with_text}
use Rattle.scenario.specs.Wholes.{ReadAs}
use Rattle.words.specs.Words.{lines}
use Rattle.scenario.specs.Wrongs.{NamesFirst, Refuses}

same_err : {A B : Type 0} (a b : B) → ◌≡◌ {A = Result A B} (Err a) (Err b) → a ≡ b
same_err a b e = cc

module _ (n : ℕ) (s : Sofar) (l : List ℕ) (ls : List (List ℕ)) (k : ℕ) (e : Expected) where
  stops : (v : Reading Sofar) → with_text s l ≡ v → ((u : Sofar) → lines_from (n + 1) u ls ≡ Err (k, e) → Refuses (n + 1) u ls k e) → go_on n v (λ u. lines_from (n + 1) u ls) ≡ Err (k, e) → Refuses n s (l ∷ ls) k e
  stops (Err x) p ih q =
      let same = same_err (n, x) (k, e) q in
      let here : k ≡ n = sym (ap (λ (y : ℕ × Expected). y.0) same) in
      record {
        front = [];
        here = l;
        back = ls;
        before = s;
        cut = refl;
        place = omega arith;
        read = refl;
        wrong = p ∙ ap Err (ap (λ (y : ℕ × Expected). y.1) same);
      }
  stops (Ok u) p ih q =
      let h = ih u q in
      record {
        front = l ∷ h.front;
        here = h.here;
        back = h.back;
        before = h.before;
        cut = ap (λ (xs : List (List ℕ)). l ∷ xs) h.cut;
        place = omega (arith, h.place);
        read = ap (λ (v : Reading Sofar). go_on n v (λ w. lines_from (n + 1) w h.front)) p ∙ h.read;
        wrong = h.wrong;
      }

refuses : (n : ℕ) (s : Sofar) (ls : List (List ℕ)) (k : ℕ) (e : Expected) → lines_from n s ls ≡ Err (k, e) → Refuses n s ls k e
refuses n s [] k e q = absurd (cc)
refuses n s (l ∷ ls) k e q = stops n s l ls k e (with_text s l) refl (λ u. refuses (n + 1) u ls k e) q

unfinished : (r : Result Sofar (ℕ × Expected)) (f : ℕ × Expected) → finished r ≡ Err f → r ≡ Err f
unfinished (Ok s) f q = absurd (cc)
unfinished (Err g) f q = cc

pub names_first : (r : Result Scenario Fault) (text : List ℕ) → ReadAs r text → NamesFirst r text
names_first (Ok s) text q = tt
names_first (Err (Bad k e)) text q = refuses 1 start (lines text) k e (unfinished (lines_from 1 start (lines text)) (k, e) q)
names_first (Err Memory) text q = tt

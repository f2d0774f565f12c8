-- One line of a scenario more. Assumes nothing.
use Rattle.std.proofs.Common.{◌≡◌, ℕ, ◌+◌, ◌<◌, List, ◌∷◌, Some, None, Option, Ok, Err, Result, drop, length, sym, subst, ap, ◌∙◌, arith}
use Rattle.std.specs.Result.{IsErrAnd, MatchResult}
use Rattle.std.specs.List.{enumerate_from}
use Rattle.std.specs.Iterator.{Yields}
use Rattle.std.proofs.lemmas.Iterator.{YieldsList}
use Rattle.std.proofs.lemmas.Iterator.Consumers.{YieldsList-turn, YieldsList-end}
use Rattle.std.proofs.lemmas.List.{at_drop_more, at_drop_all}
use Rattle.std.proofs.lemmas.List.FromFn.{length-enumerate_from, get_or-enumerate_from}
use Rattle.faults.specs.declared.fault.Expected.{Expected}
use Rattle.faults.specs.declared.fault.Fault.{Fault}
use Rattle.faults.specs.declared.fault.Refusal.{Refusal}
use Rattle.faults.specs.declared.fault.Refusal.TheVariants.{Unread, NoMemory}
use Rattle.faults.specs.Faults.{fault_at}
use Rattle.faults.specs.Readings.{Reading, Reads}
use Rattle.scenario.specs.Scenarios.{Sofar, finished, go_on, lines_from, start, with_text}
use Rattle.scenario.specs.Wholes.{ReadAs}
use Rattle.words.specs.Words.{lines}

module _ (n : ℕ) (s : Sofar) (l : List ℕ) (ls : List (List ℕ)) where
  pub line_read : (t : Sofar) → with_text s l ≡ Ok t → lines_from n s (l ∷ ls) ≡ lines_from (n + 1) t ls
  line_read t e = ap (λ (m : Reading Sofar). go_on n m (λ u. lines_from (n + 1) u ls)) e

-- after k of the lines l comes next, and i is its place
pub record Next (ls : List (List ℕ)) (k i : ℕ) (l : List ℕ) : Type 0 where
  pub number : i ≡ k
  pub cut : drop k ls ≡ l ∷ drop (k + 1) ls

-- a loop over the lines, which has had xs
module _ {S A : Type 0} {steps : S → Option A → S → Type 0} {v : A → ℕ × List ℕ} {s : S} (text : List ℕ) (road : YieldsList {B = ℕ × List ℕ} steps v s (enumerate_from 0 (lines text))) (xs : List A) (t : S) (had : Yields steps s xs t) (r : Option A) (u : S) where
  pub next_line : (x : A) → r ≡ Some x → steps t r u → Next (lines text) (length xs) (v x).0 (v x).1
  next_line x is step =
      let k = length xs in
      let turn = YieldsList-turn road xs t had r u x is step in
      let within : k < length (lines text) = omega (arith, turn.0, length-enumerate_from 0 (lines text)) in
      let same = turn.1 ∙ get_or-enumerate_from 0 (lines text) k (v x) within in
      record {
        number = omega (arith, ap (λ (p : ℕ × List ℕ). p.0) same);
        cut = at_drop_more (λ (ls : List (List ℕ)). ls) (lines text) k (v x).1 within ∙ ap (λ (l : List ℕ). l ∷ drop (k + 1) (lines text)) (sym (ap (λ (p : ℕ × List ℕ). p.1) same));
      }

  pub all_read : (w : Sofar) → r ≡ None → steps t r u → lines_from (length xs + 1) w (drop (length xs) (lines text)) ≡ Ok w
  all_read w is step =
      let end = YieldsList-end road xs t had r u is step in
      at_drop_all (lines_from (length xs + 1) w) (lines text) (length xs) (omega (arith, end.1, length-enumerate_from 0 (lines text)))

module _ (ls : List (List ℕ)) (k i : ℕ) (l : List ℕ) (s : Sofar) (next : Next ls k i l) where
  opened : (m : Reading Sofar) → with_text s l ≡ m → lines_from (k + 1) s (drop k ls) ≡ go_on (k + 1) m (λ u. lines_from (k + 1 + 1) u (drop (k + 1) ls))
  opened m e = ap (lines_from (k + 1) s) next.cut ∙ ap (λ (v : Reading Sofar). go_on (k + 1) v (λ u. lines_from (k + 1 + 1) u (drop (k + 1) ls))) e

  pub next_read : (t : Sofar) → with_text s l ≡ Ok t → lines_from (k + 1) s (drop k ls) ≡ lines_from (k + 1 + 1) t (drop (k + 1) ls)
  next_read t e = ap (lines_from (k + 1) s) next.cut ∙ line_read (k + 1) s l (drop (k + 1) ls) t e

  line_refused : (x : Expected) → with_text s l ≡ Err x → lines_from (k + 1) s (drop k ls) ≡ Err (i + 1, x)
  line_refused x e = opened (Err x) e ∙ ap (λ (n : ℕ). Err (n + 1, x)) (sym next.number)

-- a line that is refused is the first that is wrong
module _ (text : List ℕ) (k i : ℕ) (l : List ℕ) (s t : Sofar) (next : Next (lines text) k i l) (same : lines_from (k + 1) s (drop k (lines text)) ≡ lines_from 1 start (lines text)) where
  told : (e : Refusal) → Reads {X = Unit {0}} (λ _. t) (Err e) (with_text s l) → ReadAs (Err (fault_at e (i + 1))) text
  told (Unread x) h = ap finished (sym same ∙ line_refused (lines text) k i l s next x h)
  told NoMemory h = tt

  pub refused : (P : Refusal → Fault → Type 0) (r : Result (Unit {0}) Refusal) (m : Result (Unit {0}) Fault) (f : Fault) → Reads (λ _. t) r (with_text s l)
      → MatchResult r (λ x. m ≡ Ok x) (λ e. IsErrAnd m (P e)) → m ≡ Err f → ((e : Refusal) → P e f → f ≡ fault_at e (i + 1)) → ReadAs (Err f) text
  refused P (Ok x) m f read mapped is by = absurd (cc)
  refused P (Err e) (Ok x) f read mapped is by = absurd mapped
  refused P (Err e) (Err g) f read mapped is by =
      let g_is : g ≡ f = cc in
      subst (λ (h : Fault). ReadAs (Err h) text) (sym (by e (subst (λ (h : Fault). P e h) g_is mapped))) (told e read)

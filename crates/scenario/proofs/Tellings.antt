-- A scenario that is read is what its text tells. Assumes nothing.
use Rattle.std.proofs.Common.{◌≡◌, ℕ, ◌+◌, Bool, true, false, cond, not, ◌&&◌, ltb, List, [], ◌∷◌, ◌++◌, length, is_some, Some, None, Ok, Err, Option, Result, unwrap_or, sym, refl, ap, ◌∙◌, subst, arith}
use Rattle.std.specs.Option.{option_to_list}
use Rattle.std.proofs.lemmas.List.{append_assoc, append-nil, length_push}
use Rattle.std.proofs.Math.Bool.{and-false}
use Rattle.std.proofs.lemmas.Bool.{lt-ltb}
use Rattle.faults.specs.declared.fault.Expected.{Expected}
use Rattle.faults.specs.declared.fault.Expected.TheVariants.{LineBeforeCalls}
use Rattle.faults.specs.Readings.{Reading, ok_map, read_then}
use Rattle.scenario.specs.Scenarios.{Sofar, finished, go_on, lines_from, scenario, start, with_any, with_said}
use Rattle.scenario.specs.Statements.{Line, Act, Said, line, source, call, board, fresh_board, statement}
use Rattle.scenario.specs.Tales.{Ruled, Tells, line_in, timed, told}
use Rattle.words.specs.Words.{lines, uncommented, words}

-- what is known after the statements ms
abbrev after : Sofar → List Said → Reading Sofar
after s [] = Ok s
after s (m ∷ ms) = read_then (with_said s m) (λ u. after u ms)

same_ok : {A B : Type 0} (a b : A) → ◌≡◌ {A = Result A B} (Ok a) (Ok b) → a ≡ b
same_ok a b e = cc

-- the lines say some statements, which lead from s to t
abbrev Heard : Sofar → Reading (List Said) → Sofar → Type 0
Heard s here t = (ms : List Said) × (here ≡ Ok ms) × (after s ms ≡ Ok t)

module _ (n : ℕ) (s : Sofar) (ls : List (List ℕ)) (t : Sofar) (ih : (u : Sofar) → lines_from (n + 1) u ls ≡ Ok t → Heard u (told ls) t) where
  heard_said : (m : Said) (v : Reading Sofar) → with_said s m ≡ v → go_on n v (λ u. lines_from (n + 1) u ls) ≡ Ok t → Heard s (ok_map (λ ms. m ∷ ms) (told ls)) t
  heard_said m (Err x) p e = absurd (cc)
  heard_said m (Ok u) p e =
      let h = ih u e in
      (m ∷ h.0, ap (ok_map (λ (ms : List Said). m ∷ ms)) h.1, ap (λ (v : Reading Sofar). read_then v (λ w. after w h.0)) p ∙ h.2)

  heard_line : (r : Reading (Option Said)) → go_on n (read_then r (with_any s)) (λ u. lines_from (n + 1) u ls) ≡ Ok t → Heard s (read_then r (λ o. ok_map (λ ms. option_to_list o ++ ms) (told ls))) t
  heard_line (Err x) e = absurd (cc)
  heard_line (Ok None) e = let h = ih s e in (h.0, ap (ok_map (λ (ms : List Said). ms)) h.1, h.2)
  heard_line (Ok (Some m)) e = heard_said m (with_said s m) refl e

heard : (n : ℕ) (s : Sofar) (ls : List (List ℕ)) (t : Sofar) → lines_from n s ls ≡ Ok t → Heard s (told ls) t
heard n s [] t e = ([], refl, ap Ok (same_ok s t e))
heard n s (l ∷ ls) t e = heard_line n s ls t (λ u. heard (n + 1) u ls t) (statement (words (uncommented l))) e

-- what is known, by its parts
abbrev known : Option Line → ℕ → List (ℕ × Act) → Sofar
known g rate st = record { given = g; rate = rate; steps = st }

-- whether a line statement may still come
abbrev may : Option Line → List (ℕ × Act) → Bool
may g st = not (is_some g) && not (ltb 0 (length st))

abbrev line_from : Option Line → List Said → Line
line_from None ms = line_in ms
line_from (Some l) ms = l

record Follows (g : Option Line) (rate : ℕ) (st : List (ℕ × Act)) (ms : List Said) (t : Sofar) : Type 0 where
  pub ruled : Ruled (may g st) ms
  pub line_set : unwrap_or t.given (board fresh_board) ≡ line_from g ms
  pub steps : t.steps ≡ st ++ timed rate ms

from_none : (g : Option Line) → unwrap_or g (board fresh_board) ≡ line_from g []
from_none None = refl
from_none (Some l) = refl

from_source : (g : Option Line) (hz : ℕ) (ms : List Said) → line_from g ms ≡ line_from g (source hz ∷ ms)
from_source None hz ms = refl
from_source (Some l) hz ms = refl

from_call : (g : Option Line) (a : Act) (ms : List Said) → line_from g ms ≡ line_from g (call a ∷ ms)
from_call None a ms = refl
from_call (Some l) a ms = refl

-- none may come after a call
closed : (g : Option Line) (st : List (ℕ × Act)) (x : ℕ × Act) → may g (st ++ x ∷ []) ≡ false
closed g st x =
    ap (λ b. not (is_some g) && not b) (lt-ltb 0 (length (st ++ x ∷ [])) (omega (arith, length_push st x))) ∙ and-false (not (is_some g))

follows : (g : Option Line) (rate : ℕ) (st : List (ℕ × Act)) (ms : List Said) (t : Sofar) → after (known g rate st) ms ≡ Ok t → Follows g rate st ms t
follows g rate st [] t e =
    let same = same_ok (known g rate st) t e in
    record {
      ruled = tt;
      line_set = sym (ap (λ (s : Sofar). unwrap_or s.given (board fresh_board)) same) ∙ from_none g;
      steps = sym (ap (λ (s : Sofar). s.steps) same) ∙ sym (append-nil st);
    }
follows g rate st (source hz ∷ ms) t e =
    let h : Follows g hz st ms t = follows g hz st ms t e in
    record { ruled = h.ruled; line_set = h.line_set ∙ from_source g hz ms; steps = h.steps }
follows g rate st (call a ∷ ms) t e =
    let h : Follows g rate (st ++ (rate, a) ∷ []) ms t = follows g rate (st ++ (rate, a) ∷ []) ms t e in
    record {
      ruled = subst (λ (b : Bool). Ruled b ms) (closed g st (rate, a)) h.ruled;
      line_set = h.line_set ∙ from_call g a ms;
      steps = h.steps ∙ append_assoc st ((rate, a) ∷ []) (timed rate ms);
    }
follows (Some x) rate st (line l ∷ ms) t e = absurd (cc)
follows None rate st (line l ∷ ms) t e = by (ltb 0 (length st)) refl (follows (Some l) rate st ms t) e
  where
    by : (b : Bool) → ltb 0 (length st) ≡ b → (after (known (Some l) rate st) ms ≡ Ok t → Follows (Some l) rate st ms t) → read_then (cond b (Err LineBeforeCalls) (Ok (known (Some l) rate st))) (λ u. after u ms) ≡ Ok t → Follows None rate st (line l ∷ ms) t
    by true p f e = absurd (cc)
    by false p f e = let h = f e in record { ruled = (ap not p, h.ruled); line_set = h.line_set; steps = h.steps }

pub tells : (text : List ℕ) (x : Line × List (ℕ × Act)) → scenario text ≡ Ok x → Tells text x
tells text x = by (lines_from 1 start (lines text)) refl where
  by : (r : Result Sofar (ℕ × Expected)) → lines_from 1 start (lines text) ≡ r → finished r ≡ Ok x → Tells text x
  by (Err f) p e = absurd (cc)
  by (Ok t) p e =
      let h = heard 1 start (lines text) t p in
      let f = follows None 80000000 [] h.0 t h.2 in
      let same = same_ok _ x e in
      record {
        said = h.0;
        lines_say = h.1;
        ruled = f.ruled;
        line_set = sym (ap (λ (y : Line × List (ℕ × Act)). y.0) same) ∙ f.line_set;
        steps = sym (ap (λ (y : Line × List (ℕ × Act)). y.1) same) ∙ f.steps;
      }

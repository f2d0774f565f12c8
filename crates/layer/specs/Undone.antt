-- Each change undoes itself, at every number, and takes bytes to bytes. Cited where a change says what it means.
use Rattle.std.specs.Prelude.{◌≡◌, ℕ, ◌-◌, ◌<◌, ◌≤◌, Bool, cond}
use Rattle.std.proofs.Common.{sym, ap, subst, ◌∙◌, ⊎_elim}
use Rattle.std.proofs.Math.Nat.{add-sub_cancel, add-sub_of_le, le-pred_of_lt, sub-one-sub-lt_of_lt}
use Rattle.std.proofs.lemmas.Bool.{cases_lt, le-ltb, lt-ltb}
use Rattle.mirror.proofs.Bits.{mirror_mirrors, mirror_twice}
use Rattle.layer.specs.Kinds.{Kind, change, invert, inverter, mirror}

pub invert_byte : (x : ℕ) → x < 256 → invert x ≡ 255 - x
unfolding invert
invert_byte x h = ap (λ (b : Bool). cond b (255 - x) x) (lt-ltb x 256 h)

pub no_inverse : (x : ℕ) → 256 ≤ x → invert x ≡ x
unfolding invert
no_inverse x h = ap (λ (b : Bool). cond b (255 - x) x) (le-ltb x 256 h)

inverse_is_byte : (x : ℕ) → x < 256 → 255 - x < 256
inverse_is_byte x h = sub-one-sub-lt_of_lt h

inverse_twice : (x : ℕ) → x < 256 → 255 - (255 - x) ≡ x
inverse_twice x h =
    ap (λ (n : ℕ). n - (255 - x)) (sym (add-sub_of_le (le-pred_of_lt h))) ∙ add-sub_cancel x (255 - x)

pub change_byte : (k : Kind) (x : ℕ) → x < 256 → change k x < 256
change_byte mirror x h = (mirror_mirrors x h).byte
change_byte inverter x h =
    subst (λ (y : ℕ). y < 256) (sym (invert_byte x h)) (inverse_is_byte x h)

pub invert_twice : (x : ℕ) → invert (invert x) ≡ x
invert_twice x =
    ⊎_elim (λ lt. ap invert (invert_byte x lt) ∙ invert_byte (255 - x) (inverse_is_byte x lt) ∙ inverse_twice x lt)
    (λ le. ap invert (no_inverse x le) ∙ no_inverse x le)
    (cases_lt x 256)

pub change_twice : (k : Kind) (x : ℕ) → change k (change k x) ≡ x
change_twice mirror x = mirror_twice x
change_twice inverter x = invert_twice x

use Rattle.std.proofs.Common.{◌≡◌, ◌^◌, ◌<◌, drop}
use Rattle.digits.specs.Digits.{value_after}
use Rattle.digits.proofs.digits.read_digits.Given as goal

abbrev pub invariant-loop-b : goal.invariant-loop-b
invariant-loop-b l = (l.value < 2 ^ 32) × (value_after l.base l.value (drop l.b-index l.digits) ≡ value_after l.base 0 l.digits)

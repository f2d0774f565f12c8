-- A script goes by its bytes and its place, wherever these stand.
use Rattle.std.proofs.Common.{◌≡◌, ℕ, List, drop}
use Rattle.wire.specs.declared.event.Event.{Event}
use Rattle.wire.specs.Answers.{Ran}
use Rattle.wire.specs.Machine.{run}
use Rattle.lines.specs.Script.{script}

pub same_run : {xs ys zs rs : List ℕ} {a b i j : ℕ} {es : List Event} → ys ≡ xs → zs ≡ xs → a ≡ i → b ≡ j → Ran (run script (drop a ys)) es rs (run script (drop b zs)) → Ran (run script (drop i xs)) es rs (run script (drop j xs))
same_run e f g h ran = rw (e, f, g, h) at ran

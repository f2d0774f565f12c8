-- What a summary reads as.
use Rattle.std.specs.Prelude.{ℕ, List, ◌++◌, codes, decimal}
use Rattle.bench.specs.declared.totals.Totals.{Totals}

abbrev pub totals_text : Totals → List ℕ
totals_text t = codes "calls " ++ (decimal t.calls ++ (codes " accepted " ++ (decimal t.accepted ++ (codes " refused " ++ (decimal t.refused ++ (codes " events " ++ decimal t.events))))))

-- `name_starts` meets its contract: up to the place that is reached the name has the text's bytes, so the rest decides.
use mathlib.Core.Path.{◌≡◌}
use lib.ListN.{drop}
use Rattle.names.specs.Text.{starts}
use Rattle.names.specs.Name.{name_from}
use Rattle.names_spelling.proofs.name_starts.Given as goal

abbrev pub invariant-loop-b : goal.invariant-loop-b
invariant-loop-b l = starts l.text (name_from l.names l.at) ≡ starts (drop l.b-index l.text) (name_from l.names l.i)

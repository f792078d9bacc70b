-- `name_end` meets its contract: a scan from the place that is reached ends where the whole scan does.
use Prim.Native.Nat.{◌+◌, ◌≤◌, max}
use mathlib.Core.Path.{◌≡◌}
use lib.ListN.{length}
use Rattle.names.specs.Name.{name_from}
use Rattle.names_spelling.proofs.name_end.Given as goal

abbrev pub invariant-loop-i : goal.invariant-loop-i
invariant-loop-i l = (l.i ≤ max l.at (length l.names)) × (l.at + length (name_from l.names l.at) ≡ l.i + length (name_from l.names l.i))

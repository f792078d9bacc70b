-- What is put stays inside the names, which keep their length.
use Prim.Native.Nat.{◌≤◌}
use mathlib.Core.Path.{◌≡◌}
use lib.ListN.{length}
use Rattle.try_check.proofs.make_names.Given as goal

abbrev pub invariant-loop-i : goal.invariant-loop-i
invariant-loop-i l = (l.put ≤ length l.names) × (length l.names ≡ length l.initial.names)

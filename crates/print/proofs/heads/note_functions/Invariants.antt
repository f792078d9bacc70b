-- `note_functions` meets its contract: the entries passed are noted.
use Prim.Native.Nat.{◌≤◌}
use mathlib.Core.Path.{◌≡◌}
use lib.ListN.{length}
use Rattle.print.specs.Heads.{Noted}
use Rattle.print.proofs.heads.note_functions.Given as goal

abbrev pub invariant-loop-i : goal.invariant-loop-i
invariant-loop-i l = (length l.index ≡ length l.initial.index) × ((l.i ≤ length l.kinds) × Noted l.kinds l.words l.i l.index)

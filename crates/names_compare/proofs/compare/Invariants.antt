-- `compare` meets its contract: up to the place that is reached the words are equal, with a step for each, and byte pairs tell the rest.
use Prim.Native.Nat.{◌-◌, ◌≤◌}
use Rattle.names.specs.Compare.{order, steps}
use Rattle.names_compare.proofs.Steps.{Words}
use Rattle.names_compare.proofs.compare.Given as goal

abbrev pub invariant-loop-i : goal.invariant-loop-i
invariant-loop-i l = (l.i ≤ l.n) × (l.words ≤ l.i) × Words l.a l.b (order l.a l.b) (steps l.a l.b) l.n l.i l.words

abbrev pub decreases-loop-i : goal.decreases-loop-i
decreases-loop-i l = l.n - l.i

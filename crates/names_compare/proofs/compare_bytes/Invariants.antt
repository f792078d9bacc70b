-- `compare_bytes` meets its contract: up to the place that is reached the bytes are equal, with a step for each pair.
use Prim.Native.Nat.{◌+◌, ◌≤◌}
use lib.ListN.{drop}
use Rattle.names.specs.Compare.{order, byte_steps}
use Rattle.names_compare.proofs.Steps.{Bytes}
use Rattle.names_compare.proofs.compare_bytes.Given as goal

abbrev pub invariant-loop-i : goal.invariant-loop-i
invariant-loop-i l =
    (l.steps ≤ l.i) × Bytes l.a l.b (order (drop l.at l.a) (drop l.at l.b)) (l.words + byte_steps (drop l.at l.a) (drop l.at l.b)) l.i l.steps

-- `layout_table::table::probe` meets its contract.
use Prim.Native.Nat.{◌≤◌, ◌^◌}
use Rattle.layout_table.proofs.table.probe.Given as goal

abbrev pub invariant-loop : goal.invariant-loop
invariant-loop l = l.slot ≤ 2 ^ 32

-- `layout_table::table::free_slot` meets its contract.
use Prim.Native.Nat.{◌≤◌, ◌^◌}
use Rattle.layout_table.proofs.table.free_slot.Given as goal

abbrev pub invariant-loop : goal.invariant-loop
invariant-loop l = l.slot ≤ 2 ^ 32

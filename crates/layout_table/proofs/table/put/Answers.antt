-- `layout_table::table::put` meets its contract.
use mathlib.Core.Path.{refl}
use mathlib.Core.Logic.{inl}
use native.Mathlib.Omega.{arith}
use Rattle.layout_table.specs.Table as laws
use borrow.Author.Rules.{rules}
use Rattle.layout_table.proofs.table.put.Goals as goal

pub returns-then-facts-lt-LEAST_FACTS : goal.returns-then-facts-lt-LEAST_FACTS
returns-then-facts-lt-LEAST_FACTS c = inl refl

pub free_slot-slot-requires : goal.free_slot-slot-requires
free_slot-slot-requires c = laws.room_few _ _ _ c.room_for-facts.ensures (omega arith)

pub store-requires : goal.store-requires
store-requires c =
    let few = laws.room_few _ _ _ c.room_for-facts.ensures (omega arith) in search rules

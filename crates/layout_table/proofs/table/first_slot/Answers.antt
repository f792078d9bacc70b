-- `layout_table::table::first_slot` meets its contract.
use Rattle.layout_table.specs.Table as laws
use borrow.Author.Rules.{rules}
use Rattle.layout_table.proofs.table.first_slot.Goals as goal

pub overflow_mul-result : goal.overflow_mul-result
overflow_mul-result c = record { fits = laws.slot_product _ _ (search rules) c.requires }

pub returns : goal.returns
returns c = laws.slot_small _ _ (search rules) c.requires

-- `layout_table::table::table_at` meets its contract.
use Rattle.layout_table.specs.Table as laws
use Rattle.layout_table.proofs.table.table_at.Goals as goal

pub returns-then-i-m : goal.returns-then-i-m
returns-then-i-m c = laws.table_name _ _ c.if-i-m.true

pub returns : goal.returns
returns c = laws.table_behind _ _ c.if-i-m.false

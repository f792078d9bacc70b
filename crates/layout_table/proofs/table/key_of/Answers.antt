-- `layout_table::table::key_of` meets its contract.
use Rattle.layout_table.specs.Table as laws
use Rattle.layout_table.proofs.table.key_of.Goals as goal

pub returns-then-packed : goal.returns-then-packed
returns-then-packed c = laws.key_packed _ _ c.requires.0 c.requires.1 _ c.if-packed.true

pub returns : goal.returns
returns c = laws.key_free _ _ c.requires.0 c.requires.1 _ c.if-packed.false

-- `layout_table::table::note` meets its contract.
use Rattle.layout_table.specs.Table as laws
use Rattle.layout_table.proofs.table.note.Goals as goal

pub returns : goal.returns
returns c =
    laws.field_stored _ c.requires c.key_of-key.ensures c.value_of.ensures c.put.ensures

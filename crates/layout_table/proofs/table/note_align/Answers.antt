-- `layout_table::table::note_align` meets its contract.
use Rattle.layout_table.specs.Table as laws
use Rattle.layout_table.proofs.table.note_align.Goals as goal

pub align_key-requires : goal.align_key-requires
align_key-requires c = laws.type_place c.requires.ask

pub returns : goal.returns
returns c =
    laws.align_stored _ c.align_key.ensures c.requires c.put.ensures

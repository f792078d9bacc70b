-- `layout_table::note_fields` meets its contract: the level falls.
use Rattle.layout_table.proofs.+note_fields.Given as goal

abbrev pub decreases-note_fields : goal.decreases-note_fields
decreases-note_fields l = l.level

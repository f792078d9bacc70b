-- `gen_edge::note` meets its contract.
use Rattle.std.proofs.Common.{◌∙◌}
use Rattle.gen_edge.specs.Copies.{slot_some}
use Rattle.gen_edge.proofs.note.Goals as goal

-- src/lib.rt:46:1
pub returns : goal.returns
returns c = c.need.ensures ∙ rw (c.need-slotted.ensures, c.is_some.ensures ∙ slot_some _ _ c.slot.ensures)

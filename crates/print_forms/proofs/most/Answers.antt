-- `most` meets its contract, one choice after the other.
use mathlib.Core.Path.{◌∙◌}
use Rattle.print_forms.specs.Forms.{most_of}
use Rattle.print_forms.proofs.most.Goals as goal

pub returns : goal.returns
unfolding most_of
returns c = c.pick-2.ensures ∙ rw (c.pick.ensures, c.pick-slot.ensures)

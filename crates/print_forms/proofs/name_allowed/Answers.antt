-- `name_allowed` meets its contract: its tests are those of the form.
use Rattle.print_forms.specs.Kinds.{name_test}
use Rattle.print_forms.proofs.name_allowed.Goals as goal

pub returns : goal.returns
returns c =
    λ function. rw (c.pick-2.ensures, c.pick.ensures, c.pick-name.ensures) (name_test _ _ function _ _ _ c.requires.le_kind c.requires.kind_bound)

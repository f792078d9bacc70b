-- `number_allowed` meets its contract: its tests are those of the form.
use Rattle.print_forms.specs.Kinds.{number_test}
use borrow.Author.Rules.{rules}
use Rattle.print_forms.proofs.number_allowed.Goals as goal

pub returns : goal.returns
returns c =
    λ names function from to. rw c.most.ensures (number_test _ names function from to (search rules) _ c.requires)

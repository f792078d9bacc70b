-- `is_label` meets its contract by its tests.
use mathlib.Core.Path.{refl}
use Rattle.print_words.specs.Ends.{is_label}
use Rattle.print_words.proofs.is_label.Goals as goal

pub returns : goal.returns
unfolding is_label
returns c = refl

-- The program's own slices, as `shown` has them.
use mathlib.Core.Path.{refl}
use borrow.Author.Rules.{rules}
use Rattle.lines.specs.Shown.{zeros}
use Rattle.lines.proofs.Showing.{room_for, own_shown}
use Rattle.lines.proofs.show.Goals as goal

pub show_input-requires : goal.show_input-requires
show_input-requires c = record { in_bounds = search rules; in_bounds_2 = search rules; in_bounds_3 = room_for _ _ c.requires.text_value (search rules) }

pub returns : goal.returns
unfolding zeros
returns c =
    own_shown c.args.input.now c.args.n _ _ _ _ _ refl refl c.requires.text_value c.show_input.ensures

-- The slices have the lengths that `show` wants.
use borrow.Author.Rules.{rules}
use Rattle.lines.proofs.main.Goals as goal

pub show-count-requires : goal.show-count-requires
show-count-requires c = record { n_in_bounds = (search rules, search rules); text_value = c.room_for_text-text.ensures }

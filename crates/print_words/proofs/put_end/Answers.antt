-- `put_end` meets its contract by its test.
use Rattle.print_words.specs.Ends.{ending}
use Rattle.print_pen.specs.Pen.{put_same}
use Rattle.print_words.proofs.put_end.Goals as goal

pub returns : goal.returns
unfolding ending
returns c = put_same (rw c.is_label.ensures) c.put_either.ensures

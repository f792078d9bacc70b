-- `put_block` meets its contract, one part after the other.
use Rattle.names.specs.Text.{bytes}
use Rattle.print_pen.specs.Pen.{then_put}
use Rattle.print_words.proofs.put_block.Goals as goal

pub returns : goal.returns
unfolding bytes
returns c =
    then_put c.put_clean-first.ensures (then_put c.put_bytes-between.ensures c.put_clean.ensures)

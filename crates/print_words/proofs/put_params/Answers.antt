-- `put_params` meets its contract, one part after the other.
use Rattle.names.specs.Text.{bytes}
use Rattle.print_pen.specs.Pen.{then_put}
use Rattle.print_words.specs.Ends.{params_text}
use Rattle.print_words.specs.Words.{ended}
use Rattle.print_words.proofs.put_params.Goals as goal

pub returns : goal.returns
unfolding bytes params_text ended
returns c =
    then_put c.put_bytes-open.ensures (then_put c.put_number-number.ensures c.put_bytes.ensures)

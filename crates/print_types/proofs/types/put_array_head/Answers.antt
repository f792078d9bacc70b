-- `put_array_head` meets its contract, one part after the other.
use Rattle.names.specs.Text.{bytes}
use Rattle.print_pen.specs.Pen.{then_put}
use Rattle.print_types.specs.Types.{array_head, opened}
use Rattle.print_types.proofs.types.put_array_head.Goals as goal

pub returns : goal.returns
unfolding array_head opened bytes
returns c =
    then_put c.put_either-open.ensures (then_put c.put_number-number.ensures c.put_bytes.ensures)

-- `put_int` meets its contract, one part after the other.
use Rattle.names.specs.Text.{bytes}
use Rattle.print_pen.specs.Pen.{then_put}
use Rattle.print_types.proofs.types.put_int.Goals as goal

pub returns : goal.returns
unfolding bytes
returns c = then_put c.put_bytes-sign.ensures c.put_number.ensures

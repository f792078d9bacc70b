-- `put_comment` meets its contract, one part after the other.
use Rattle.names.specs.Text.{bytes}
use Rattle.print_pen.specs.Pen.{then_put}
use Rattle.print_lines.specs.Lines.{comment}
use Rattle.print_lines.proofs.put_comment.Goals as goal

pub returns : goal.returns
unfolding bytes comment
returns c =
    then_put c.put_bytes-sign.ensures
    (then_put c.put_type-ty.ensures
    (then_put c.put_bytes-at.ensures
    (then_put c.put_bytes-name.ensures c.put_params.ensures)))

-- `put_parts` meets its contract, one part after the other.
use mathlib.Core.Path.{ap}
use Rattle.print_pen.specs.Pen.{put_same, then_put}
use Rattle.names.specs.Name.{lines}
use Rattle.print_lines.specs.Lines.{operand_text, parts_text}
use Rattle.print_lines.proofs.put_parts.Goals as goal

pub returns : goal.returns
unfolding parts_text
returns c =
    then_put c.put_word-word.ensures
    (then_put
    (put_same
    (ap (λ f. operand_text (lines c.args.names.now) c.args.function.now f c.args.x)
    c.form_of.ensures) c.put_operand-operand.ensures) c.put_end.ensures)

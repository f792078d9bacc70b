-- `gen_term::switch::case_test` meets its contract.
use Rattle.std.proofs.Common.{◌∙◌}
use Rattle.gen_term.specs.Switches as laws
use Rattle.gen_term.proofs.switch.case_test.Goals as goal

pub shape_of-lines : goal.shape_of-lines
shape_of-lines c =
    c.put.auto.lines ∙ c.put-tested.auto.lines ∙ c.push_int-both.auto.lines ∙ c.push_value-pushed.auto.lines

pub shape_of-operands : goal.shape_of-operands
shape_of-operands c =
    c.put.auto.operands ∙ c.put-tested.auto.operands ∙ c.push_int-both.auto.operands ∙ c.push_value-pushed.auto.operands

pub returns : goal.returns
returns c = λ m k v l case more value maps label number.
    laws.test_puts k c.args.width v l case more label number c.icmp_line.ensures (c.push_value-pushed.ensures m k v value maps) c.push_int-both.ensures
    c.put-tested.ensures c.put.ensures

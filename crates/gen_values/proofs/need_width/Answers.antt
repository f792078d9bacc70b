-- `gen_values::need_width` meets its contract.
use Rattle.lowering.specs.Operand.{int_width}
use Rattle.gen_values.specs.Present.{says_width, says_none}
use Rattle.gen_values.proofs.need_width.Goals as goal

pub returns-in-Some : goal.returns-in-Some
returns-in-Some c = λ ty says. says_width (int_width ty) c.args.s c.in-Some.ensures.0 c.in-Some.ensures.1 says

pub returns-in-None : goal.returns-in-None
returns-in-None c = λ ty says. says_none (int_width ty) c.args.s c.in-None.ensures says c.refuse.ensures

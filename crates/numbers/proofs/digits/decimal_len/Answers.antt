-- `decimal_len` meets its contract by the powers of ten that n lies between.
use Rattle.std.proofs.Common.{sym, ◌∙◌, add-one, arith}
use Rattle.numbers.specs.Digits.{length_small, length_two, length_between}
use Rattle.numbers.proofs.digits.decimal_len.Goals as goal

pub returns-in-0-to-9 : goal.returns-in-0-to-9
returns-in-0-to-9 c = sym (length_small _ (omega arith))

pub returns-in-10-to-99 : goal.returns-in-10-to-99
returns-in-10-to-99 c = sym (length_two _ (omega arith) (omega arith))

pub returns-in_default : goal.returns-in_default
returns-in_default c = let p = c.ilog10.ensures in add-one _ ∙ sym (length_between c.ilog10.result c.args.n p.power_le p.next_power_gt)

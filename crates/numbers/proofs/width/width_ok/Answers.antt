-- `width_ok` meets its contract: the arm's numbers are the widths, and no other number is one. Assumes nothing.
use Rattle.std.proofs.Common.{sym}
use Rattle.numbers.specs.Tests.{fails}
use Rattle.numbers.specs.Width.{width_ok, width_is, width_cases}
use Rattle.numbers.proofs.width.width_ok.Goals as goal

pub returns-in-1 : goal.returns-in-1
returns-in-1 c = sym (width_is c.args.w c.in-1.is)

pub returns-in_default : goal.returns-in_default
returns-in_default c = fails (width_ok c.args.w) (λ e. c.in_default.in_default-own.rest.1 (width_cases c.args.w e))

-- `exports::mivolanjy_print` meets its contract: the printer's answer, in numbers.
use Rattle.exports.specs.Printed.{accepted_is, refused_is}
use Rattle.exports.proofs.mivolanjy_print.Goals as goal

pub returns-in-Ok : goal.returns-in-Ok
returns-in-Ok c = accepted_is _ _ _ c.print.ensures.print_answer _ c.in-Ok.is

pub returns-in-Err : goal.returns-in-Err
returns-in-Err c = rw c.number.ensures (refused_is _ _ _ c.print.ensures.print_answer _ c.in-Err.is)

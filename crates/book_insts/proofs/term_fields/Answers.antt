-- `book_insts::term_fields` meets its contract: the fields are those of the group.
use mathlib.Core.Path.{sym, ap}
use Rattle.book_insts.specs.Insts.{term_shape}
use Rattle.book_insts.proofs.term_fields.Goals as goal

pub returns-in-Ret : goal.returns-in-Ret
returns-in-Ret c = ap term_shape (sym c.in-Ret.is)

pub returns-in-Br : goal.returns-in-Br
returns-in-Br c = ap term_shape (sym c.in-Br.is)

pub returns-in-Switch : goal.returns-in-Switch
returns-in-Switch c = ap term_shape (sym c.in-Switch.is)

pub returns-in-Unreachable : goal.returns-in-Unreachable
returns-in-Unreachable c = ap term_shape (sym c.in-Unreachable.is)

pub returns-in-Other : goal.returns-in-Other
returns-in-Other c = ap term_shape (sym c.in-Other.is)

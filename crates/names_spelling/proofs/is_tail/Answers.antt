-- `is_tail` meets its contract: the range is the definition's.
use native.Mathlib.Omega.{arith}
use borrow.Author.Tests.{le-leb, lt-leb}
use Rattle.names.specs.Text.{within}
use Rattle.names.specs.Utf8.{to, tail, has, is_tail}
use Rattle.names_spelling.proofs.is_tail.Goals as goal

pub returns-in-128-to-191 : goal.returns-in-128-to-191
unfolding is_tail has tail to within
returns-in-128-to-191 c = rw (le-leb 128 c.args.b (omega arith), le-leb c.args.b 191 (omega arith))

pub returns-in_default : goal.returns-in_default
unfolding is_tail has tail to within
returns-in_default c = rw (lt-leb 128 c.args.b (omega arith))

pub returns-in_default-2 : goal.returns-in_default-2
unfolding is_tail has tail to within
returns-in_default-2 c = rw (le-leb 128 c.args.b (omega arith), lt-leb c.args.b 191 (omega arith))

-- `book_types::shorter` meets its contract: there are as many entries as the shorter slice has.
use native.Mathlib.Omega.{arith}
use Rattle.book_types.specs.Laws.{length_entries}
use Rattle.book_types.proofs.shorter.Goals as goal

pub returns : goal.returns
returns c = omega (arith, length_entries c.args.kinds.now c.args.words.now)

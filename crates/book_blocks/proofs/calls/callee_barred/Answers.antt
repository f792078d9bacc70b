-- `book_blocks::calls::callee_barred` meets its contract: the tests are the definition's.
use mathlib.Core.Path.{◌∙◌, sym}
use borrow.Author.Tests.{eq-eqb, ne_eqb}
use Rattle.book_blocks.proofs.calls.callee_barred.Goals as goal

pub returns-then-kind-eq-GLOBAL : goal.returns-then-kind-eq-GLOBAL
returns-then-kind-eq-GLOBAL c = c.bit.ensures ∙ sym (rw (c.in-Some.is, eq-eqb _ _ c.if-kind-eq-GLOBAL.true))

pub returns-else-kind-eq-GLOBAL : goal.returns-else-kind-eq-GLOBAL
returns-else-kind-eq-GLOBAL c = sym (rw (c.in-Some.is, ne_eqb _ _ c.if-kind-eq-GLOBAL.false))

-- `spelled_len` meets its contract by its test.
use mathlib.Core.Path.{◌∙◌}
use borrow.Author.Tests.{eq-eqb, ne_eqb}
use Rattle.print_lines.specs.Named.{spelled}
use Rattle.print_lines.proofs.weigh.spelled_len.Goals as goal

pub returns-then-kind-eq-SYSCALL : goal.returns-then-kind-eq-SYSCALL
unfolding spelled
returns-then-kind-eq-SYSCALL c = rw (eq-eqb _ 6 c.if-kind-eq-SYSCALL.true)

pub returns : goal.returns
unfolding spelled
returns c = c.clean_len.ensures ∙ rw (ne_eqb _ 6 c.if-kind-eq-SYSCALL.false)

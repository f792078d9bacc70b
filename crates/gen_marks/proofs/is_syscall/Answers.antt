-- `gen_marks::is_syscall` meets its contract: a name with another first byte does not start so.
use mathlib.Core.Path.{sym, ◌∙◌}
use borrow.Author.Tests.{ne_eqb}
use Rattle.names.specs.Text.{bytes}
use Rattle.names.specs.Spelling.{is_syscall}
use Rattle.gen_marks.proofs.Scan.{starts_other}
use Rattle.gen_marks.proofs.is_syscall.Goals as goal

pub returns-then-names-at-eq95 : goal.returns-then-names-at-eq95
unfolding is_syscall bytes
returns-then-names-at-eq95 c = c.name_starts.ensures

pub returns-else-names-at-eq95 : goal.returns-else-names-at-eq95
unfolding is_syscall bytes
returns-else-names-at-eq95 c =
    ne_eqb _ 95 c.if-names-at-eq95.false ∙ sym (starts_other c.args.names.now c.args.at 95 _ c.requires c.if-names-at-eq95.false)

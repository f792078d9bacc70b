-- `gen_marks::spelled` meets its contract.
use mathlib.Core.Path.{sym, ◌∙◌}
use native.Mathlib.Omega.{arith}
use Rattle.gen_marks.specs.Mark.{spelled}
use Rattle.gen_marks.proofs.spelled.Goals as goal

pub is_syscall-requires : goal.is_syscall-requires
is_syscall-requires c =
    omega (arith, c.requires.ends, c.requires.inside)

pub returns-then-is_syscall : goal.returns-then-is_syscall
unfolding spelled
returns-then-is_syscall c =
    rw (sym c.is_syscall.ensures ∙ c.if-is_syscall.true)

pub returns-then-is_memcmp : goal.returns-then-is_memcmp
unfolding spelled
returns-then-is_memcmp c =
    rw (sym c.is_syscall.ensures ∙ c.if-is_syscall.false, sym c.is_memcmp.ensures ∙ c.if-is_memcmp.true)

pub returns : goal.returns
unfolding spelled
returns c =
    rw (sym c.is_syscall.ensures ∙ c.if-is_syscall.false, sym c.is_memcmp.ensures ∙ c.if-is_memcmp.false)

use mathlib.Core.Path.{sym, ◌∙◌}
use native.Mathlib.Omega.{arith}
use Rattle.gen_marks.proofs.Scan.{look_start, look_here, look_end, look_later, look_other}
use Rattle.gen_marks.proofs.overflows.Goals as goal
use Rattle.gen_marks.proofs.overflows.Goals.{then-names-i-eq46+else-starts_overflow, else-names-i-eq46}

pub overflow_sub-end : goal.overflow_sub-end
overflow_sub-end c = omega (arith, c.requires.ends)

pub returns-then-end-at-lt15 : goal.returns-then-end-at-lt15
returns-then-end-at-lt15 c =
    look_end (look_start c.requires) (omega (arith, c.if-end-at-lt15.true))

pub loop-i-init : goal.loop-i-init
loop-i-init c = look_start c.requires

pub bounds-names-i : goal.bounds-names-i
bounds-names-i c =
    omega (arith, c.loop-i.invariant.left.inside)

pub returns-then-starts_overflow : goal.returns-then-starts_overflow
returns-then-starts_overflow c =
    look_here c.loop-i.invariant (sym c.starts_overflow.ensures ∙ c.if-starts_overflow.true)

pub loop-i-preserved : goal.loop-i-preserved
loop-i-preserved c =
    elim c.if-names-i-eq46.branch [
      | then-names-i-eq46+else-starts_overflow w ↦ look_later c.loop-i.invariant (omega (arith, c.loop-i-test.true)) (sym w.starts_overflow.ensures ∙ w.if-starts_overflow.false)
      | else-names-i-eq46 w ↦ look_other c.loop-i.invariant (omega (arith, c.loop-i-test.true)) w.if-names-i-eq46.false
    ]

pub returns : goal.returns
returns c =
    look_end c.loop-i.invariant (omega (arith, c.loop-i-test.false))

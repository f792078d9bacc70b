use native.Mathlib.Omega.{arith}
use Rattle.print_types.specs.Starts.{noting_start, noting_index, noting_below, noting_note, noting_skip, noting_end}
use Rattle.print_types.proofs.starts.note_eighths.Goals.{else-i-eq0, then-i-eq0}
use Rattle.print_types.proofs.starts.note_eighths.Goals as goal

pub loop-at-init : goal.loop-at-init
loop-at-init c = noting_start _ _ c.requires.names_len_bound

pub bounds-starts-i : goal.bounds-starts-i
bounds-starts-i c =
    noting_index c.requires.sound c.loop-at.invariant _ (omega (arith, c.if-i-eq0.true)) c.loop-at-test.true

pub overflow_add-at : goal.overflow_add-at
overflow_add-at c =
    let b = noting_below c.requires.sound c.loop-at.invariant _ c.loop-at-test.true c.name_end-at.ensures in
    omega arith

pub loop-at-preserved : goal.loop-at-preserved
loop-at-preserved c =
    elim c.if-i-eq0.branch [
      | then-i-eq0 w ↦ rw w.starts-is (noting_note c.requires.sound c.loop-at.invariant _ _ (omega (arith, w.if-i-eq0.true)) c.loop-at-test.true c.name_end-at.ensures)
      | else-i-eq0 w ↦ rw w.starts-is (noting_skip c.requires.sound c.loop-at.invariant _ c.loop-at-test.true c.name_end-at.ensures w.if-i-eq0.false)
    ]

pub returns : goal.returns
returns c = noting_end c.requires.sound c.loop-at.invariant c.loop-at-test.false

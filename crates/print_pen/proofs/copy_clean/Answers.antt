use Rattle.std.proofs.Common.{sym, ◌∙◌}
use Rattle.print_pen.specs.Pen.{clean_room, clean_step, clean_skip, clean_end}
use Rattle.print_pen.proofs.copy_clean.Goals.{else-not-is_tail, then-not-is_tail}
use Rattle.print_pen.proofs.copy_clean.Goals as goal

pub bounds-text-to : goal.bounds-text-to
bounds-text-to c = clean_room c.loop-b.invariant c.loop-b-test.true (sym c.is_tail.ensures ∙ c.if-not-is_tail.true) c.requires

pub loop-b-preserved : goal.loop-b-preserved
loop-b-preserved c =
    let inv = c.loop-b.invariant in
    let inside = c.loop-b-test.true in
    let is = sym c.is_tail.ensures in
    elim c.if-not-is_tail.branch [
      | then-not-is_tail w ↦ rw (w.text-is, w.to-is) (clean_step inv inside (is ∙ w.if-not-is_tail.true) w.clean_byte.ensures)
      | else-not-is_tail w ↦ rw (w.text-is, w.to-is) (clean_skip inv inside (is ∙ w.if-not-is_tail.false))
    ]

pub returns : goal.returns
returns c = clean_end c.loop-b.invariant c.loop-b-test.false

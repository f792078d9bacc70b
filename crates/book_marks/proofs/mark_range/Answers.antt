use mathlib.Core.Path.{refl, sym, ◌∙◌}
use Rattle.numbers.specs.Bits.{length_set_bit}
use Rattle.book_marks.specs.Range.{range_none, range_past, range_next}
use Rattle.book_marks.proofs.mark_range.Goals as goal

pub loop-x-init : goal.loop-x-init
loop-x-init c = (refl, refl)

pub shape_of-map-then-map-x : goal.shape_of-map-then-map-x
shape_of-map-then-map-x c = c.loop-x.invariant.0

pub returns-then-map-x : goal.returns-then-map-x
returns-then-map-x c = sym (c.loop-x.invariant.1 ∙ range_past _ _ _ c.if-map-x.true)

pub loop-x-preserved : goal.loop-x-preserved
loop-x-preserved c =
    let i = c.loop-x.invariant in
    rw c.set_bit.ensures (length_set_bit _ _ ∙ i.0, i.1 ∙ range_next _ _ _ c.loop-x-test.true)

pub shape_of-map : goal.shape_of-map
shape_of-map c = c.loop-x.invariant.0

pub returns : goal.returns
returns c = sym (c.loop-x.invariant.1 ∙ range_none _ _ _ c.loop-x-test.false)

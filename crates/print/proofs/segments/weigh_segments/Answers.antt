use mathlib.Core.Path.{ap, ◌∙◌}
use borrow.Author.Rules.{rules}
use native.Mathlib.Omega.{arith}
use lib.ListN.{length}
use Rattle.print.specs.Segments.{Segment, weighing_start, weighing_next, weighing_short, weighing_barred, weighing_end, weighing_over, segment_behind, segment_inside}
use Rattle.print.proofs.segments.weigh_segments.Goals.{After-segment_end-j}
use Rattle.print.proofs.segments.weigh_segments.Goals as goal

-- the lines from here on up to the end that was found
segment : (c : After-segment_end-j) → Segment c.loop-i.own c.args.line_kinds.now c.args.operands.now c.loop-i.i c.pick-own.result c.segment_end-j.result
segment c = record {
  kinds = c.loop-i-test.true;
  words = omega (arith, c.loop-i-test.true, c.requires.line_kinds_len);
  name = c.pick-own.ensures;
  end = c.segment_end-j.ensures;
}

pub loop-i-init : goal.loop-i-init
loop-i-init c = weighing_start _ _ _ _ _ _ _ _ c.args.text.now

pub segment_end-j-requires : goal.segment_end-j-requires
segment_end-j-requires c =
    record {
      line_kinds_len = c.requires.line_kinds_len;
      start_in_bounds = omega (arith, c.loop-i-test.true);
    }

pub offset_bounds-line_kinds-i-in-loop-i : goal.offset_bounds-line_kinds-i-in-loop-i
offset_bounds-line_kinds-i-in-loop-i c =
    omega (arith, c.loop-i-test.true, c.requires.line_kinds_len, c.well_formed)

pub slice_bounds-weigh_under-count : goal.slice_bounds-weigh_under-count
slice_bounds-weigh_under-count c =
    let here = segment (goal.at.slice_bounds-weigh_under-count c).After-segment_end-j in
    omega (arith, segment_behind here)

pub slice_bounds-weigh_under-start : goal.slice_bounds-weigh_under-start
slice_bounds-weigh_under-start c =
    let here = segment (goal.at.slice_bounds-weigh_under-start c).After-segment_end-j in
    omega (arith, segment_behind here)

pub slice_bounds-weigh_under-end : goal.slice_bounds-weigh_under-end
slice_bounds-weigh_under-end c =
    let here = segment (goal.at.slice_bounds-weigh_under-end c).After-segment_end-j in
    segment_inside here

pub offset_bounds-operands-i-in-loop-i : goal.offset_bounds-operands-i-in-loop-i
offset_bounds-operands-i-in-loop-i c =
    omega (arith, c.loop-i-test.true, c.requires.line_kinds_len, c.well_formed)

pub slice_bounds-weigh_under-count-in-loop-i : goal.slice_bounds-weigh_under-count-in-loop-i
slice_bounds-weigh_under-count-in-loop-i c =
    let here = segment (goal.at.slice_bounds-weigh_under-count-in-loop-i c).After-segment_end-j in
    omega (arith, segment_behind here)

pub slice_bounds-weigh_under-start-in-loop-i : goal.slice_bounds-weigh_under-start-in-loop-i
slice_bounds-weigh_under-start-in-loop-i c =
    let here = segment (goal.at.slice_bounds-weigh_under-start-in-loop-i c).After-segment_end-j in
    omega (arith, segment_behind here)

pub slice_bounds-weigh_under-end-in-loop-i : goal.slice_bounds-weigh_under-end-in-loop-i
slice_bounds-weigh_under-end-in-loop-i c =
    let here = segment (goal.at.slice_bounds-weigh_under-end-in-loop-i c).After-segment_end-j in
    omega (arith, segment_inside here, c.requires.line_kinds_len)

pub weigh_under-requires : goal.weigh_under-requires
weigh_under-requires c =
    let inv = c.loop-i.invariant in
    record {
      places_value = c.requires.places_value;
      starts = c.requires.starts;
      named = c.requires.named;
      indexed = c.requires.indexed;
      before_in_bounds = omega (arith, inv.inside, ap length inv.text);
    }

pub shape_of-text-in-Err : goal.shape_of-text-in-Err
shape_of-text-in-Err c =
    ap length (c.weigh_under.ensures.text ∙ c.loop-i.invariant.text)

pub returns-in-Err : goal.returns-in-Err
returns-in-Err c =
    let here = segment (goal.at.returns-in-Err c).After-segment_end-j in
    weighing_barred c.loop-i.invariant here c.weigh_under.ensures _ c.in-Err.is (search rules)

pub loop-i-smaller-in-Ok : goal.loop-i-smaller-in-Ok
loop-i-smaller-in-Ok c =
    let here = segment (goal.at.loop-i-smaller-in-Ok c).After-segment_end-j in
    omega (arith, segment_behind here, c.loop-i-test.true)

pub loop-i-preserved-in-Ok : goal.loop-i-preserved-in-Ok
loop-i-preserved-in-Ok c =
    let here = segment (goal.at.loop-i-preserved-in-Ok c).After-segment_end-j in
    weighing_next c.loop-i.invariant here c.weigh_under.ensures _ c.in-Ok.is

pub shape_of-text-then-short : goal.shape_of-text-then-short
shape_of-text-then-short c = ap length c.loop-i.invariant.text

pub returns-then-short : goal.returns-then-short
returns-then-short c = weighing_over c.loop-i.invariant c.loop-i-test.false c.if-short.true

pub shape_of-text-else-short : goal.shape_of-text-else-short
shape_of-text-else-short c = ap length c.loop-i.invariant.text

pub returns-else-short : goal.returns-else-short
returns-else-short c = weighing_end c.loop-i.invariant c.loop-i-test.false c.if-short.false

pub loop-i-smaller : goal.loop-i-smaller
loop-i-smaller c =
    let here = segment (goal.at.loop-i-smaller c).After-segment_end-j in
    omega (arith, segment_behind here, c.loop-i-test.true)

pub loop-i-preserved : goal.loop-i-preserved
loop-i-preserved c =
    let here = segment (goal.at.loop-i-preserved c).After-segment_end-j in
    weighing_short c.loop-i.invariant here c.weigh_under.ensures (rw c.in-Err-NoRoom.field-0-is at c.in-Err-NoRoom.is)

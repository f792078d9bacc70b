use native.Mathlib.Omega.{arith}
use Rattle.print.specs.Segments.{Segment, writing_start, writing_is, writing_stands, writing_room, writing_next, writing_end, segment_behind, segment_inside}
use Rattle.print.proofs.segments.write_segments.Goals.{After-segment_end-j}
use Rattle.print.proofs.segments.write_segments.Goals as goal

-- the lines from here on up to the end that was found
segment : (c : After-segment_end-j) → Segment c.loop-i.own c.args.line_kinds.now c.args.operands.now c.loop-i.i c.pick-own.result c.segment_end-j.result
segment c = record {
  kinds = c.loop-i-test.true;
  words = omega (arith, c.loop-i-test.true, c.requires.line_kinds_len);
  name = c.pick-own.ensures;
  end = c.segment_end-j.ensures;
}

pub loop-i-init : goal.loop-i-init
loop-i-init c =
    writing_start _ _ _ _ _ _ _ _ _ _ c.requires.operands_value c.requires.end_value

pub segment_end-j-requires : goal.segment_end-j-requires
segment_end-j-requires c =
    record {
      line_kinds_len = c.requires.line_kinds_len;
      start_in_bounds = omega (arith, c.loop-i-test.true);
    }

pub offset_bounds-line_kinds-i-in-loop-i : goal.offset_bounds-line_kinds-i-in-loop-i
offset_bounds-line_kinds-i-in-loop-i c =
    omega (arith, c.loop-i-test.true, c.requires.line_kinds_len, c.well_formed)

pub slice_bounds-write_under-count : goal.slice_bounds-write_under-count
slice_bounds-write_under-count c =
    let here = segment (goal.at.slice_bounds-write_under-count c).After-segment_end-j in
    omega (arith, segment_behind here)

pub slice_bounds-write_under-start : goal.slice_bounds-write_under-start
slice_bounds-write_under-start c =
    let here = segment (goal.at.slice_bounds-write_under-start c).After-segment_end-j in
    omega (arith, segment_behind here)

pub slice_bounds-write_under-end : goal.slice_bounds-write_under-end
slice_bounds-write_under-end c =
    let here = segment (goal.at.slice_bounds-write_under-end c).After-segment_end-j in
    segment_inside here

pub offset_bounds-operands-i-in-loop-i : goal.offset_bounds-operands-i-in-loop-i
offset_bounds-operands-i-in-loop-i c =
    omega (arith, c.loop-i-test.true, c.requires.line_kinds_len, c.well_formed)

pub slice_bounds-write_under-count-in-loop-i : goal.slice_bounds-write_under-count-in-loop-i
slice_bounds-write_under-count-in-loop-i c =
    let here = segment (goal.at.slice_bounds-write_under-count-in-loop-i c).After-segment_end-j in
    omega (arith, segment_behind here)

pub slice_bounds-write_under-start-in-loop-i : goal.slice_bounds-write_under-start-in-loop-i
slice_bounds-write_under-start-in-loop-i c =
    let here = segment (goal.at.slice_bounds-write_under-start-in-loop-i c).After-segment_end-j in
    omega (arith, segment_behind here)

pub slice_bounds-write_under-end-in-loop-i : goal.slice_bounds-write_under-end-in-loop-i
slice_bounds-write_under-end-in-loop-i c =
    let here = segment (goal.at.slice_bounds-write_under-end-in-loop-i c).After-segment_end-j in
    omega (arith, segment_inside here, c.requires.line_kinds_len)

pub write_under-at-requires : goal.write_under-at-requires
write_under-at-requires c =
    let here = segment (goal.at.write_under-at-requires c).After-segment_end-j in
    let inv = c.loop-i.invariant in
    record {
      tables = c.requires.tables;
      starts = c.requires.starts;
      named = c.requires.named;
      indexed = c.requires.indexed;
      own_value = writing_is inv here;
      operands_value = writing_stands inv here;
      operands_bound = writing_room inv here;
      end_in_bounds = omega (arith, c.requires.end_in_bounds, inv.long);
    }

pub loop-i-smaller : goal.loop-i-smaller
loop-i-smaller c =
    let here = segment (goal.at.loop-i-smaller c).After-segment_end-j in
    omega (arith, segment_behind here, c.loop-i-test.true)

pub loop-i-preserved : goal.loop-i-preserved
loop-i-preserved c =
    let here = segment (goal.at.loop-i-preserved c).After-segment_end-j in
    writing_next c.loop-i.invariant here _ _ c.write_under-at.ensures

pub shape_of-text : goal.shape_of-text
shape_of-text c = c.loop-i.invariant.long

pub returns : goal.returns
returns c = writing_end c.loop-i.invariant c.loop-i-test.false

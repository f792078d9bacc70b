use Rattle.std.proofs.Common.{refl, ◌∙◌, arith}
use Rattle.lowering.specs.Term.{case_edges}
use Rattle.gen_term.specs.Switches.{case_in, case_at, case_left, walk_start, walk_more, walk_end, no_edges}
use Rattle.gen_term.proofs.switch.case_edges.Goals as goal

-- src/switch.rt:149:5
pub loop-at-init : goal.loop-at-init
loop-at-init c =
    let a = c.args in (
      λ cs front. record { todo = cs; front = front },
      refl,
      refl,
      λ k l cs maps front e.
          walk_start (case_edges k a.pred) a.names a.kinds.now a.words.now l cs front e a.s a.lines.now a.operands.now,
    )

-- src/switch.rt:149:11
pub offset_bounds-kinds-at : goal.offset_bounds-kinds-at
offset_bounds-kinds-at c =
    let a = c.args in
    let rest = c.loop-at.invariant.0 c.requires.cases c.requires.front in
    let inside = case_in a.names a.kinds.now a.words.now rest in
    omega (arith, inside.0, c.well_formed)

-- src/switch.rt:149:11
pub bounds-kinds-at : goal.bounds-kinds-at
bounds-kinds-at c =
    let a = c.args in
    let rest = c.loop-at.invariant.0 c.requires.cases c.requires.front in
    let inside = case_in a.names a.kinds.now a.words.now rest in
    inside.0

-- src/switch.rt:151:25
pub overflow_add-at : goal.overflow_add-at
overflow_add-at c =
    let a = c.args in
    let rest = c.loop-at.invariant.0 c.requires.cases c.requires.front in
    let inside = case_in a.names a.kinds.now a.words.now rest in
    let case = case_at a.names a.kinds.now a.words.now rest c.loop-at-test.true in
    omega (arith, case.in_words, c.well_formed)

-- src/switch.rt:151:19
pub offset_bounds-words-at : goal.offset_bounds-words-at
offset_bounds-words-at c =
    let a = c.args in
    let rest = c.loop-at.invariant.0 c.requires.cases c.requires.front in
    let inside = case_in a.names a.kinds.now a.words.now rest in
    let case = case_at a.names a.kinds.now a.words.now rest c.loop-at-test.true in
    omega (arith, case.in_words, c.well_formed)

-- src/switch.rt:151:19
pub bounds-words-at : goal.bounds-words-at
bounds-words-at c =
    let a = c.args in
    let rest = c.loop-at.invariant.0 c.requires.cases c.requires.front in
    let inside = case_in a.names a.kinds.now a.words.now rest in
    let case = case_at a.names a.kinds.now a.words.now rest c.loop-at-test.true in
    case.in_words

-- src/switch.rt:150:9
pub case_edge-reached-requires : goal.case_edge-reached-requires
case_edge-reached-requires c =
    let a = c.args in
    let rest = c.loop-at.invariant.0 c.requires.cases c.requires.front in
    let inside = case_in a.names a.kinds.now a.words.now rest in
    let case = case_at a.names a.kinds.now a.words.now rest c.loop-at-test.true in
    record { ctx = c.requires.ctx; maps = c.requires.maps; target = rw case.label case.below }

-- src/switch.rt:154:9
pub overflow_add-at-in-loop-at : goal.overflow_add-at-in-loop-at
overflow_add-at-in-loop-at c =
    let a = c.args in
    let rest = c.loop-at.invariant.0 c.requires.cases c.requires.front in
    let inside = case_in a.names a.kinds.now a.words.now rest in
    let case = case_at a.names a.kinds.now a.words.now rest c.loop-at-test.true in
    omega (arith, case.in_words, c.well_formed)

-- src/switch.rt:149:5
pub loop-at-smaller : goal.loop-at-smaller
loop-at-smaller c =
    let a = c.args in
    let rest = c.loop-at.invariant.0 c.requires.cases c.requires.front in
    let inside = case_in a.names a.kinds.now a.words.now rest in
    omega (arith, inside.0)

-- src/switch.rt:149:5
pub loop-at-preserved : goal.loop-at-preserved
loop-at-preserved c =
    let a = c.args in (
      λ cs front. case_left a.names a.kinds.now a.words.now (c.loop-at.invariant.0 cs front) c.loop-at-test.true,
      c.case_edge-reached.auto.lines ∙ c.loop-at.invariant.1,
      c.case_edge-reached.auto.operands ∙ c.loop-at.invariant.2,
      λ k l cs maps front e.
          walk_more (case_edges k a.pred) a.names a.kinds.now a.words.now l cs (c.loop-at.invariant.3 k l cs maps front e) c.loop-at-test.true
          c.next_label-label.ensures (λ n case more label value target. c.case_edge-reached.ensures k n case more maps label target),
    )

-- src/switch.rt:128:1
pub shape_of-lines : goal.shape_of-lines
shape_of-lines c =
    c.loop-at.invariant.1

-- src/switch.rt:128:1
pub shape_of-operands : goal.shape_of-operands
shape_of-operands c =
    c.loop-at.invariant.2

-- src/switch.rt:128:1
pub returns : goal.returns
returns c = λ k l cs maps front e.
    let a = c.args in
    walk_end (case_edges k a.pred) a.names a.kinds.now a.words.now l cs (c.loop-at.invariant.3 k l cs maps front e) (no_edges k a.pred) c.loop-at-test.false

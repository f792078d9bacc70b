use Rattle.std.proofs.Common.{refl, ◌∙◌, arith}
use Rattle.lowering.specs.Term.{case_tests}
use Rattle.gen_term.specs.Switches.{case_in, case_at, case_left, walk_start, walk_more, walk_end, no_tests}
use Rattle.gen_term.proofs.switch.case_tests.Goals as goal

pub loop-at-init : goal.loop-at-init
loop-at-init c =
    let a = c.args in
    let cks = a.case_kinds.now in
    let cws = a.case_words.now in (
      λ m cs front. record { todo = cs; front = front },
      refl,
      refl,
      λ m k v l cs value maps front e. walk_start (case_tests k a.width v) m cks cws l cs front e a.s a.lines.now a.operands.now,
    )

pub offset_bounds-case_kinds-at : goal.offset_bounds-case_kinds-at
offset_bounds-case_kinds-at c =
    let a = c.args in
    let cks = a.case_kinds.now in
    let cws = a.case_words.now in
    let lent = c.requires.lent in
    let rest = c.loop-at.invariant.0 lent.names lent.cases lent.front in
    let inside = case_in lent.names cks cws rest in
    omega (arith, inside.0, c.well_formed)

pub bounds-case_kinds-at : goal.bounds-case_kinds-at
bounds-case_kinds-at c =
    let a = c.args in
    let cks = a.case_kinds.now in
    let cws = a.case_words.now in
    let lent = c.requires.lent in
    let rest = c.loop-at.invariant.0 lent.names lent.cases lent.front in
    let inside = case_in lent.names cks cws rest in
    inside.0

pub offset_bounds-case_words-at : goal.offset_bounds-case_words-at
offset_bounds-case_words-at c =
    let a = c.args in
    let cks = a.case_kinds.now in
    let cws = a.case_words.now in
    let lent = c.requires.lent in
    let rest = c.loop-at.invariant.0 lent.names lent.cases lent.front in
    let inside = case_in lent.names cks cws rest in
    omega (arith, inside.1, c.well_formed)

pub bounds-case_words-at : goal.bounds-case_words-at
bounds-case_words-at c =
    let a = c.args in
    let cks = a.case_kinds.now in
    let cws = a.case_words.now in
    let lent = c.requires.lent in
    let rest = c.loop-at.invariant.0 lent.names lent.cases lent.front in
    let inside = case_in lent.names cks cws rest in
    inside.1

pub case_test-reached-requires : goal.case_test-reached-requires
case_test-reached-requires c =
    c.requires.value

pub overflow_add-at : goal.overflow_add-at
overflow_add-at c =
    let a = c.args in
    let cks = a.case_kinds.now in
    let cws = a.case_words.now in
    let lent = c.requires.lent in
    let rest = c.loop-at.invariant.0 lent.names lent.cases lent.front in
    let case = case_at lent.names cks cws rest c.loop-at-test.true in
    omega (arith, case.in_words, c.well_formed)

pub loop-at-smaller : goal.loop-at-smaller
loop-at-smaller c =
    let a = c.args in
    let cks = a.case_kinds.now in
    let cws = a.case_words.now in
    let lent = c.requires.lent in
    let rest = c.loop-at.invariant.0 lent.names lent.cases lent.front in
    let inside = case_in lent.names cks cws rest in
    omega (arith, inside.0)

pub loop-at-preserved : goal.loop-at-preserved
loop-at-preserved c =
    let a = c.args in
    let cks = a.case_kinds.now in
    let cws = a.case_words.now in
    let lent = c.requires.lent in
    let rest = c.loop-at.invariant.0 lent.names lent.cases lent.front in
    let case = case_at lent.names cks cws rest c.loop-at-test.true in (
      λ m cs front. case_left m cks cws (c.loop-at.invariant.0 m cs front) c.loop-at-test.true,
      c.case_test-reached.auto.lines ∙ c.loop-at.invariant.1,
      c.case_test-reached.auto.operands ∙ c.loop-at.invariant.2,
      λ m k v l cs value maps front e.
          walk_more (case_tests k a.width v) m cks cws l cs (c.loop-at.invariant.3 m k v l cs value maps front e) c.loop-at-test.true
          c.next_label-label.ensures (λ n case more label number target. c.case_test-reached.ensures m k v n case more value maps label number),
    )

pub shape_of-lines : goal.shape_of-lines
shape_of-lines c =
    c.loop-at.invariant.1

pub shape_of-operands : goal.shape_of-operands
shape_of-operands c =
    c.loop-at.invariant.2

pub returns : goal.returns
returns c = λ m k v l cs value maps front e.
    let a = c.args in
    let cks = a.case_kinds.now in
    let cws = a.case_words.now in
    walk_end (case_tests k a.width v) m cks cws l cs (c.loop-at.invariant.3 m k v l cs value maps front e) (no_tests k a.width v) c.loop-at-test.false

use mathlib.Core.Path.{refl, ◌∙◌}
use native.Mathlib.Omega.{arith}
use Rattle.std.specs.Prelude.{Some, None}
use Rattle.book_types.specs.Laws.{length_entries}
use Rattle.book_parts.specs.Parts as parts
use Rattle.book_parts.proofs.functions_len.Goals as goal

pub loop-at-init : goal.loop-at-init
loop-at-init c =
    let a = c.args in
    (parts.functions_start a.barred.now a.defined.now a.names a.kinds.now a.words.now _ c.shorter-end.ensures, refl)

pub offset_bounds-kinds-at : goal.offset_bounds-kinds-at
offset_bounds-kinds-at c =
    let a = c.args in
    omega (arith, c.loop-at-test.true, c.shorter-end.ensures, length_entries a.kinds.now a.words.now, c.well_formed)

pub bounds-kinds-at : goal.bounds-kinds-at
bounds-kinds-at c =
    let a = c.args in
    omega (arith, c.loop-at-test.true, c.shorter-end.ensures, length_entries a.kinds.now a.words.now)

pub offset_bounds-words-at : goal.offset_bounds-words-at
offset_bounds-words-at c =
    let a = c.args in
    omega (arith, c.loop-at-test.true, c.shorter-end.ensures, length_entries a.kinds.now a.words.now, c.well_formed)

pub bounds-words-at : goal.bounds-words-at
bounds-words-at c =
    let a = c.args in
    omega (arith, c.loop-at-test.true, c.shorter-end.ensures, length_entries a.kinds.now a.words.now)

pub shape_of-defined-then-at-words : goal.shape_of-defined-then-at-words
shape_of-defined-then-at-words c = c.loop-at.invariant.1

pub returns-then-at-words : goal.returns-then-at-words
returns-then-at-words c =
    let a = c.args in
    parts.functions_none a.barred.now a.defined.now a.names a.kinds.now a.words.now _ _ _ _ c.loop-at.invariant.0
    (omega (arith, c.loop-at-test.true, c.shorter-end.ensures)) c.if-kinds-at-eq-END.true c.if-at-words.true

pub overflow_add-result : goal.overflow_add-result
overflow_add-result c =
    let a = c.args in
    omega (arith, c.loop-at-test.true, c.shorter-end.ensures, length_entries a.kinds.now a.words.now, c.well_formed)

pub shape_of-defined-then-kinds-at-eq-END : goal.shape_of-defined-then-kinds-at-eq-END
shape_of-defined-then-kinds-at-eq-END c = c.loop-at.invariant.1

pub returns-then-kinds-at-eq-END : goal.returns-then-kinds-at-eq-END
returns-then-kinds-at-eq-END c =
    let a = c.args in
    parts.functions_done a.barred.now a.defined.now a.names a.kinds.now a.words.now _ _ _ _ c.loop-at.invariant.0
    (omega (arith, c.loop-at-test.true, c.shorter-end.ensures)) c.if-kinds-at-eq-END.true c.if-at-words.false

pub offset_bounds-kinds-at-in-loop-at : goal.offset_bounds-kinds-at-in-loop-at
offset_bounds-kinds-at-in-loop-at c = omega (arith, c.loop-at.invariant.0.kinds, c.well_formed)

pub slice_bounds-function_len-count : goal.slice_bounds-function_len-count
slice_bounds-function_len-count c = c.loop-at.invariant.0.kinds

pub slice_bounds-function_len-start : goal.slice_bounds-function_len-start
slice_bounds-function_len-start c = c.loop-at.invariant.0.kinds

pub offset_bounds-words-at-in-loop-at : goal.offset_bounds-words-at-in-loop-at
offset_bounds-words-at-in-loop-at c = omega (arith, c.loop-at.invariant.0.words, c.well_formed)

pub slice_bounds-function_len-count-in-loop-at : goal.slice_bounds-function_len-count-in-loop-at
slice_bounds-function_len-count-in-loop-at c = c.loop-at.invariant.0.words

pub slice_bounds-function_len-start-in-loop-at : goal.slice_bounds-function_len-start-in-loop-at
slice_bounds-function_len-start-in-loop-at c = c.loop-at.invariant.0.words

pub shape_of-defined-in_err-function : goal.shape_of-defined-in_err-function
shape_of-defined-in_err-function c = c.loop-at.invariant.1

pub returns-in_err-function : goal.returns-in_err-function
returns-in_err-function c =
    let a = c.args in
    c.from_residual.ensures ∙ parts.functions_bad a.barred.now a.defined.now a.names a.kinds.now a.words.now _ _ _ _ c.loop-at.invariant.0
    (omega (arith, c.loop-at-test.true, c.shorter-end.ensures)) c.if-kinds-at-eq-END.false None c.in_err-function.ensures refl

pub shape_of-defined-then-left-eq0 : goal.shape_of-defined-then-left-eq0
shape_of-defined-then-left-eq0 c = c.loop-at.invariant.1

pub returns-then-left-eq0 : goal.returns-then-left-eq0
returns-then-left-eq0 c =
    let a = c.args in
    parts.functions_full a.barred.now a.defined.now a.names a.kinds.now a.words.now _ _ _ _ c.loop-at.invariant.0
    (omega (arith, c.loop-at-test.true, c.shorter-end.ensures)) c.if-kinds-at-eq-END.false (Some c.in_ok-function.function) c.in_ok-function.ensures c.if-left-eq0.true

pub offset_bounds-words-at-in-loop-at-2 : goal.offset_bounds-words-at-in-loop-at-2
offset_bounds-words-at-in-loop-at-2 c =
    let a = c.args in
    omega (arith, c.loop-at-test.true, c.shorter-end.ensures, length_entries a.kinds.now a.words.now, c.well_formed)

pub bounds-words-at-in-loop-at : goal.bounds-words-at-in-loop-at
bounds-words-at-in-loop-at c =
    let a = c.args in
    omega (arith, c.loop-at-test.true, c.shorter-end.ensures, length_entries a.kinds.now a.words.now)

pub shape_of-defined-then-not-mark_new : goal.shape_of-defined-then-not-mark_new
shape_of-defined-then-not-mark_new c =
    c.mark_new.auto.map ∙ c.loop-at.invariant.1

pub returns-then-not-mark_new : goal.returns-then-not-mark_new
returns-then-not-mark_new c =
    let a = c.args in
    parts.functions_repeated a.barred.now a.defined.now a.names a.kinds.now a.words.now _ _ _ _ c.loop-at.invariant.0
    (omega (arith, c.loop-at-test.true, c.shorter-end.ensures)) c.if-kinds-at-eq-END.false (Some c.in_ok-function.function) c.in_ok-function.ensures _ refl _
    c.mark_new.ensures.value c.if-not-mark_new.true

pub overflow_add-at : goal.overflow_add-at
overflow_add-at c =
    let a = c.args in
    let f = parts.function_at a.barred.now a.defined.now a.names a.kinds.now a.words.now _ _ _ _ c.loop-at.invariant.0
    (omega (arith, c.loop-at-test.true, c.shorter-end.ensures)) c.if-kinds-at-eq-END.false (Some c.in_ok-function.function) c.in_ok-function.ensures _ refl in
    omega (arith, f.there, length_entries a.kinds.now a.words.now, c.well_formed)

pub loop-at-smaller : goal.loop-at-smaller
loop-at-smaller c = omega (arith, c.if-left-eq0.false)

pub loop-at-preserved : goal.loop-at-preserved
loop-at-preserved c =
    let a = c.args in (
      parts.functions_next a.barred.now a.defined.now a.names a.kinds.now a.words.now _ _ _ _ c.loop-at.invariant.0
          (omega (arith, c.loop-at-test.true, c.shorter-end.ensures)) c.if-kinds-at-eq-END.false (Some c.in_ok-function.function) c.in_ok-function.ensures _ refl _
          c.mark_new.ensures.value c.if-not-mark_new.false _ c.mark_new.ensures.map_after c.if-left-eq0.false,
      c.mark_new.auto.map ∙ c.loop-at.invariant.1,
    )

pub shape_of-defined : goal.shape_of-defined
shape_of-defined c = c.loop-at.invariant.1

pub returns : goal.returns
returns c =
    let a = c.args in
    parts.functions_over a.barred.now a.defined.now a.names a.kinds.now a.words.now _ _ _ _ c.loop-at.invariant.0
    (omega (arith, c.loop-at-test.false, c.shorter-end.ensures))

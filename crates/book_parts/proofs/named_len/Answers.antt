use mathlib.Core.Path.{refl, ap, ◌∙◌}
use native.Mathlib.Omega.{arith}
use lib.ListN.{length}
use Rattle.book.specs.Decode.{functions}
use Rattle.std.specs.Prelude.{Some, None}
use Rattle.book_types.specs.Found.{plain, after}
use Rattle.book_types.specs.Passes.{plain_is}
use Rattle.book_types.specs.Laws.{length_entries, lent_from}
use Rattle.book_parts.specs.Reading.{functions_found}
use Rattle.book_parts.specs.Parts as parts
use Rattle.book_parts.proofs.named_len.Goals as goal

pub loop-at-init : goal.loop-at-init
loop-at-init c =
    let a = c.args in (
      parts.named_start a.barred.now a.defined.now a.named.now a.names a.kinds.now a.words.now _ c.shorter-end.ensures,
      refl,
      refl,
    )

pub offset_bounds-kinds-at : goal.offset_bounds-kinds-at
offset_bounds-kinds-at c =
    let a = c.args in
    omega (arith, c.loop-at-test.true, c.shorter-end.ensures, length_entries a.kinds.now a.words.now, c.well_formed)

pub bounds-kinds-at : goal.bounds-kinds-at
bounds-kinds-at c =
    let a = c.args in
    omega (arith, c.loop-at-test.true, c.shorter-end.ensures, length_entries a.kinds.now a.words.now)

pub offset_bounds-kinds-at-then-kinds-at-ge-OPAQUE : goal.offset_bounds-kinds-at-then-kinds-at-ge-OPAQUE
offset_bounds-kinds-at-then-kinds-at-ge-OPAQUE c = omega (arith, c.loop-at.invariant.0.kinds, c.well_formed)

pub slice_bounds-functions_len-count : goal.slice_bounds-functions_len-count
slice_bounds-functions_len-count c = c.loop-at.invariant.0.kinds

pub slice_bounds-functions_len-start : goal.slice_bounds-functions_len-start
slice_bounds-functions_len-start c = c.loop-at.invariant.0.kinds

pub offset_bounds-words-at : goal.offset_bounds-words-at
offset_bounds-words-at c = omega (arith, c.loop-at.invariant.0.words, c.well_formed)

pub slice_bounds-functions_len-count-then-kinds-at-ge-OPAQUE : goal.slice_bounds-functions_len-count-then-kinds-at-ge-OPAQUE
slice_bounds-functions_len-count-then-kinds-at-ge-OPAQUE c = c.loop-at.invariant.0.words

pub slice_bounds-functions_len-start-then-kinds-at-ge-OPAQUE : goal.slice_bounds-functions_len-start-then-kinds-at-ge-OPAQUE
slice_bounds-functions_len-start-then-kinds-at-ge-OPAQUE c = c.loop-at.invariant.0.words

pub then-requires : goal.then-requires
then-requires c =
    let a = c.args in
    omega (
      arith,
      ap (λ f. f.entries) c.plain.ensures,
      parts.functions_behind a.barred.now _ a.names a.kinds.now a.words.now _ _ c.in_ok-rest.ensures c.loop-at.invariant.0.there,
      length_entries a.kinds.now a.words.now,
    )

pub shape_of-named-in_err-rest : goal.shape_of-named-in_err-rest
shape_of-named-in_err-rest c = c.loop-at.invariant.1

pub shape_of-defined-in_err-rest : goal.shape_of-defined-in_err-rest
shape_of-defined-in_err-rest c = c.functions_len.auto.defined ∙ ap length c.loop-at.invariant.2

pub returns-in_err-rest : goal.returns-in_err-rest
returns-in_err-rest c =
    let a = c.args in
    parts.named_end a.barred.now a.defined.now a.named.now a.names a.kinds.now a.words.now _ _ _ c.loop-at.invariant.0
    (omega (arith, c.loop-at-test.true, c.shorter-end.ensures)) c.if-kinds-at-ge-OPAQUE.true None _
    (c.in_err-rest.ensures
    ∙ ap (λ x. functions_found a.barred.now x (functions a.names (lent_from a.kinds.now a.words.now c.loop-at.at))) c.loop-at.invariant.2)
    c.from_residual.ensures

pub shape_of-named-then-kinds-at-ge-OPAQUE : goal.shape_of-named-then-kinds-at-ge-OPAQUE
shape_of-named-then-kinds-at-ge-OPAQUE c =
    c.loop-at.invariant.1

pub shape_of-defined-then-kinds-at-ge-OPAQUE : goal.shape_of-defined-then-kinds-at-ge-OPAQUE
shape_of-defined-then-kinds-at-ge-OPAQUE c =
    c.functions_len.auto.defined ∙ ap length c.loop-at.invariant.2

pub returns-then-kinds-at-ge-OPAQUE : goal.returns-then-kinds-at-ge-OPAQUE
returns-then-kinds-at-ge-OPAQUE c =
    let a = c.args in
    parts.named_end a.barred.now a.defined.now a.named.now a.names a.kinds.now a.words.now _ _ _ c.loop-at.invariant.0
    (omega (arith, c.loop-at-test.true, c.shorter-end.ensures)) c.if-kinds-at-ge-OPAQUE.true (Some c.in_ok-rest.rest) _
    (c.in_ok-rest.ensures
    ∙ ap (λ x. functions_found a.barred.now x (functions a.names (lent_from a.kinds.now a.words.now c.loop-at.at))) c.loop-at.invariant.2)
    (ap Some (c.then.ensures ∙ ap (λ f. after f c.in_ok-rest.rest) c.plain.ensures))

pub offset_bounds-kinds-at-in-loop-at : goal.offset_bounds-kinds-at-in-loop-at
offset_bounds-kinds-at-in-loop-at c = omega (arith, c.loop-at.invariant.0.kinds, c.well_formed)

pub slice_bounds-struct_len-count : goal.slice_bounds-struct_len-count
slice_bounds-struct_len-count c = c.loop-at.invariant.0.kinds

pub slice_bounds-struct_len-start : goal.slice_bounds-struct_len-start
slice_bounds-struct_len-start c = c.loop-at.invariant.0.kinds

pub offset_bounds-words-at-in-loop-at : goal.offset_bounds-words-at-in-loop-at
offset_bounds-words-at-in-loop-at c = omega (arith, c.loop-at.invariant.0.words, c.well_formed)

pub slice_bounds-struct_len-count-in-loop-at : goal.slice_bounds-struct_len-count-in-loop-at
slice_bounds-struct_len-count-in-loop-at c = c.loop-at.invariant.0.words

pub slice_bounds-struct_len-start-in-loop-at : goal.slice_bounds-struct_len-start-in-loop-at
slice_bounds-struct_len-start-in-loop-at c = c.loop-at.invariant.0.words

pub shape_of-named-in_err-n : goal.shape_of-named-in_err-n
shape_of-named-in_err-n c = c.loop-at.invariant.1

pub shape_of-defined-in_err-n : goal.shape_of-defined-in_err-n
shape_of-defined-in_err-n c = ap length c.loop-at.invariant.2

pub returns-in_err-n : goal.returns-in_err-n
returns-in_err-n c =
    let a = c.args in
    c.from_residual-in_err-n.ensures ∙ parts.named_bad a.barred.now a.defined.now a.named.now a.names a.kinds.now a.words.now _ _ _ c.loop-at.invariant.0
    (omega (arith, c.loop-at-test.true, c.shorter-end.ensures)) c.if-kinds-at-ge-OPAQUE.false None (plain_is _ None c.in_err-n.ensures) refl

pub shape_of-named-then-left-eq0 : goal.shape_of-named-then-left-eq0
shape_of-named-then-left-eq0 c = c.loop-at.invariant.1

pub shape_of-defined-then-left-eq0 : goal.shape_of-defined-then-left-eq0
shape_of-defined-then-left-eq0 c = ap length c.loop-at.invariant.2

pub returns-then-left-eq0 : goal.returns-then-left-eq0
returns-then-left-eq0 c =
    let a = c.args in
    parts.named_full a.barred.now a.defined.now a.named.now a.names a.kinds.now a.words.now _ _ _ c.loop-at.invariant.0
    (omega (arith, c.loop-at-test.true, c.shorter-end.ensures)) c.if-kinds-at-ge-OPAQUE.false (Some (plain c.in_ok-n.n)) (plain_is _ (Some c.in_ok-n.n) c.in_ok-n.ensures) c.if-left-eq0.true

pub offset_bounds-words-at-in-loop-at-2 : goal.offset_bounds-words-at-in-loop-at-2
offset_bounds-words-at-in-loop-at-2 c =
    let a = c.args in
    omega (arith, c.loop-at-test.true, c.shorter-end.ensures, length_entries a.kinds.now a.words.now, c.well_formed)

pub bounds-words-at : goal.bounds-words-at
bounds-words-at c =
    let a = c.args in
    omega (arith, c.loop-at-test.true, c.shorter-end.ensures, length_entries a.kinds.now a.words.now)

pub shape_of-named-then-not-mark_new : goal.shape_of-named-then-not-mark_new
shape_of-named-then-not-mark_new c =
    c.mark_new.auto.map ∙ c.loop-at.invariant.1

pub shape_of-defined-then-not-mark_new : goal.shape_of-defined-then-not-mark_new
shape_of-defined-then-not-mark_new c = ap length c.loop-at.invariant.2

pub returns-then-not-mark_new : goal.returns-then-not-mark_new
returns-then-not-mark_new c =
    let a = c.args in
    parts.named_repeated a.barred.now a.defined.now a.named.now a.names a.kinds.now a.words.now _ _ _ c.loop-at.invariant.0
    (omega (arith, c.loop-at-test.true, c.shorter-end.ensures)) c.if-kinds-at-ge-OPAQUE.false (Some (plain c.in_ok-n.n)) (plain_is _ (Some c.in_ok-n.n) c.in_ok-n.ensures) _ refl _
    c.mark_new.ensures.value c.if-not-mark_new.true

pub overflow_add-at : goal.overflow_add-at
overflow_add-at c =
    let a = c.args in
    let s = parts.struct_at a.barred.now a.defined.now a.named.now a.names a.kinds.now a.words.now _ _ _ c.loop-at.invariant.0
    (omega (arith, c.loop-at-test.true, c.shorter-end.ensures)) c.if-kinds-at-ge-OPAQUE.false (Some (plain c.in_ok-n.n)) (plain_is _ (Some c.in_ok-n.n) c.in_ok-n.ensures) _ refl in
    omega (arith, s.there, length_entries a.kinds.now a.words.now, c.well_formed)

pub loop-at-smaller : goal.loop-at-smaller
loop-at-smaller c = omega (arith, c.if-left-eq0.false)

pub loop-at-preserved : goal.loop-at-preserved
loop-at-preserved c =
    let a = c.args in (
      parts.named_next a.barred.now a.defined.now a.named.now a.names a.kinds.now a.words.now _ _ _ c.loop-at.invariant.0
          (omega (arith, c.loop-at-test.true, c.shorter-end.ensures)) c.if-kinds-at-ge-OPAQUE.false (Some (plain c.in_ok-n.n)) (plain_is _ (Some c.in_ok-n.n) c.in_ok-n.ensures) _ refl _
          c.mark_new.ensures.value c.if-not-mark_new.false _ c.mark_new.ensures.map_after c.if-left-eq0.false,
      c.mark_new.auto.map ∙ c.loop-at.invariant.1,
      c.loop-at.invariant.2,
    )

pub shape_of-named : goal.shape_of-named
shape_of-named c = c.loop-at.invariant.1

pub shape_of-defined : goal.shape_of-defined
shape_of-defined c = ap length c.loop-at.invariant.2

pub returns : goal.returns
returns c =
    let a = c.args in
    parts.named_over a.barred.now a.defined.now a.named.now a.names a.kinds.now a.words.now _ _ _ c.loop-at.invariant.0
    (omega (arith, c.loop-at-test.false, c.shorter-end.ensures))

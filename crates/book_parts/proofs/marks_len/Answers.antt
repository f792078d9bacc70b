use Prim.Native.Nat.{◌-◌}
use mathlib.Core.Path.{refl, ap, ◌∙◌}
use native.Mathlib.Omega.{arith}
use lib.ListN.{length}
use lib.Dec.{leb}
use Rattle.book.specs.Entry.{entries}
use Rattle.book.specs.Decode.{mark, structs_and_functions}
use Rattle.std.specs.Prelude.{Some, None}
use Rattle.book_types.specs.Found.{after}
use Rattle.book_types.specs.Laws.{length_entries, lent_from}
use Rattle.book_parts.specs.Reading.{named_found, marked_by, structs_ended}
use Rattle.book_parts.specs.Folds.{fold_start}
use Rattle.book_parts.specs.Parts as parts
use Rattle.book_parts.proofs.marks_len.Goals as goal

pub loop-at-init : goal.loop-at-init
loop-at-init c =
    let a = c.args in (
      fold_start marked_by (structs_ended a.named.now a.defined.now) (leb 3) (mark a.names) (structs_and_functions a.names) (a.marked.now, a.barred.now)
          (length (entries a.kinds.now a.words.now)) a.kinds.now a.words.now (length (entries a.kinds.now a.words.now) - 0)
          (omega arith),
      refl,
      refl,
      refl,
      refl,
    )

pub offset_bounds-kinds-at : goal.offset_bounds-kinds-at
offset_bounds-kinds-at c =
    let a = c.args in
    omega (arith, c.loop-at-test.true, c.shorter-n.ensures, length_entries a.kinds.now a.words.now, c.well_formed)

pub bounds-kinds-at : goal.bounds-kinds-at
bounds-kinds-at c =
    let a = c.args in
    omega (arith, c.loop-at-test.true, c.shorter-n.ensures, length_entries a.kinds.now a.words.now)

pub offset_bounds-kinds-at-then-kinds-at-ge-NAMED_STRUCT : goal.offset_bounds-kinds-at-then-kinds-at-ge-NAMED_STRUCT
offset_bounds-kinds-at-then-kinds-at-ge-NAMED_STRUCT c =
    omega (arith, c.loop-at.invariant.0.kinds, c.well_formed)

pub slice_bounds-named_len-count : goal.slice_bounds-named_len-count
slice_bounds-named_len-count c = c.loop-at.invariant.0.kinds

pub slice_bounds-named_len-start : goal.slice_bounds-named_len-start
slice_bounds-named_len-start c = c.loop-at.invariant.0.kinds

pub offset_bounds-words-at : goal.offset_bounds-words-at
offset_bounds-words-at c =
    omega (arith, c.loop-at.invariant.0.words, c.well_formed)

pub slice_bounds-named_len-count-then-kinds-at-ge-NAMED_STRUCT : goal.slice_bounds-named_len-count-then-kinds-at-ge-NAMED_STRUCT
slice_bounds-named_len-count-then-kinds-at-ge-NAMED_STRUCT c = c.loop-at.invariant.0.words

pub slice_bounds-named_len-start-then-kinds-at-ge-NAMED_STRUCT : goal.slice_bounds-named_len-start-then-kinds-at-ge-NAMED_STRUCT
slice_bounds-named_len-start-then-kinds-at-ge-NAMED_STRUCT c = c.loop-at.invariant.0.words

pub then-requires : goal.then-requires
then-requires c =
    let a = c.args in
    omega (
      arith,
      ap (λ f. f.entries) c.plain.ensures,
      parts.structs_behind c.loop-at.named c.loop-at.defined c.loop-at.barred a.names a.kinds.now a.words.now _ _ c.in_ok-rest.ensures c.loop-at.invariant.0.there,
      length_entries a.kinds.now a.words.now,
    )

pub shape_of-marked-in_err-rest : goal.shape_of-marked-in_err-rest
shape_of-marked-in_err-rest c = c.loop-at.invariant.1

pub shape_of-barred-in_err-rest : goal.shape_of-barred-in_err-rest
shape_of-barred-in_err-rest c = c.loop-at.invariant.2

pub shape_of-named-in_err-rest : goal.shape_of-named-in_err-rest
shape_of-named-in_err-rest c = c.named_len.auto.named ∙ ap length c.loop-at.invariant.3

pub shape_of-defined-in_err-rest : goal.shape_of-defined-in_err-rest
shape_of-defined-in_err-rest c = c.named_len.auto.defined ∙ ap length c.loop-at.invariant.4

pub returns-in_err-rest : goal.returns-in_err-rest
returns-in_err-rest c =
    let a = c.args in
    let rest = structs_and_functions a.names (lent_from a.kinds.now a.words.now c.loop-at.at) in
    parts.marks_end a.named.now a.defined.now a.marked.now a.barred.now a.names a.kinds.now a.words.now _ _ c.loop-at.invariant.0
    (omega (arith, c.loop-at-test.true, c.shorter-n.ensures)) c.if-kinds-at-ge-NAMED_STRUCT.true None _
    (c.in_err-rest.ensures
    ∙ ap (λ x. named_found c.loop-at.barred c.loop-at.defined x rest) c.loop-at.invariant.3
    ∙ ap (λ x. named_found c.loop-at.barred x a.named.now rest) c.loop-at.invariant.4)
    c.from_residual.ensures

pub shape_of-marked-then-kinds-at-ge-NAMED_STRUCT : goal.shape_of-marked-then-kinds-at-ge-NAMED_STRUCT
shape_of-marked-then-kinds-at-ge-NAMED_STRUCT c =
    c.loop-at.invariant.1

pub shape_of-barred-then-kinds-at-ge-NAMED_STRUCT : goal.shape_of-barred-then-kinds-at-ge-NAMED_STRUCT
shape_of-barred-then-kinds-at-ge-NAMED_STRUCT c =
    c.loop-at.invariant.2

pub shape_of-named-then-kinds-at-ge-NAMED_STRUCT : goal.shape_of-named-then-kinds-at-ge-NAMED_STRUCT
shape_of-named-then-kinds-at-ge-NAMED_STRUCT c =
    c.named_len.auto.named ∙ ap length c.loop-at.invariant.3

pub shape_of-defined-then-kinds-at-ge-NAMED_STRUCT : goal.shape_of-defined-then-kinds-at-ge-NAMED_STRUCT
shape_of-defined-then-kinds-at-ge-NAMED_STRUCT c =
    c.named_len.auto.defined ∙ ap length c.loop-at.invariant.4

pub returns-then-kinds-at-ge-NAMED_STRUCT : goal.returns-then-kinds-at-ge-NAMED_STRUCT
returns-then-kinds-at-ge-NAMED_STRUCT c =
    let a = c.args in
    let rest = structs_and_functions a.names (lent_from a.kinds.now a.words.now c.loop-at.at) in
    parts.marks_end a.named.now a.defined.now a.marked.now a.barred.now a.names a.kinds.now a.words.now _ _ c.loop-at.invariant.0
    (omega (arith, c.loop-at-test.true, c.shorter-n.ensures)) c.if-kinds-at-ge-NAMED_STRUCT.true (Some c.in_ok-rest.rest) _
    (c.in_ok-rest.ensures
    ∙ ap (λ x. named_found c.loop-at.barred c.loop-at.defined x rest) c.loop-at.invariant.3
    ∙ ap (λ x. named_found c.loop-at.barred x a.named.now rest) c.loop-at.invariant.4)
    (ap Some (c.then.ensures ∙ ap (λ f. after f c.in_ok-rest.rest) c.plain.ensures))

pub offset_bounds-kinds-at-in-loop-at : goal.offset_bounds-kinds-at-in-loop-at
offset_bounds-kinds-at-in-loop-at c =
    let a = c.args in
    omega (arith, c.loop-at-test.true, c.shorter-n.ensures, length_entries a.kinds.now a.words.now, c.well_formed)

pub bounds-kinds-at-in-loop-at : goal.bounds-kinds-at-in-loop-at
bounds-kinds-at-in-loop-at c =
    let a = c.args in
    omega (arith, c.loop-at-test.true, c.shorter-n.ensures, length_entries a.kinds.now a.words.now)

pub offset_bounds-words-at-in-loop-at : goal.offset_bounds-words-at-in-loop-at
offset_bounds-words-at-in-loop-at c =
    let a = c.args in
    omega (arith, c.loop-at-test.true, c.shorter-n.ensures, length_entries a.kinds.now a.words.now, c.well_formed)

pub bounds-words-at : goal.bounds-words-at
bounds-words-at c =
    let a = c.args in
    omega (arith, c.loop-at-test.true, c.shorter-n.ensures, length_entries a.kinds.now a.words.now)

pub shape_of-marked-then-not-mark : goal.shape_of-marked-then-not-mark
shape_of-marked-then-not-mark c =
    c.mark.auto.marked ∙ c.loop-at.invariant.1

pub shape_of-barred-then-not-mark : goal.shape_of-barred-then-not-mark
shape_of-barred-then-not-mark c =
    c.mark.auto.barred ∙ c.loop-at.invariant.2

pub shape_of-named-then-not-mark : goal.shape_of-named-then-not-mark
shape_of-named-then-not-mark c =
    ap length c.loop-at.invariant.3

pub shape_of-defined-then-not-mark : goal.shape_of-defined-then-not-mark
shape_of-defined-then-not-mark c =
    ap length c.loop-at.invariant.4

pub returns-then-not-mark : goal.returns-then-not-mark
returns-then-not-mark c =
    let a = c.args in
    parts.marks_refused a.named.now a.defined.now a.marked.now a.barred.now a.names a.kinds.now a.words.now _ _ c.loop-at.invariant.0
    (omega (arith, c.loop-at-test.true, c.shorter-n.ensures)) c.if-kinds-at-ge-NAMED_STRUCT.false _ c.mark.ensures.value
    c.if-not-mark.true

pub loop-at-preserved : goal.loop-at-preserved
loop-at-preserved c =
    let a = c.args in (
      parts.marks_next a.named.now a.defined.now a.marked.now a.barred.now a.names a.kinds.now a.words.now _ _ c.loop-at.invariant.0
          (omega (arith, c.loop-at-test.true, c.shorter-n.ensures)) c.if-kinds-at-ge-NAMED_STRUCT.false _ c.mark.ensures.value
          c.if-not-mark.false _ _ c.mark.ensures.marked_after c.mark.ensures.barred_after,
      c.mark.auto.marked ∙ c.loop-at.invariant.1,
      c.mark.auto.barred ∙ c.loop-at.invariant.2,
      c.loop-at.invariant.3,
      c.loop-at.invariant.4,
    )

pub shape_of-marked : goal.shape_of-marked
shape_of-marked c = c.loop-at.invariant.1

pub shape_of-barred : goal.shape_of-barred
shape_of-barred c = c.loop-at.invariant.2

pub shape_of-named : goal.shape_of-named
shape_of-named c = ap length c.loop-at.invariant.3

pub shape_of-defined : goal.shape_of-defined
shape_of-defined c = ap length c.loop-at.invariant.4

pub returns : goal.returns
returns c =
    let a = c.args in
    parts.marks_over a.named.now a.defined.now a.marked.now a.barred.now a.names a.kinds.now a.words.now _ _ c.loop-at.invariant.0
    (omega (arith, c.loop-at-test.false, c.shorter-n.ensures))

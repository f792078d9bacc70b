use Prim.Native.Nat.{◌+◌}
use native.Mathlib.Omega.{arith}
use mathlib.Core.Path.{refl, ◌∙◌, sym}
use Rattle.book.specs.Decode.{item as itemReader}
use Rattle.book.specs.Forbidden.{other_item}
use Rattle.book.proofs.AgreeInst.{agrees_item}
use Rattle.book_types.specs.Laws as laws
use Rattle.book_types.specs.Passes as passes
use Rattle.book_values.specs.Items.{item_of}
use Rattle.book_values.proofs.list_len.Goals as goal

pub loop-kind-init : goal.loop-kind-init
loop-kind-init c =
    let a = c.args in
    passes.list_start (other_item (item_of a.item)) (itemReader a.names (item_of a.item)) a.most a.kinds.now a.words.now _ refl

pub offset_bounds-kinds-at : goal.offset_bounds-kinds-at
offset_bounds-kinds-at c = omega (arith, c.loop-kind.invariant.kinds, c.well_formed)

pub slice_bounds-kinds-count : goal.slice_bounds-kinds-count
slice_bounds-kinds-count c = c.loop-kind.invariant.kinds

pub slice_bounds-kinds-start : goal.slice_bounds-kinds-start
slice_bounds-kinds-start c = c.loop-kind.invariant.kinds

pub offset_bounds-words-at : goal.offset_bounds-words-at
offset_bounds-words-at c = omega (arith, c.loop-kind.invariant.words, c.well_formed)

pub slice_bounds-words-count : goal.slice_bounds-words-count
slice_bounds-words-count c = c.loop-kind.invariant.words

pub slice_bounds-words-start : goal.slice_bounds-words-start
slice_bounds-words-start c = c.loop-kind.invariant.words

pub returns-in_err-kind : goal.returns-in_err-kind
returns-in_err-kind c =
    let a = c.args in
    c.from_residual.ensures ∙ passes.list_none (other_item (item_of a.item)) (itemReader a.names (item_of a.item)) a.most a.kinds.now a.words.now _ _ _ c.loop-kind.invariant c.in_err-kind.ensures
    ∙ sym (passes.list_found _ _ _ _)

pub overflow_add-at : goal.overflow_add-at
overflow_add-at c =
    let a = c.args in
    omega (arith, laws.within_kinds (c.loop-kind.at + 1) _ _ (laws.front_within a.kinds.now a.words.now c.loop-kind.at _ c.in_ok-kind.ensures))

pub returns-then-kind-eq-END : goal.returns-then-kind-eq-END
returns-then-kind-eq-END c =
    let a = c.args in
    c.then_some.ensures ∙ passes.list_end (other_item (item_of a.item)) (itemReader a.names (item_of a.item)) a.most a.kinds.now a.words.now _ _ _ c.loop-kind.invariant _ _ c.in_ok-kind.ensures c.if-kind-eq-END.true
    ∙ sym (passes.list_found _ _ _ _)

pub returns-then-left-eq0 : goal.returns-then-left-eq0
returns-then-left-eq0 c =
    let a = c.args in
    passes.list_full (other_item (item_of a.item)) (itemReader a.names (item_of a.item)) a.most a.kinds.now a.words.now _ _ _ c.loop-kind.invariant _ _ c.in_ok-kind.ensures c.if-kind-eq-END.false c.if-left-eq0.true
    ∙ sym (passes.list_found _ _ _ _)

pub returns-in_err-found : goal.returns-in_err-found
returns-in_err-found c =
    let a = c.args in
    c.from_residual-in_err-found.ensures ∙ passes.list_bad (other_item (item_of a.item)) (itemReader a.names (item_of a.item)) a.most a.kinds.now a.words.now _ _ _ c.loop-kind.invariant _ _ c.in_ok-kind.ensures c.if-kind-eq-END.false c.in_err-found.ensures
    ∙ sym (passes.list_found _ _ _ _)

pub overflow_add-at-in-loop-kind : goal.overflow_add-at-in-loop-kind
overflow_add-at-in-loop-kind c =
    let a = c.args in
    omega (
      arith,
      laws.within_kinds (c.loop-kind.at + c.in_ok-found.found.entries) _ _
          (passes.found_lent (other_item (item_of a.item)) (agrees_item a.names (item_of a.item)) a.kinds.now a.words.now _ _ c.loop-kind.invariant.there c.in_ok-found.ensures),
    )

pub loop-kind-preserved : goal.loop-kind-preserved
loop-kind-preserved c =
    let a = c.args in
    passes.list_next (other_item (item_of a.item)) (itemReader a.names (item_of a.item)) a.most a.kinds.now a.words.now _ _ _ c.loop-kind.invariant _ _ c.in_ok-kind.ensures c.if-kind-eq-END.false
    (agrees_item a.names (item_of a.item)) _ c.in_ok-found.ensures c.if-left-eq0.false

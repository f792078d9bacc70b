use Prim.Native.Nat.{◌+◌}
use mathlib.Core.Bool.{false}
use mathlib.Core.Path.{sym, ap, ◌∙◌}
use native.Mathlib.Omega.{arith}
use lib.ListN.{length}
use Rattle.std.specs.Prelude.{Some, None}
use Rattle.book.specs.Entry.{entries}
use Rattle.book.specs.Decode.{type_to}
use Rattle.book.proofs.AgreeTy.{agrees_type_to}
use Rattle.book_types.specs.Length.{further}
use Rattle.book_types.specs.Found.{found, plain, never}
use Rattle.book_types.specs.Passes as passes
use Rattle.book_types.specs.Laws as laws
use Rattle.book_types.specs.TypeLaws as types
use Rattle.book_types.specs.Leaf.{leaf_one}
use Rattle.book_types.specs.declared.types.TypeHead.TheVariants.{Leaf, Array, Struct}
use Rattle.book_types.proofs.types.+type_deep_type_len_types_len.Goals as goal

pub type_deep-returns-then-level-eq0 : goal.type_deep-returns-then-level-eq0
type_deep-returns-then-level-eq0 t c = sym (types.type_zero _ _ _ c.if-level-eq0.true)

pub type_deep-slice_bounds-kinds-count : goal.type_deep-slice_bounds-kinds-count
type_deep-slice_bounds-kinds-count t c =
    let a = c.args in
    laws.within_kinds 1 _ _ (types.head_there a.names a.level a.kinds.now a.words.now _ c.first_entry.ensures _ c.in_ok-head.ensures)

pub type_deep-slice_bounds-kinds-start : goal.type_deep-slice_bounds-kinds-start
type_deep-slice_bounds-kinds-start t c =
    let a = c.args in
    laws.within_kinds 1 _ _ (types.head_there a.names a.level a.kinds.now a.words.now _ c.first_entry.ensures _ c.in_ok-head.ensures)

pub type_deep-slice_bounds-words-count : goal.type_deep-slice_bounds-words-count
type_deep-slice_bounds-words-count t c =
    let a = c.args in
    laws.within_words 1 _ _ (types.head_there a.names a.level a.kinds.now a.words.now _ c.first_entry.ensures _ c.in_ok-head.ensures)

pub type_deep-slice_bounds-words-start : goal.type_deep-slice_bounds-words-start
type_deep-slice_bounds-words-start t c =
    let a = c.args in
    laws.within_words 1 _ _ (types.head_there a.names a.level a.kinds.now a.words.now _ c.first_entry.ensures _ c.in_ok-head.ensures)

pub type_deep-returns-in_err-head : goal.type_deep-returns-in_err-head
type_deep-returns-in_err-head t c =
    let a = c.args in
    c.from_residual.ensures ∙ sym
    (types.head_arm a.names a.level a.kinds.now a.words.now _ c.first_entry.ensures c.if-level-eq0.false None c.in_err-head.ensures)

pub type_deep-returns-in-Leaf : goal.type_deep-returns-in-Leaf
type_deep-returns-in-Leaf t c =
    let a = c.args in
    sym
    (types.head_arm a.names a.level a.kinds.now a.words.now _ c.first_entry.ensures c.if-level-eq0.false (Some Leaf) (ap Some (sym c.in-Leaf.is) ∙ c.in_ok-head.ensures))

pub type_deep-returns-in_err-type_deep-in-Array : goal.type_deep-returns-in_err-type_deep-in-Array
type_deep-returns-in_err-type_deep-in-Array t c =
    let a = c.args in
    c.from_residual-in_err-type_deep-in-Array.ensures ∙ ap (further 1) c.in_err-type_deep-in-Array.ensures ∙ sym
    (types.head_arm a.names a.level a.kinds.now a.words.now _ c.first_entry.ensures c.if-level-eq0.false (Some Array) (ap Some (sym c.in-Array.is) ∙ c.in_ok-head.ensures))

pub type_deep-returns-in_ok-type_deep-in-Array : goal.type_deep-returns-in_ok-type_deep-in-Array
type_deep-returns-in_ok-type_deep-in-Array t c =
    let a = c.args in
    ap (further 1) c.in_ok-type_deep-in-Array.ensures ∙ sym
    (types.head_arm a.names a.level a.kinds.now a.words.now _ c.first_entry.ensures c.if-level-eq0.false (Some Array) (ap Some (sym c.in-Array.is) ∙ c.in_ok-head.ensures))

pub type_deep-returns-in_err-types_len-in-Struct : goal.type_deep-returns-in_err-types_len-in-Struct
type_deep-returns-in_err-types_len-in-Struct t c =
    let a = c.args in
    c.from_residual-in_err-types_len-in-Struct.ensures ∙ ap (further 1) c.in_err-types_len-in-Struct.ensures ∙ sym
    (types.head_arm a.names a.level a.kinds.now a.words.now _ c.first_entry.ensures c.if-level-eq0.false (Some Struct) (ap Some (sym c.in-Struct.is) ∙ c.in_ok-head.ensures))

pub type_deep-returns-in_ok-types_len-in-Struct : goal.type_deep-returns-in_ok-types_len-in-Struct
type_deep-returns-in_ok-types_len-in-Struct t c =
    let a = c.args in
    ap (further 1) c.in_ok-types_len-in-Struct.ensures ∙ sym
    (types.head_arm a.names a.level a.kinds.now a.words.now _ c.first_entry.ensures c.if-level-eq0.false (Some Struct) (ap Some (sym c.in-Struct.is) ∙ c.in_ok-head.ensures))

pub type_deep-overflow_add-result : goal.type_deep-overflow_add-result
type_deep-overflow_add-result t c =
    let a = c.args in
    omega (
      arith,
      laws.within_kinds (1 + c.in_ok-type_deep-in-Array.field-0) _ _ (laws.lent_fits (agrees_type_to _ _) a.kinds.now a.words.now 1 _ (types.head_there a.names a.level a.kinds.now a.words.now _ c.first_entry.ensures _ c.in_ok-head.ensures) c.in_ok-type_deep-in-Array.ensures),
    )

pub type_deep-overflow_add-result-in-Struct : goal.type_deep-overflow_add-result-in-Struct
type_deep-overflow_add-result-in-Struct t c =
    let a = c.args in
    omega (
      arith,
      laws.within_kinds (1 + c.in_ok-types_len-in-Struct.field-0) _ _ (laws.lent_fits (types.agrees_types _ _) a.kinds.now a.words.now 1 _ (types.head_there a.names a.level a.kinds.now a.words.now _ c.first_entry.ensures _ c.in_ok-head.ensures) c.in_ok-types_len-in-Struct.ensures),
    )

pub type_len-returns-then-leaf : goal.type_len-returns-then-leaf
type_len-returns-then-leaf t c =
    let a = c.args in
    leaf_one a.names a.level a.kinds.now a.words.now c.if-level-ne0.true c.if-kinds-ne0.true c.if-words-ne0.true
    (sym c.leaf.ensures ∙ c.if-leaf.true)

pub types_len-loop-kind-init : goal.types_len-loop-kind-init
types_len-loop-kind-init t c =
    let a = c.args in
    passes.list_start never (type_to a.names a.level) (length (entries a.kinds.now a.words.now)) a.kinds.now a.words.now _ c.shorter-left.ensures

pub types_len-offset_bounds-kinds-at : goal.types_len-offset_bounds-kinds-at
types_len-offset_bounds-kinds-at t c = omega (arith, c.loop-kind.invariant.kinds, c.well_formed)

pub types_len-slice_bounds-kinds-count : goal.types_len-slice_bounds-kinds-count
types_len-slice_bounds-kinds-count t c = c.loop-kind.invariant.kinds

pub types_len-slice_bounds-kinds-start : goal.types_len-slice_bounds-kinds-start
types_len-slice_bounds-kinds-start t c = c.loop-kind.invariant.kinds

pub types_len-offset_bounds-words-at : goal.types_len-offset_bounds-words-at
types_len-offset_bounds-words-at t c = omega (arith, c.loop-kind.invariant.words, c.well_formed)

pub types_len-slice_bounds-words-count : goal.types_len-slice_bounds-words-count
types_len-slice_bounds-words-count t c = c.loop-kind.invariant.words

pub types_len-slice_bounds-words-start : goal.types_len-slice_bounds-words-start
types_len-slice_bounds-words-start t c = c.loop-kind.invariant.words

pub types_len-returns-in_err-kind : goal.types_len-returns-in_err-kind
types_len-returns-in_err-kind t c =
    let a = c.args in
    c.from_residual.ensures ∙ passes.sized (type_to a.names a.level) a.kinds.now a.words.now None
    (passes.list_none never (type_to a.names a.level) (length (entries a.kinds.now a.words.now)) a.kinds.now a.words.now _ _ _ c.loop-kind.invariant c.in_err-kind.ensures)

pub types_len-overflow_add-at : goal.types_len-overflow_add-at
types_len-overflow_add-at t c = omega (arith, laws.within_kinds (c.loop-kind.at + 1) _ _ (laws.front_within c.args.kinds.now c.args.words.now c.loop-kind.at _ c.in_ok-kind.ensures))

pub types_len-returns-then-kind-eq-END : goal.types_len-returns-then-kind-eq-END
types_len-returns-then-kind-eq-END t c =
    let a = c.args in
    c.then_some.ensures ∙ passes.size_then _ (found (c.loop-kind.at + 1) false) ∙ passes.sized (type_to a.names a.level) a.kinds.now a.words.now _
    (passes.list_end never (type_to a.names a.level) (length (entries a.kinds.now a.words.now)) a.kinds.now a.words.now _ _ _ c.loop-kind.invariant _ _ c.in_ok-kind.ensures c.if-kind-eq-END.true)

pub types_len-returns-then-left-eq0 : goal.types_len-returns-then-left-eq0
types_len-returns-then-left-eq0 t c =
    let a = c.args in
    passes.sized (type_to a.names a.level) a.kinds.now a.words.now None
    (passes.list_full never (type_to a.names a.level) (length (entries a.kinds.now a.words.now)) a.kinds.now a.words.now _ _ _ c.loop-kind.invariant _ _ c.in_ok-kind.ensures c.if-kind-eq-END.false c.if-left-eq0.true)

pub types_len-returns-in_err-at : goal.types_len-returns-in_err-at
types_len-returns-in_err-at t c =
    let a = c.args in
    c.from_residual-in_err-at.ensures ∙ passes.sized (type_to a.names a.level) a.kinds.now a.words.now None
    (passes.list_bad never (type_to a.names a.level) (length (entries a.kinds.now a.words.now)) a.kinds.now a.words.now _ _ _ c.loop-kind.invariant _ _ c.in_ok-kind.ensures c.if-kind-eq-END.false
    (passes.plain_is _ None c.in_err-at.ensures))

pub types_len-overflow_add-at-in-loop-kind : goal.types_len-overflow_add-at-in-loop-kind
types_len-overflow_add-at-in-loop-kind t c =
    let a = c.args in
    omega (arith, laws.within_kinds (c.loop-kind.at + c.in_ok-at.field-0) _ _ (laws.lent_fits (agrees_type_to _ _) a.kinds.now a.words.now _ _ c.loop-kind.invariant.there c.in_ok-at.ensures))

pub types_len-loop-kind-preserved : goal.types_len-loop-kind-preserved
types_len-loop-kind-preserved t c =
    let a = c.args in
    passes.list_next never (type_to a.names a.level) (length (entries a.kinds.now a.words.now)) a.kinds.now a.words.now _ _ _ c.loop-kind.invariant _ _ c.in_ok-kind.ensures c.if-kind-eq-END.false
    (agrees_type_to _ _) (plain c.in_ok-at.field-0) (passes.plain_is _ (Some c.in_ok-at.field-0) c.in_ok-at.ensures) c.if-left-eq0.false

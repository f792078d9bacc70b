use Rattle.layout_memo.specs.Calls as calls
use Rattle.layout_align.specs.LoopCalls as lc
use Rattle.layout_memo.specs.FieldCalls as fields
use Rattle.layout_memo.specs.Scalars.{passes_from, reach_none}
use borrow.Author.Rules.{rules}
use Rattle.std.proofs.lemmas.Result.{err_from_is_err_and}
use Rattle.std.proofs.Common.{⊎_elim, sym, ◌∙◌}
use native.Mathlib.Omega.{arith}
use Rattle.book.specs.Entry.{entries}
use Rattle.layout_align.proofs.+align_of_named_align_struct_align.Goals as goal

pub align_of-returns-then-level-eq0 : goal.align_of-returns-then-level-eq0
align_of-returns-then-level-eq0 t c = calls.align_none _ _ _ _ _ _ c.requires c.if-level-eq0.true

pub align_of-bounds-words-0 : goal.align_of-bounds-words-0
align_of-bounds-words-0 t c = let h = calls.words_there _ _ _ _ _ _ c.requires in search rules

pub align_of-bounds-kinds-0 : goal.align_of-bounds-kinds-0
align_of-bounds-kinds-0 t c = let h = calls.kinds_there _ _ _ _ _ _ c.requires in search rules

pub align_of-overflow_add-word : goal.align_of-overflow_add-word
align_of-overflow_add-word t c =
    omega (arith, calls.int_width_lem _ _ _ _ _ _ c.requires _ c.type_group.ensures c.in-Int.is)

pub align_of-slice_bounds-align_of-count : goal.align_of-slice_bounds-align_of-count
align_of-slice_bounds-align_of-count t c = let h = calls.kinds_there _ _ _ _ _ _ c.requires in search rules

pub align_of-slice_bounds-align_of-start : goal.align_of-slice_bounds-align_of-start
align_of-slice_bounds-align_of-start t c = let h = calls.kinds_there _ _ _ _ _ _ c.requires in search rules

pub align_of-slice_bounds-align_of-count-in-Array : goal.align_of-slice_bounds-align_of-count-in-Array
align_of-slice_bounds-align_of-count-in-Array t c = let h = calls.words_there _ _ _ _ _ _ c.requires in search rules

pub align_of-slice_bounds-align_of-start-in-Array : goal.align_of-slice_bounds-align_of-start-in-Array
align_of-slice_bounds-align_of-start-in-Array t c = let h = calls.words_there _ _ _ _ _ _ c.requires in search rules

pub align_of-align_of-requires : goal.align_of-align_of-requires
align_of-align_of-requires t c =
    (omega arith, calls.array_ask _ _ _ _ _ _ c.requires _ c.type_group.ensures _ c.in-Array.is)

pub align_of-one_more-requires : goal.align_of-one_more-requires
align_of-one_more-requires t c =
    calls.outcome_few (omega (arith, c.requires.levels)) c.align_of.ensures

pub align_of-named_align-requires : goal.align_of-named_align-requires
align_of-named_align-requires t c = (
  omega arith,
  calls.named_ask _ _ _ _ _ _ c.requires _ c.type_group.ensures c.if-level-eq0.false
      c.in-Named.is,
)

pub align_of-slice_bounds-struct_align-count : goal.align_of-slice_bounds-struct_align-count
align_of-slice_bounds-struct_align-count t c = let h = calls.kinds_there _ _ _ _ _ _ c.requires in search rules

pub align_of-slice_bounds-struct_align-start : goal.align_of-slice_bounds-struct_align-start
align_of-slice_bounds-struct_align-start t c = let h = calls.kinds_there _ _ _ _ _ _ c.requires in search rules

pub align_of-slice_bounds-struct_align-count-in-Struct : goal.align_of-slice_bounds-struct_align-count-in-Struct
align_of-slice_bounds-struct_align-count-in-Struct t c =
    let h = calls.words_there _ _ _ _ _ _ c.requires in
    search rules

pub align_of-slice_bounds-struct_align-start-in-Struct : goal.align_of-slice_bounds-struct_align-start-in-Struct
align_of-slice_bounds-struct_align-start-in-Struct t c =
    let h = calls.words_there _ _ _ _ _ _ c.requires in
    search rules

pub align_of-struct_align-requires : goal.align_of-struct_align-requires
align_of-struct_align-requires t c =
    (omega arith, calls.struct_ask _ _ _ _ _ _ c.requires _ c.type_group.ensures _ c.in-Struct.is)

pub align_of-one_more-requires-in-Struct : goal.align_of-one_more-requires-in-Struct
align_of-one_more-requires-in-Struct t c =
    calls.outcome_few (omega (arith, c.requires.levels)) c.struct_align.ensures

pub align_of-returns-in-Void : goal.align_of-returns-in-Void
align_of-returns-in-Void t c =
    rw c.one_level.ensures
    (calls.align_void _ _ _ _ _ _ c.requires _ c.type_group.ensures c.if-level-eq0.false c.in-Void.is)

pub align_of-returns-in-Int : goal.align_of-returns-in-Int
align_of-returns-in-Int t c =
    rw c.one_level-in-Int.ensures
    (calls.align_int _ _ _ _ _ _ c.requires _ c.type_group.ensures c.if-level-eq0.false c.in-Int.is)

pub align_of-returns-in-Ptr : goal.align_of-returns-in-Ptr
align_of-returns-in-Ptr t c =
    rw c.one_level-in-Ptr.ensures
    (calls.align_ptr _ _ _ _ _ _ c.requires _ c.type_group.ensures c.if-level-eq0.false c.in-Ptr.is)

pub align_of-returns-in-Array : goal.align_of-returns-in-Array
align_of-returns-in-Array t c =
    calls.align_array _ _ _ _ _ _ c.requires _ c.type_group.ensures c.if-level-eq0.false _
    c.in-Array.is c.align_of.ensures _ c.one_more.ensures

pub align_of-returns-in-Named : goal.align_of-returns-in-Named
align_of-returns-in-Named t c =
    calls.align_named _ _ _ _ _ _ c.requires _ c.type_group.ensures c.if-level-eq0.false
    c.in-Named.is c.named_align.ensures

pub align_of-returns-in-Struct : goal.align_of-returns-in-Struct
align_of-returns-in-Struct t c =
    calls.align_struct _ _ _ _ _ _ c.requires _ c.type_group.ensures c.if-level-eq0.false _ c.in-Struct.is
    c.struct_align.ensures _ c.one_more-in-Struct.ensures

pub align_of-returns-in-Sizeless : goal.align_of-returns-in-Sizeless
align_of-returns-in-Sizeless t c =
    ⊎_elim
    (λ e. calls.align_sizeless _ _ _ _ _ _ c.requires _ c.type_group.ensures c.if-level-eq0.false e)
    (λ e. calls.other _ _ _ _ _ _ c.requires _ c.type_group.ensures c.if-level-eq0.false e) c.in-Sizeless.is

pub named_align-returns-then-part-ne0 : goal.named_align-returns-then-part-ne0
named_align-returns-then-part-ne0 t c = calls.align_recalled _ _ _ _ _ _ c.requires c.if-part-ne0.true _ c.recalled.ensures

pub named_align-returns-then-body-eq0 : goal.named_align-returns-then-body-eq0
named_align-returns-then-body-eq0 t c = calls.align_absent _ _ _ _ _ _ c.requires c.if-body-eq0.true

pub named_align-offset_bounds-book_kinds-from : goal.named_align-offset_bounds-book_kinds-from
named_align-offset_bounds-book_kinds-from t c = let h = calls.body_kinds _ _ _ _ _ _ c.requires c.if-body-eq0.false in search rules

pub named_align-slice_bounds-align_of-count : goal.named_align-slice_bounds-align_of-count
named_align-slice_bounds-align_of-count t c = let h = calls.body_kinds _ _ _ _ _ _ c.requires c.if-body-eq0.false in search rules

pub named_align-slice_bounds-align_of-start : goal.named_align-slice_bounds-align_of-start
named_align-slice_bounds-align_of-start t c = let h = calls.body_kinds _ _ _ _ _ _ c.requires c.if-body-eq0.false in search rules

pub named_align-offset_bounds-book_words-from : goal.named_align-offset_bounds-book_words-from
named_align-offset_bounds-book_words-from t c = let h = calls.body_words _ _ _ _ _ _ c.requires c.if-body-eq0.false in search rules

pub named_align-slice_bounds-align_of-count-2 : goal.named_align-slice_bounds-align_of-count-2
named_align-slice_bounds-align_of-count-2 t c = let h = calls.body_words _ _ _ _ _ _ c.requires c.if-body-eq0.false in search rules

pub named_align-slice_bounds-align_of-start-2 : goal.named_align-slice_bounds-align_of-start-2
named_align-slice_bounds-align_of-start-2 t c = let h = calls.body_words _ _ _ _ _ _ c.requires c.if-body-eq0.false in search rules

pub named_align-align_of-requires : goal.named_align-align_of-requires
named_align-align_of-requires t c =
    (omega arith, calls.body_ask _ _ _ _ _ _ c.requires c.if-body-eq0.false)

pub named_align-one_more-requires : goal.named_align-one_more-requires
named_align-one_more-requires t c =
    calls.outcome_few (omega (arith, c.requires.levels)) c.align_of.ensures

pub named_align-returns-in_err-r : goal.named_align-returns-in_err-r
named_align-returns-in_err-r t c =
    let p = err_from_is_err_and c.from_residual.result c.from_residual.ensures.1 in
    rw (p.1, p.2)
    (calls.align_kept _ _ _ _ _ _ c.requires c.if-body-eq0.false _ (sym c.in_err-r.was ∙ c.one_more.ensures) c.align_of.ensures)

pub named_align-with_align-requires : goal.named_align-with_align-requires
named_align-with_align-requires t c =
    calls.align_body_small _ _ _ _ _ _ c.requires c.if-body-eq0.false _ (sym c.in_ok-r.was ∙ c.one_more.ensures) c.align_of.ensures

pub named_align-returns : goal.named_align-returns
named_align-returns t c =
    calls.align_stored _ _ _ _ _ _ c.requires c.if-body-eq0.false _ (sym c.in_ok-r.was ∙ c.one_more.ensures) c.align_of.ensures _
    c.with_align.ensures

pub struct_align-returns-then-packed : goal.struct_align-returns-then-packed
struct_align-returns-then-packed t c =
    lc.align_packed c.args.names c.args.kinds.now c.args.words.now
    (entries c.args.book_kinds.now c.args.book_words.now) c.args.work.now c.args.level c.args.packed
    c.requires c.if-packed.true

pub struct_align-pass_scalars-first-requires : goal.struct_align-pass_scalars-first-requires
struct_align-pass_scalars-first-requires t c =
    let start = lc.align_start c.args.names c.args.kinds.now c.args.words.now
    (entries c.args.book_kinds.now c.args.book_words.now) c.args.work.now c.args.level c.args.packed
    c.requires in
    lc.align_from c.args.names c.args.kinds.now c.args.words.now
    (entries c.args.book_kinds.now c.args.book_words.now) c.args.work.now c.args.level c.args.packed
    start _ c.run_from.ensures

pub struct_align-loop-at-init : goal.struct_align-loop-at-init
struct_align-loop-at-init t c =
    let start = lc.align_start c.args.names c.args.kinds.now c.args.words.now
    (entries c.args.book_kinds.now c.args.book_words.now) c.args.work.now c.args.level c.args.packed
    c.requires in
    lc.align_again c.args.names c.args.kinds.now c.args.words.now
    (entries c.args.book_kinds.now c.args.book_words.now) c.args.work.now c.args.level c.args.packed
    start _ _ c.run_from.ensures (reach_none _ _ _ c.reach-stop.ensures) c.pass_scalars-first.ensures

pub struct_align-bounds-kinds-at : goal.struct_align-bounds-kinds-at
struct_align-bounds-kinds-at t c =
    let h = fields.place_kinds c.args.names c.args.kinds.now c.args.words.now _ c.loop-at.invariant.0.place in
    search rules

pub struct_align-slice_bounds-ks-count : goal.struct_align-slice_bounds-ks-count
struct_align-slice_bounds-ks-count t c =
    let h = fields.place_kinds c.args.names c.args.kinds.now c.args.words.now _ c.loop-at.invariant.0.place in
    search rules

pub struct_align-slice_bounds-ks-start : goal.struct_align-slice_bounds-ks-start
struct_align-slice_bounds-ks-start t c =
    let h = fields.place_kinds c.args.names c.args.kinds.now c.args.words.now _ c.loop-at.invariant.0.place in
    search rules

pub struct_align-slice_bounds-ws-count : goal.struct_align-slice_bounds-ws-count
struct_align-slice_bounds-ws-count t c =
    let h = fields.place_words c.args.names c.args.kinds.now c.args.words.now _ c.loop-at.invariant.0.place in
    search rules

pub struct_align-slice_bounds-ws-start : goal.struct_align-slice_bounds-ws-start
struct_align-slice_bounds-ws-start t c =
    let h = fields.place_words c.args.names c.args.kinds.now c.args.words.now _ c.loop-at.invariant.0.place in
    search rules

pub struct_align-align_of-requires : goal.struct_align-align_of-requires
struct_align-align_of-requires t c = (
  omega arith,
  lc.align_ask c.args.names c.args.kinds.now c.args.words.now
      (entries c.args.book_kinds.now c.args.book_words.now) c.args.work.now c.args.level
      c.args.packed c.loop-at.invariant c.loop-at-test.true c.requires.levels,
)

pub struct_align-returns-in_err-field : goal.struct_align-returns-in_err-field
struct_align-returns-in_err-field t c =
    let p = err_from_is_err_and c.from_residual.result c.from_residual.ensures.1 in
    rw (p.1, p.2)
    (lc.align_refused c.args.names c.args.kinds.now c.args.words.now
    (entries c.args.book_kinds.now c.args.book_words.now) c.args.work.now c.args.level c.args.packed
    c.loop-at.invariant c.loop-at-test.true c.align_of.ensures c.if-packed.false _ c.in_err-field.was)

pub struct_align-type_end-requires : goal.struct_align-type_end-requires
struct_align-type_end-requires t c =
    fields.place_starts c.args.names c.args.kinds.now c.args.words.now _ c.loop-at.invariant.0.place c.loop-at-test.true

pub struct_align-overflow_add-behind : goal.struct_align-overflow_add-behind
struct_align-overflow_add-behind t c =
    let h = fields.place_next c.args.names c.args.kinds.now c.args.words.now _ c.loop-at.invariant.0.place
    c.loop-at-test.true _ c.type_end.ensures in
    search rules

pub struct_align-pass_scalars-run-requires : goal.struct_align-pass_scalars-run-requires
struct_align-pass_scalars-run-requires t c =
    let next = lc.align_next c.args.names c.args.kinds.now c.args.words.now
    (entries c.args.book_kinds.now c.args.book_words.now) c.args.work.now c.args.level c.args.packed
    c.loop-at.invariant c.loop-at-test.true c.align_of.ensures _ _ c.in_ok-field.was _ c.type_end.ensures _ _
    c.max-most.ensures c.max.ensures in
    lc.align_from c.args.names c.args.kinds.now c.args.words.now
    (entries c.args.book_kinds.now c.args.book_words.now) c.args.work.now c.args.level c.args.packed
    next _ c.run_from-next.ensures

pub struct_align-loop-at-smaller : goal.struct_align-loop-at-smaller
struct_align-loop-at-smaller t c =
    let h = fields.place_kinds c.args.names c.args.kinds.now c.args.words.now _ c.loop-at.invariant.0.place in
    let g = fields.place_moves c.args.names c.args.kinds.now c.args.words.now _ c.loop-at.invariant.0.place
    c.loop-at-test.true _ c.type_end.ensures in
    omega (arith, passes_from _ _ c.run_from-next.ensures c.pass_scalars-run.ensures)

pub struct_align-loop-at-preserved : goal.struct_align-loop-at-preserved
struct_align-loop-at-preserved t c =
    let next = lc.align_next c.args.names c.args.kinds.now c.args.words.now
    (entries c.args.book_kinds.now c.args.book_words.now) c.args.work.now c.args.level c.args.packed
    c.loop-at.invariant c.loop-at-test.true c.align_of.ensures _ _ c.in_ok-field.was _ c.type_end.ensures _ _
    c.max-most.ensures c.max.ensures in
    lc.align_again c.args.names c.args.kinds.now c.args.words.now
    (entries c.args.book_kinds.now c.args.book_words.now) c.args.work.now c.args.level c.args.packed
    next _ _ c.run_from-next.ensures (reach_none _ _ _ c.reach-stop.ensures) c.pass_scalars-run.ensures

pub struct_align-returns : goal.struct_align-returns
struct_align-returns t c =
    lc.align_done c.args.names c.args.kinds.now c.args.words.now
    (entries c.args.book_kinds.now c.args.book_words.now) c.args.work.now c.args.level c.args.packed
    c.loop-at.invariant c.if-packed.false c.loop-at-test.false

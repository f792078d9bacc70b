use Rattle.layout_memo.specs.Calls as calls
use Rattle.layout_size.specs.LoopCalls as lc
use Rattle.layout_memo.specs.FieldCalls as fields
use Rattle.layout_memo.specs.Scalars.{passes_from, reach_none}
use borrow.Author.Rules.{rules}
use Rattle.std.proofs.lemmas.Result.{err_from_is_err_and}
use Rattle.std.proofs.Common.{⊎_elim, sym, ◌∙◌}
use native.Mathlib.Omega.{arith}
use lib.ListN.{get_or}
use Rattle.book.specs.Entry.{entries}
use Rattle.layout_size.proofs.+named_size_size_of_struct_size.Goals as goal

pub named_size-returns-then-part-ne0 : goal.named_size-returns-then-part-ne0
named_size-returns-then-part-ne0 t c = calls.size_recalled _ _ _ _ _ _ c.requires c.if-part-ne0.true _ c.recalled.ensures

pub named_size-returns-then-body-eq0 : goal.named_size-returns-then-body-eq0
named_size-returns-then-body-eq0 t c = calls.size_absent _ _ _ _ _ _ c.requires c.if-body-eq0.true

pub named_size-offset_bounds-book_kinds-from : goal.named_size-offset_bounds-book_kinds-from
named_size-offset_bounds-book_kinds-from t c = let h = calls.body_kinds _ _ _ _ _ _ c.requires c.if-body-eq0.false in search rules

pub named_size-slice_bounds-size_of-count : goal.named_size-slice_bounds-size_of-count
named_size-slice_bounds-size_of-count t c = let h = calls.body_kinds _ _ _ _ _ _ c.requires c.if-body-eq0.false in search rules

pub named_size-slice_bounds-size_of-start : goal.named_size-slice_bounds-size_of-start
named_size-slice_bounds-size_of-start t c = let h = calls.body_kinds _ _ _ _ _ _ c.requires c.if-body-eq0.false in search rules

pub named_size-offset_bounds-book_words-from : goal.named_size-offset_bounds-book_words-from
named_size-offset_bounds-book_words-from t c = let h = calls.body_words _ _ _ _ _ _ c.requires c.if-body-eq0.false in search rules

pub named_size-slice_bounds-size_of-count-2 : goal.named_size-slice_bounds-size_of-count-2
named_size-slice_bounds-size_of-count-2 t c = let h = calls.body_words _ _ _ _ _ _ c.requires c.if-body-eq0.false in search rules

pub named_size-slice_bounds-size_of-start-2 : goal.named_size-slice_bounds-size_of-start-2
named_size-slice_bounds-size_of-start-2 t c = let h = calls.body_words _ _ _ _ _ _ c.requires c.if-body-eq0.false in search rules

pub named_size-size_of-requires : goal.named_size-size_of-requires
named_size-size_of-requires t c =
    (omega arith, calls.body_ask _ _ _ _ _ _ c.requires c.if-body-eq0.false)

pub named_size-one_more-requires : goal.named_size-one_more-requires
named_size-one_more-requires t c =
    calls.outcome_few (omega (arith, c.requires.levels)) c.size_of.ensures

pub named_size-returns-in_err-r : goal.named_size-returns-in_err-r
named_size-returns-in_err-r t c =
    let p = err_from_is_err_and c.from_residual.result c.from_residual.ensures.1 in
    rw (p.1, p.2)
    (calls.size_kept _ _ _ _ _ _ c.requires c.if-body-eq0.false _ (sym c.in_err-r.was ∙ c.one_more.ensures) c.size_of.ensures)

pub named_size-with_size-requires : goal.named_size-with_size-requires
named_size-with_size-requires t c =
    calls.size_body_small _ _ _ _ _ _ c.requires c.if-body-eq0.false _ (sym c.in_ok-r.was ∙ c.one_more.ensures) c.size_of.ensures

pub named_size-returns : goal.named_size-returns
named_size-returns t c =
    calls.size_stored _ _ _ _ _ _ c.requires c.if-body-eq0.false _ (sym c.in_ok-r.was ∙ c.one_more.ensures) c.size_of.ensures _
    c.with_size.ensures

pub size_of-returns-then-level-eq0 : goal.size_of-returns-then-level-eq0
size_of-returns-then-level-eq0 t c = calls.size_none _ _ _ _ _ _ c.requires c.if-level-eq0.true

pub size_of-bounds-words-0 : goal.size_of-bounds-words-0
size_of-bounds-words-0 t c = let h = calls.words_there _ _ _ _ _ _ c.requires in search rules

pub size_of-bounds-kinds-0 : goal.size_of-bounds-kinds-0
size_of-bounds-kinds-0 t c = let h = calls.kinds_there _ _ _ _ _ _ c.requires in search rules

pub size_of-overflow_add-word : goal.size_of-overflow_add-word
size_of-overflow_add-word t c =
    omega (arith, calls.int_width_lem _ _ _ _ _ _ c.requires _ c.type_group.ensures c.in-Int.is)

pub size_of-slice_bounds-size_of-count : goal.size_of-slice_bounds-size_of-count
size_of-slice_bounds-size_of-count t c = let h = calls.kinds_there _ _ _ _ _ _ c.requires in search rules

pub size_of-slice_bounds-size_of-start : goal.size_of-slice_bounds-size_of-start
size_of-slice_bounds-size_of-start t c = let h = calls.kinds_there _ _ _ _ _ _ c.requires in search rules

pub size_of-slice_bounds-size_of-count-in-Array : goal.size_of-slice_bounds-size_of-count-in-Array
size_of-slice_bounds-size_of-count-in-Array t c = let h = calls.words_there _ _ _ _ _ _ c.requires in search rules

pub size_of-slice_bounds-size_of-start-in-Array : goal.size_of-slice_bounds-size_of-start-in-Array
size_of-slice_bounds-size_of-start-in-Array t c = let h = calls.words_there _ _ _ _ _ _ c.requires in search rules

pub size_of-size_of-requires : goal.size_of-size_of-requires
size_of-size_of-requires t c =
    (omega arith, calls.array_ask _ _ _ _ _ _ c.requires _ c.type_group.ensures _ c.in-Array.is)

pub size_of-one_more-requires : goal.size_of-one_more-requires
size_of-one_more-requires t c =
    calls.times_few (get_or c.args.words.now 0 0) c.size_of.result _ c.array_bytes.ensures
    (calls.outcome_few (omega (arith, c.requires.levels)) c.size_of.ensures)

pub size_of-named_size-requires : goal.size_of-named_size-requires
size_of-named_size-requires t c = (
  omega arith,
  calls.named_ask _ _ _ _ _ _ c.requires _ c.type_group.ensures c.if-level-eq0.false
      c.in-Named.is,
)

pub size_of-slice_bounds-struct_size-count : goal.size_of-slice_bounds-struct_size-count
size_of-slice_bounds-struct_size-count t c = let h = calls.kinds_there _ _ _ _ _ _ c.requires in search rules

pub size_of-slice_bounds-struct_size-start : goal.size_of-slice_bounds-struct_size-start
size_of-slice_bounds-struct_size-start t c = let h = calls.kinds_there _ _ _ _ _ _ c.requires in search rules

pub size_of-slice_bounds-struct_size-count-in-Struct : goal.size_of-slice_bounds-struct_size-count-in-Struct
size_of-slice_bounds-struct_size-count-in-Struct t c =
    let h = calls.words_there _ _ _ _ _ _ c.requires in
    search rules

pub size_of-slice_bounds-struct_size-start-in-Struct : goal.size_of-slice_bounds-struct_size-start-in-Struct
size_of-slice_bounds-struct_size-start-in-Struct t c =
    let h = calls.words_there _ _ _ _ _ _ c.requires in
    search rules

pub size_of-struct_size-requires : goal.size_of-struct_size-requires
size_of-struct_size-requires t c =
    (omega arith, calls.struct_ask _ _ _ _ _ _ c.requires _ c.type_group.ensures _ c.in-Struct.is)

pub size_of-one_more-requires-in-Struct : goal.size_of-one_more-requires-in-Struct
size_of-one_more-requires-in-Struct t c =
    calls.outcome_few (omega (arith, c.requires.levels)) c.struct_size.ensures

pub size_of-returns-in-Void : goal.size_of-returns-in-Void
size_of-returns-in-Void t c =
    rw c.one_level.ensures
    (calls.size_void _ _ _ _ _ _ c.requires _ c.type_group.ensures c.if-level-eq0.false c.in-Void.is)

pub size_of-returns-in-Int : goal.size_of-returns-in-Int
size_of-returns-in-Int t c =
    rw c.one_level-in-Int.ensures
    (calls.size_int _ _ _ _ _ _ c.requires _ c.type_group.ensures c.if-level-eq0.false c.in-Int.is)

pub size_of-returns-in-Ptr : goal.size_of-returns-in-Ptr
size_of-returns-in-Ptr t c =
    rw c.one_level-in-Ptr.ensures
    (calls.size_ptr _ _ _ _ _ _ c.requires _ c.type_group.ensures c.if-level-eq0.false c.in-Ptr.is)

pub size_of-returns-in-Array : goal.size_of-returns-in-Array
size_of-returns-in-Array t c =
    calls.size_array _ _ _ _ _ _ c.requires _ c.type_group.ensures c.if-level-eq0.false _
    c.in-Array.is c.size_of.ensures _ c.array_bytes.ensures _ c.one_more.ensures

pub size_of-returns-in-Named : goal.size_of-returns-in-Named
size_of-returns-in-Named t c =
    calls.size_named _ _ _ _ _ _ c.requires _ c.type_group.ensures c.if-level-eq0.false c.in-Named.is
    c.named_size.ensures

pub size_of-returns-in-Struct : goal.size_of-returns-in-Struct
size_of-returns-in-Struct t c =
    calls.size_struct _ _ _ _ _ _ c.requires _ c.type_group.ensures c.if-level-eq0.false _ c.in-Struct.is
    c.struct_size.ensures _ c.one_more-in-Struct.ensures

pub size_of-returns-in-Sizeless : goal.size_of-returns-in-Sizeless
size_of-returns-in-Sizeless t c =
    ⊎_elim
    (λ e. calls.size_sizeless _ _ _ _ _ _ c.requires _ c.type_group.ensures c.if-level-eq0.false e)
    (λ e. calls.other _ _ _ _ _ _ c.requires _ c.type_group.ensures c.if-level-eq0.false e) c.in-Sizeless.is

pub struct_size-pass_scalars-first-requires : goal.struct_size-pass_scalars-first-requires
struct_size-pass_scalars-first-requires t c =
    let start = lc.size_start c.args.names c.args.kinds.now c.args.words.now
    (entries c.args.book_kinds.now c.args.book_words.now) c.args.work.now c.args.level c.args.packed
    c.requires.levels c.requires in
    lc.size_from_lem c.args.names c.args.kinds.now c.args.words.now
    (entries c.args.book_kinds.now c.args.book_words.now) c.args.work.now c.args.level c.args.packed
    c.requires.levels start _ c.run_from.ensures

pub struct_size-loop-at-init : goal.struct_size-loop-at-init
struct_size-loop-at-init t c =
    let start = lc.size_start c.args.names c.args.kinds.now c.args.words.now
    (entries c.args.book_kinds.now c.args.book_words.now) c.args.work.now c.args.level c.args.packed
    c.requires.levels c.requires in (
      c.requires.levels,
      lc.size_again c.args.names c.args.kinds.now c.args.words.now
          (entries c.args.book_kinds.now c.args.book_words.now) c.args.work.now c.args.level
          c.args.packed c.requires.levels start _ _ c.run_from.ensures (reach_none _ _ _ c.reach-stop.ensures) c.pass_scalars-first.ensures,
    )

pub struct_size-bounds-kinds-at : goal.struct_size-bounds-kinds-at
struct_size-bounds-kinds-at t c =
    let h = fields.place_kinds c.args.names c.args.kinds.now c.args.words.now _ c.loop-at.invariant.1.0.place in
    search rules

pub struct_size-slice_bounds-ks-count : goal.struct_size-slice_bounds-ks-count
struct_size-slice_bounds-ks-count t c =
    let h = fields.place_kinds c.args.names c.args.kinds.now c.args.words.now _ c.loop-at.invariant.1.0.place in
    search rules

pub struct_size-slice_bounds-ks-start : goal.struct_size-slice_bounds-ks-start
struct_size-slice_bounds-ks-start t c =
    let h = fields.place_kinds c.args.names c.args.kinds.now c.args.words.now _ c.loop-at.invariant.1.0.place in
    search rules

pub struct_size-slice_bounds-ws-count : goal.struct_size-slice_bounds-ws-count
struct_size-slice_bounds-ws-count t c =
    let h = fields.place_words c.args.names c.args.kinds.now c.args.words.now _ c.loop-at.invariant.1.0.place in
    search rules

pub struct_size-slice_bounds-ws-start : goal.struct_size-slice_bounds-ws-start
struct_size-slice_bounds-ws-start t c =
    let h = fields.place_words c.args.names c.args.kinds.now c.args.words.now _ c.loop-at.invariant.1.0.place in
    search rules

pub struct_size-align_of-requires : goal.struct_size-align_of-requires
struct_size-align_of-requires t c =
    lc.size_align_ask c.args.names c.args.kinds.now c.args.words.now
    (entries c.args.book_kinds.now c.args.book_words.now) c.args.work.now c.args.level c.args.packed
    c.loop-at.invariant.0 c.loop-at.invariant.1 c.loop-at-test.true

pub struct_size-returns-in_err-a : goal.struct_size-returns-in_err-a
struct_size-returns-in_err-a t c =
    let p = err_from_is_err_and c.from_residual.result c.from_residual.ensures.1 in
    rw (p.1, p.2)
    (lc.size_align_refused c.args.names c.args.kinds.now c.args.words.now
    (entries c.args.book_kinds.now c.args.book_words.now) c.args.work.now c.args.level c.args.packed
    c.loop-at.invariant.0 c.loop-at.invariant.1 c.loop-at-test.true c.align_of.ensures _ c.in_err-a.was)

pub struct_size-size_of-requires : goal.struct_size-size_of-requires
struct_size-size_of-requires t c = (
  omega arith,
  lc.size_ask c.args.names c.args.kinds.now c.args.words.now
      (entries c.args.book_kinds.now c.args.book_words.now) c.args.work.now c.args.level
      c.args.packed c.loop-at.invariant.0 c.loop-at.invariant.1 c.loop-at-test.true c.align_of.ensures,
)

pub struct_size-shape_of-work-in_err-s : goal.struct_size-shape_of-work-in_err-s
struct_size-shape_of-work-in_err-s t c =
    let h = c.loop-at.invariant.1.1.kept.long in
    let g = c.align_of.ensures.after.kept.long in
    let f = c.size_of.ensures.after.kept.long in
    search rules

pub struct_size-returns-in_err-s : goal.struct_size-returns-in_err-s
struct_size-returns-in_err-s t c =
    let p = err_from_is_err_and c.from_residual-in_err-s.result c.from_residual-in_err-s.ensures.1 in
    rw (p.1, p.2)
    (lc.size_refused c.args.names c.args.kinds.now c.args.words.now
    (entries c.args.book_kinds.now c.args.book_words.now) c.args.work.now c.args.level c.args.packed
    c.loop-at.invariant.0 c.loop-at.invariant.1 c.loop-at-test.true c.align_of.ensures _ _ c.in_ok-a.was
    c.size_of.ensures _ c.in_err-s.was)

pub struct_size-add_field-sum-requires : goal.struct_size-add_field-sum-requires
struct_size-add_field-sum-requires t c =
    lc.field_small c.args.names c.args.kinds.now c.args.words.now
    (entries c.args.book_kinds.now c.args.book_words.now) c.args.work.now c.args.level c.args.packed
    c.loop-at.invariant.0 c.loop-at.invariant.1 c.loop-at-test.true c.align_of.ensures _ _ c.in_ok-a.was
    c.size_of.ensures _ _ c.in_ok-s.was

pub struct_size-type_end-requires : goal.struct_size-type_end-requires
struct_size-type_end-requires t c =
    fields.place_starts c.args.names c.args.kinds.now c.args.words.now _ c.loop-at.invariant.1.0.place c.loop-at-test.true

pub struct_size-overflow_add-behind : goal.struct_size-overflow_add-behind
struct_size-overflow_add-behind t c =
    omega (
      arith,
      fields.next_few c.args.names c.args.kinds.now c.args.words.now _ c.loop-at.invariant.1.0.place
          c.loop-at-test.true _ c.type_end.ensures,
    )

pub struct_size-pass_scalars-run-requires : goal.struct_size-pass_scalars-run-requires
struct_size-pass_scalars-run-requires t c =
    let next = lc.size_next c.args.names c.args.kinds.now c.args.words.now
    (entries c.args.book_kinds.now c.args.book_words.now) c.args.work.now c.args.level c.args.packed
    c.loop-at.invariant.0 c.loop-at.invariant.1 c.loop-at-test.true c.align_of.ensures _ _ c.in_ok-a.was
    c.size_of.ensures _ _ c.in_ok-s.was _ c.type_end.ensures _ c.add_field-sum.ensures in
    lc.size_from_lem c.args.names c.args.kinds.now c.args.words.now
    (entries c.args.book_kinds.now c.args.book_words.now) c.args.work.now c.args.level c.args.packed
    c.loop-at.invariant.0 next _ c.run_from-next.ensures

pub struct_size-loop-at-smaller : goal.struct_size-loop-at-smaller
struct_size-loop-at-smaller t c =
    let h = fields.place_kinds c.args.names c.args.kinds.now c.args.words.now _ c.loop-at.invariant.1.0.place in
    let g = fields.place_moves c.args.names c.args.kinds.now c.args.words.now _ c.loop-at.invariant.1.0.place
    c.loop-at-test.true _ c.type_end.ensures in
    omega (arith, passes_from _ _ c.run_from-next.ensures c.pass_scalars-run.ensures)

pub struct_size-loop-at-preserved : goal.struct_size-loop-at-preserved
struct_size-loop-at-preserved t c =
    let next = lc.size_next c.args.names c.args.kinds.now c.args.words.now
    (entries c.args.book_kinds.now c.args.book_words.now) c.args.work.now c.args.level c.args.packed
    c.loop-at.invariant.0 c.loop-at.invariant.1 c.loop-at-test.true c.align_of.ensures _ _ c.in_ok-a.was
    c.size_of.ensures _ _ c.in_ok-s.was _ c.type_end.ensures _ c.add_field-sum.ensures in (
      c.loop-at.invariant.0,
      lc.size_again c.args.names c.args.kinds.now c.args.words.now
          (entries c.args.book_kinds.now c.args.book_words.now) c.args.work.now c.args.level
          c.args.packed c.loop-at.invariant.0 next _ _ c.run_from-next.ensures (reach_none _ _ _ c.reach-stop.ensures)
          c.pass_scalars-run.ensures,
    )

pub struct_size-returns : goal.struct_size-returns
struct_size-returns t c =
    lc.size_done c.args.names c.args.kinds.now c.args.words.now
    (entries c.args.book_kinds.now c.args.book_words.now) c.args.work.now c.args.level c.args.packed
    c.loop-at.invariant.0 c.loop-at.invariant.1 c.loop-at-test.false _ c.closed.ensures

-- `layout_table::next_field` meets its contract.
use native.Mathlib.Omega.{arith}
use Rattle.layout_memo.specs.Work.{after_none, after_then}
use Rattle.layout_memo.specs.FieldCalls as fields
use Rattle.layout_table.specs.Known as laws
use borrow.Author.Rules.{rules}
use Rattle.layout_table.proofs.next_field.Goals as goal

pub bounds-book_kinds-at : goal.bounds-book_kinds-at
bounds-book_kinds-at c =
    let h = fields.place_kinds _ _ _ _ (laws.known_place _ _ _ _ _ _ c.requires) in
    search rules

pub slice_bounds-ks-count : goal.slice_bounds-ks-count
slice_bounds-ks-count c =
    let h = fields.place_kinds _ _ _ _ (laws.known_place _ _ _ _ _ _ c.requires) in
    search rules

pub slice_bounds-ks-start : goal.slice_bounds-ks-start
slice_bounds-ks-start c =
    let h = fields.place_kinds _ _ _ _ (laws.known_place _ _ _ _ _ _ c.requires) in
    search rules

pub slice_bounds-ws-count : goal.slice_bounds-ws-count
slice_bounds-ws-count c =
    let h = fields.place_words _ _ _ _ (laws.known_place _ _ _ _ _ _ c.requires) in
    search rules

pub slice_bounds-ws-start : goal.slice_bounds-ws-start
slice_bounds-ws-start c =
    let h = fields.place_words _ _ _ _ (laws.known_place _ _ _ _ _ _ c.requires) in
    search rules

pub field_start-requires : goal.field_start-requires
field_start-requires c =
    laws.start_ask _ _ _ _ _ _ c.requires c.if-book_kinds-at-eq-END.false

pub size_of-requires : goal.size_of-requires
size_of-requires c =
    laws.size_ask _ _ _ _ _ _ c.requires c.if-book_kinds-at-eq-END.false _ c.field_start.ensures _ c.in-Ok.is

pub overflow_add-offset : goal.overflow_add-offset
overflow_add-offset c =
    omega (
      arith,
      laws.next_fits _ _ _ _ _ _ c.requires c.if-book_kinds-at-eq-END.false _ c.field_start.ensures _ c.in-Ok.is _
          c.size_of.ensures _ _ c.in-Ok-size_of.is,
    )

pub overflow_add-result : goal.overflow_add-result
overflow_add-result c =
    omega (arith, c.if-sought-from.false, c.requires.few)

pub type_end-requires : goal.type_end-requires
type_end-requires c =
    fields.place_starts _ _ _ _ (laws.known_place _ _ _ _ _ _ c.requires) c.if-book_kinds-at-eq-END.false

pub overflow_add-result-2 : goal.overflow_add-result-2
overflow_add-result-2 c =
    omega (arith, fields.next_few _ _ _ _ (laws.known_place _ _ _ _ _ _ c.requires) c.if-book_kinds-at-eq-END.false _ c.type_end.ensures)

pub returns-then-book_kinds-at-eq-END-clause-after : goal.returns-then-book_kinds-at-eq-END-clause-after
returns-then-book_kinds-at-eq-END-clause-after c = after_none c.requires.ready

pub returns-then-sought-from-clause-after : goal.returns-then-sought-from-clause-after
returns-then-sought-from-clause-after c = after_none c.requires.ready

pub returns-in_default-clause-after : goal.returns-in_default-clause-after
returns-in_default-clause-after c = c.field_start.ensures.after

pub returns-in_default-size_of-clause-after : goal.returns-in_default-size_of-clause-after
returns-in_default-size_of-clause-after c = after_then c.field_start.ensures.after c.size_of.ensures.after

pub returns-then-offset-gt-MOST_BYTES-clause-after : goal.returns-then-offset-gt-MOST_BYTES-clause-after
returns-then-offset-gt-MOST_BYTES-clause-after c = after_then c.field_start.ensures.after c.size_of.ensures.after

pub returns-clause-best : goal.returns-clause-best
returns-clause-best c =
    laws.field_passed _ _ _ _ _ _ c.requires c.if-book_kinds-at-eq-END.false _ c.field_start.ensures _ c.in-Ok.is _
    c.size_of.ensures _ _ c.in-Ok-size_of.is c.if-offset-gt-MOST_BYTES.false c.if-sought-from.false _ c.type_end.ensures

pub returns-clause-after : goal.returns-clause-after
returns-clause-after c = after_then c.field_start.ensures.after c.size_of.ensures.after

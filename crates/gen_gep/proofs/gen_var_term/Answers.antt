-- `gen_gep::gen_var_term` meets its contract: its lines are those of its parts, one after the other.
use Prim.Native.Nat.{ℕ}
use mathlib.Core.Path.{◌≡◌, refl, sym, ◌∙◌}
use mathlib.Core.List.{List}
use native.Mathlib.Omega.{arith}
use lib.ListN.{get_or}
use Rattle.gen_values.specs.Fields.{part_from, part_front, part_there, value_part, operand_part, type_in, operand_at}
use Rattle.gen_values.specs.Values.{width_by}
use Rattle.gen_values.specs.Present.{width_or_0}
use Rattle.gen_gep.specs.Indices.{value_behind}
use Rattle.gen_gep.specs.Lines.{term_lines}
use Rattle.gen_gep.proofs.gen_var_term.Goals as goal

-- the width of the type at a place is told at the front of the part
part_width : (ks ws : List ℕ) (a : ℕ) → width_by (get_or (part_from ks a) 0 0) (get_or (part_from ws a) 0 0) ≡ width_by (get_or ks a 0) (get_or ws a 0)
part_width ks ws a = rw (part_front ks a, part_front ws a)

pub offset_bounds-book_kinds-index : goal.offset_bounds-book_kinds-index
offset_bounds-book_kinds-index c =
    let a = c.args in
    let q = type_in a.book_kinds.now a.book_words.now a.index c.requires.is.fields in
    omega (arith, q.0, c.well_formed)

pub slice_bounds-width_of-count : goal.slice_bounds-width_of-count
slice_bounds-width_of-count c =
    let a = c.args in
    let q = type_in a.book_kinds.now a.book_words.now a.index c.requires.is.fields in
    omega (arith, q.0, c.well_formed)

pub slice_bounds-width_of-start : goal.slice_bounds-width_of-start
slice_bounds-width_of-start c =
    let a = c.args in
    let q = type_in a.book_kinds.now a.book_words.now a.index c.requires.is.fields in
    omega (arith, q.0, c.well_formed)

pub offset_bounds-book_words-index : goal.offset_bounds-book_words-index
offset_bounds-book_words-index c =
    let a = c.args in
    let q = type_in a.book_kinds.now a.book_words.now a.index c.requires.is.fields in
    omega (arith, q.1, c.well_formed)

pub slice_bounds-width_of-count-2 : goal.slice_bounds-width_of-count-2
slice_bounds-width_of-count-2 c =
    let a = c.args in
    let q = type_in a.book_kinds.now a.book_words.now a.index c.requires.is.fields in
    omega (arith, q.1, c.well_formed)

pub slice_bounds-width_of-start-2 : goal.slice_bounds-width_of-start-2
slice_bounds-width_of-start-2 c =
    let a = c.args in
    let q = type_in a.book_kinds.now a.book_words.now a.index c.requires.is.fields in
    omega (arith, q.1, c.well_formed)

pub width_of-requires : goal.width_of-requires
width_of-requires c =
    let a = c.args in
    let q = type_in a.book_kinds.now a.book_words.now a.index c.requires.is.fields in
    (part_there a.book_kinds.now a.index q.0, part_there a.book_words.now a.index q.1)

pub skip_at-requires : goal.skip_at-requires
skip_at-requires c =
    let a = c.args in
    let q = type_in a.book_kinds.now a.book_words.now a.index c.requires.is.fields in
    q

pub overflow_add-value : goal.overflow_add-value
overflow_add-value c =
    let a = c.args in
    let v = value_behind a.book_kinds.now a.book_words.now a.index c.requires.is.fields c.skip_at.ensures refl in
    omega (arith, v.in_kinds, c.well_formed)

pub offset_bounds-book_kinds-value : goal.offset_bounds-book_kinds-value
offset_bounds-book_kinds-value c =
    let a = c.args in
    let v = value_behind a.book_kinds.now a.book_words.now a.index c.requires.is.fields c.skip_at.ensures refl in
    omega (arith, v.in_kinds, c.well_formed)

pub slice_bounds-push_value-count : goal.slice_bounds-push_value-count
slice_bounds-push_value-count c =
    let a = c.args in
    let v = value_behind a.book_kinds.now a.book_words.now a.index c.requires.is.fields c.skip_at.ensures refl in
    omega (arith, v.in_kinds, c.well_formed)

pub slice_bounds-push_value-start : goal.slice_bounds-push_value-start
slice_bounds-push_value-start c =
    let a = c.args in
    let v = value_behind a.book_kinds.now a.book_words.now a.index c.requires.is.fields c.skip_at.ensures refl in
    omega (arith, v.in_kinds, c.well_formed)

pub offset_bounds-book_words-value : goal.offset_bounds-book_words-value
offset_bounds-book_words-value c =
    let a = c.args in
    let v = value_behind a.book_kinds.now a.book_words.now a.index c.requires.is.fields c.skip_at.ensures refl in
    omega (arith, v.in_words, c.well_formed)

pub slice_bounds-push_value-count-2 : goal.slice_bounds-push_value-count-2
slice_bounds-push_value-count-2 c =
    let a = c.args in
    let v = value_behind a.book_kinds.now a.book_words.now a.index c.requires.is.fields c.skip_at.ensures refl in
    omega (arith, v.in_words, c.well_formed)

pub slice_bounds-push_value-start-2 : goal.slice_bounds-push_value-start-2
slice_bounds-push_value-start-2 c =
    let a = c.args in
    let v = value_behind a.book_kinds.now a.book_words.now a.index c.requires.is.fields c.skip_at.ensures refl in
    omega (arith, v.in_words, c.well_formed)

pub push_value-pushed-requires : goal.push_value-pushed-requires
push_value-pushed-requires c =
    let a = c.args in
    let v = value_behind a.book_kinds.now a.book_words.now a.index c.requires.is.fields c.skip_at.ensures refl in
    operand_part (operand_at v (omega (arith, c.requires.room)))

pub shape_of-lines : goal.shape_of-lines
shape_of-lines c =
    c.put.auto.lines ∙ c.put-times.auto.lines ∙ c.push_int-strided.auto.lines ∙ c.widen-wide.auto.lines
    ∙ c.push_value-pushed.auto.lines

pub shape_of-operands : goal.shape_of-operands
shape_of-operands c =
    c.put.auto.operands ∙ c.put-times.auto.operands ∙ c.push_int-strided.auto.operands ∙ c.widen-wide.auto.operands
    ∙ c.push_value-pushed.auto.operands

pub returns : goal.returns
returns c =
    let a = c.args in
    let width = c.unwrap_or-width.ensures ∙ width_or_0 _ c.width_of.ensures ∙ part_width a.book_kinds.now a.book_words.now a.index in
    λ k t locals h.
    let v = value_behind a.book_kinds.now a.book_words.now a.index h.fields c.skip_at.ensures refl in
    term_lines k t h.val (h.width ∙ sym width) h.stride (c.push_value-pushed.ensures a.names k h.holds.1.0 (value_part v) locals)
    c.widen-wide.ensures c.push_int-strided.ensures c.put-times.ensures c.put.ensures

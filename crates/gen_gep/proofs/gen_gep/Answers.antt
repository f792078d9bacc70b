-- `gen_gep::gen_gep` meets its contract: the walk is asked for, and the lines are those of its parts, one after the other.
use mathlib.Core.Path.{refl}
use native.Mathlib.Omega.{arith}
use Rattle.gen_values.specs.Fields.{type_in, value_part, operand_part}
use Rattle.gen_gep.specs.Loop.{pointer_at, indices_at, walk_asked, pointer_there, terms_asked}
use Rattle.gen_gep.specs.Lines.{walked_locals, gep_lines}
use Rattle.gen_gep.proofs.gen_gep.Goals as goal

pub skip_at-requires : goal.skip_at-requires
skip_at-requires c =
    type_in c.args.book_kinds.now c.args.book_words.now c.args.at c.requires.fields

pub overflow_add-pointer : goal.overflow_add-pointer
overflow_add-pointer c =
    let v = pointer_at c.requires c.skip_at.ensures refl c.requires.fields in
    omega (arith, v.in_kinds, c.well_formed)

pub overflow_add-pointer-2 : goal.overflow_add-pointer-2
overflow_add-pointer-2 c =
    let v = pointer_at c.requires c.skip_at.ensures refl c.requires.fields in
    omega (arith, v.in_kinds, c.well_formed)

pub walk-w-requires : goal.walk-w-requires
walk-w-requires c =
    walk_asked c.requires c.skip_at.ensures refl

pub offset_bounds-book_kinds-pointer : goal.offset_bounds-book_kinds-pointer
offset_bounds-book_kinds-pointer c =
    let v = pointer_at c.requires c.skip_at.ensures refl c.requires.fields in
    omega (arith, v.in_kinds, c.well_formed)

pub slice_bounds-push_value-count : goal.slice_bounds-push_value-count
slice_bounds-push_value-count c =
    let v = pointer_at c.requires c.skip_at.ensures refl c.requires.fields in
    omega (arith, v.in_kinds, c.well_formed)

pub slice_bounds-push_value-start : goal.slice_bounds-push_value-start
slice_bounds-push_value-start c =
    let v = pointer_at c.requires c.skip_at.ensures refl c.requires.fields in
    omega (arith, v.in_kinds, c.well_formed)

pub offset_bounds-book_words-pointer : goal.offset_bounds-book_words-pointer
offset_bounds-book_words-pointer c =
    let v = pointer_at c.requires c.skip_at.ensures refl c.requires.fields in
    omega (arith, v.in_words, c.well_formed)

pub slice_bounds-push_value-count-2 : goal.slice_bounds-push_value-count-2
slice_bounds-push_value-count-2 c =
    let v = pointer_at c.requires c.skip_at.ensures refl c.requires.fields in
    omega (arith, v.in_words, c.well_formed)

pub slice_bounds-push_value-start-2 : goal.slice_bounds-push_value-start-2
slice_bounds-push_value-start-2 c =
    let v = pointer_at c.requires c.skip_at.ensures refl c.requires.fields in
    omega (arith, v.in_words, c.well_formed)

pub push_value-pushed-requires : goal.push_value-pushed-requires
push_value-pushed-requires c =
    let e = c.skip_at.ensures in
    let l = c.walk-w.ensures c.requires.holds c.requires.fields (indices_at c.requires e refl c.requires.fields) in
    operand_part (pointer_there c.requires e refl l)

pub gen_var_terms-varied-requires : goal.gen_var_terms-varied-requires
gen_var_terms-varied-requires c =
    let e = c.skip_at.ensures in
    let l = c.walk-w.ensures c.requires.holds c.requires.fields (indices_at c.requires e refl c.requires.fields) in
    terms_asked c.requires e refl l

pub shape_of-work : goal.shape_of-work
shape_of-work c =
    c.walk-w.auto.work

pub returns : goal.returns
returns c =
    let e = c.skip_at.ensures in
    λ k maps p f.
    let l = c.walk-w.ensures p f (indices_at c.requires e refl f) in
    let locals = walked_locals p maps l in
    gep_lines p maps l (c.push_value-pushed.ensures c.args.names k p.1.0 (value_part (pointer_at c.requires e refl f)) locals)
    (λ ts terms count. c.gen_var_terms-varied.ensures k ts locals terms count) c.add_sum.ensures

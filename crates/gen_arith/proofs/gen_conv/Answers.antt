-- `gen_arith::gen_conv` meets its contract: its lines are those of its parts, one after the other.
use Prim.Native.Nat.{◌+◌}
use native.Mathlib.Omega.{arith}
use Rattle.gen_values.specs.Fields.{part_from, fields_part, value_part, type_in, width_is}
use Rattle.gen_arith.specs.Arith.{first_value, behind_first_lem, operand_there}
use Rattle.gen_arith.specs.Conv.{cast_lines, conv_lines}
use Rattle.gen_arith.proofs.gen_conv.Goals as goal

pub need_width-from-requires : goal.need_width-from-requires
need_width-from-requires c =
    type_in c.args.kinds.now c.args.words.now 0 c.requires.fields

pub overflow_add-ty : goal.overflow_add-ty
overflow_add-ty c = omega (arith, (first_value c.args.kinds.now c.args.words.now c.requires.fields c.skip-val.ensures).in_kinds, c.well_formed)

pub offset_bounds-kinds-val : goal.offset_bounds-kinds-val
offset_bounds-kinds-val c = omega (arith, (first_value c.args.kinds.now c.args.words.now c.requires.fields c.skip-val.ensures).in_kinds)

pub slice_bounds-val_kinds-count : goal.slice_bounds-val_kinds-count
slice_bounds-val_kinds-count c = omega (arith, (first_value c.args.kinds.now c.args.words.now c.requires.fields c.skip-val.ensures).in_kinds)

pub slice_bounds-val_kinds-start : goal.slice_bounds-val_kinds-start
slice_bounds-val_kinds-start c = omega (arith, (first_value c.args.kinds.now c.args.words.now c.requires.fields c.skip-val.ensures).in_kinds)

pub offset_bounds-words-val : goal.offset_bounds-words-val
offset_bounds-words-val c = omega (arith, (first_value c.args.kinds.now c.args.words.now c.requires.fields c.skip-val.ensures).in_words)

pub slice_bounds-val_words-count : goal.slice_bounds-val_words-count
slice_bounds-val_words-count c = omega (arith, (first_value c.args.kinds.now c.args.words.now c.requires.fields c.skip-val.ensures).in_words)

pub slice_bounds-val_words-start : goal.slice_bounds-val_words-start
slice_bounds-val_words-start c = omega (arith, (first_value c.args.kinds.now c.args.words.now c.requires.fields c.skip-val.ensures).in_words)

pub offset_bounds-kinds-ty : goal.offset_bounds-kinds-ty
offset_bounds-kinds-ty c = omega (arith, (first_value c.args.kinds.now c.args.words.now c.requires.fields c.skip-val.ensures).in_kinds)

pub slice_bounds-to_kinds-count : goal.slice_bounds-to_kinds-count
slice_bounds-to_kinds-count c = omega (arith, (first_value c.args.kinds.now c.args.words.now c.requires.fields c.skip-val.ensures).in_kinds)

pub slice_bounds-to_kinds-start : goal.slice_bounds-to_kinds-start
slice_bounds-to_kinds-start c = omega (arith, (first_value c.args.kinds.now c.args.words.now c.requires.fields c.skip-val.ensures).in_kinds)

pub offset_bounds-words-ty : goal.offset_bounds-words-ty
offset_bounds-words-ty c = omega (arith, (first_value c.args.kinds.now c.args.words.now c.requires.fields c.skip-val.ensures).in_words)

pub slice_bounds-to_words-count : goal.slice_bounds-to_words-count
slice_bounds-to_words-count c = omega (arith, (first_value c.args.kinds.now c.args.words.now c.requires.fields c.skip-val.ensures).in_words)

pub slice_bounds-to_words-start : goal.slice_bounds-to_words-start
slice_bounds-to_words-start c = omega (arith, (first_value c.args.kinds.now c.args.words.now c.requires.fields c.skip-val.ensures).in_words)

pub push_value-requires : goal.push_value-requires
push_value-requires c = (operand_there c.args.work.now c.requires.room (first_value c.args.kinds.now c.args.words.now c.requires.fields c.skip-val.ensures))

pub returns-in-BitCast : goal.returns-in-BitCast
returns-in-BitCast c =
    let ks = c.args.kinds.now in
    let ws = c.args.words.now in
    let m = c.args.names in
    λ k maps p f.
    rw c.in-BitCast.is (cast_lines k p.0 p.1.0 p.1.1.0 (c.need_width-from.ensures p.0 (width_is ks ws 0 f))
    (c.push_value.ensures m k p.1.0 (value_part (first_value ks ws f c.skip-val.ensures)) maps))

pub need_width-to-requires : goal.need_width-to-requires
need_width-to-requires c = (type_in (part_from c.args.kinds.now (c.skip-val.result + 1)) (part_from c.args.words.now (c.skip-val.result + 1)) 0 (fields_part c.args.kinds.now c.args.words.now (c.skip-val.result + 1) (behind_first_lem c.args.kinds.now c.args.words.now c.requires.fields c.skip-val.ensures)))

pub push_value-value-requires : goal.push_value-value-requires
push_value-value-requires c = (operand_there c.args.work.now c.requires.room (first_value c.args.kinds.now c.args.words.now c.requires.fields c.skip-val.ensures))

pub returns : goal.returns
returns c =
    let ks = c.args.kinds.now in
    let ws = c.args.words.now in
    let m = c.args.names in
    let to = c.skip-val.result + 1 in
    λ k maps p f.
    conv_lines k p.0 p.1.0 p.1.1.0 (c.need_width-from.ensures p.0 (width_is ks ws 0 f))
    (c.need_width-to.ensures p.1.1.0 (width_is (part_from ks to) (part_from ws to) 0 (fields_part ks ws to (behind_first_lem ks ws f c.skip-val.ensures))))
    (c.push_value-value.ensures m k p.1.0 (value_part (first_value ks ws f c.skip-val.ensures)) maps)
    c.args.op c.in_default.not-BitCast c.emit_conv_op.ensures

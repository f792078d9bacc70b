-- `gen_select::gen_select` meets its contract: its lines are those of its parts, one after the other.
use mathlib.Core.Path.{◌∙◌}
use native.Mathlib.Omega.{arith}
use Rattle.gen_values.specs.Fields.{part_from, fields_part, operand_at, value_part, type_in, width_is}
use Rattle.gen_arith.specs.Arith.{operand_there}
use Rattle.gen_select.specs.Select.{condition, typed, true_side, false_side, select_lines}
use Rattle.gen_select.proofs.gen_select.Goals as goal

pub slice_bounds-type_kinds-count : goal.slice_bounds-type_kinds-count
slice_bounds-type_kinds-count c = omega (arith, ((type_in c.args.kinds.now c.args.words.now 1 (typed c.args.kinds.now c.args.words.now c.requires.fields))).0)

pub slice_bounds-type_kinds-start : goal.slice_bounds-type_kinds-start
slice_bounds-type_kinds-start c = omega (arith, ((type_in c.args.kinds.now c.args.words.now 1 (typed c.args.kinds.now c.args.words.now c.requires.fields))).0)

pub slice_bounds-type_words-count : goal.slice_bounds-type_words-count
slice_bounds-type_words-count c = omega (arith, ((type_in c.args.kinds.now c.args.words.now 1 (typed c.args.kinds.now c.args.words.now c.requires.fields))).1)

pub slice_bounds-type_words-start : goal.slice_bounds-type_words-start
slice_bounds-type_words-start c = omega (arith, ((type_in c.args.kinds.now c.args.words.now 1 (typed c.args.kinds.now c.args.words.now c.requires.fields))).1)

pub overflow_add-on_true : goal.overflow_add-on_true
overflow_add-on_true c = omega (arith, ((true_side c.args.kinds.now c.args.words.now c.requires.fields c.skip-on_true.ensures)).in_kinds, c.well_formed)

pub overflow_add-otherwise : goal.overflow_add-otherwise
overflow_add-otherwise c = omega (arith, ((true_side c.args.kinds.now c.args.words.now c.requires.fields c.skip-on_true.ensures)).in_kinds, c.well_formed)

pub offset_bounds-kinds-on_true : goal.offset_bounds-kinds-on_true
offset_bounds-kinds-on_true c = omega (arith, ((true_side c.args.kinds.now c.args.words.now c.requires.fields c.skip-on_true.ensures)).in_kinds)

pub slice_bounds-true_kinds-count : goal.slice_bounds-true_kinds-count
slice_bounds-true_kinds-count c = omega (arith, ((true_side c.args.kinds.now c.args.words.now c.requires.fields c.skip-on_true.ensures)).in_kinds)

pub slice_bounds-true_kinds-start : goal.slice_bounds-true_kinds-start
slice_bounds-true_kinds-start c = omega (arith, ((true_side c.args.kinds.now c.args.words.now c.requires.fields c.skip-on_true.ensures)).in_kinds)

pub offset_bounds-words-on_true : goal.offset_bounds-words-on_true
offset_bounds-words-on_true c = omega (arith, ((true_side c.args.kinds.now c.args.words.now c.requires.fields c.skip-on_true.ensures)).in_words)

pub slice_bounds-true_words-count : goal.slice_bounds-true_words-count
slice_bounds-true_words-count c = omega (arith, ((true_side c.args.kinds.now c.args.words.now c.requires.fields c.skip-on_true.ensures)).in_words)

pub slice_bounds-true_words-start : goal.slice_bounds-true_words-start
slice_bounds-true_words-start c = omega (arith, ((true_side c.args.kinds.now c.args.words.now c.requires.fields c.skip-on_true.ensures)).in_words)

pub offset_bounds-kinds-otherwise : goal.offset_bounds-kinds-otherwise
offset_bounds-kinds-otherwise c = omega (arith, ((false_side c.args.kinds.now c.args.words.now c.requires.fields c.skip-on_true.ensures)).in_kinds)

pub slice_bounds-false_kinds-count : goal.slice_bounds-false_kinds-count
slice_bounds-false_kinds-count c = omega (arith, ((false_side c.args.kinds.now c.args.words.now c.requires.fields c.skip-on_true.ensures)).in_kinds)

pub slice_bounds-false_kinds-start : goal.slice_bounds-false_kinds-start
slice_bounds-false_kinds-start c = omega (arith, ((false_side c.args.kinds.now c.args.words.now c.requires.fields c.skip-on_true.ensures)).in_kinds)

pub offset_bounds-words-otherwise : goal.offset_bounds-words-otherwise
offset_bounds-words-otherwise c = omega (arith, ((false_side c.args.kinds.now c.args.words.now c.requires.fields c.skip-on_true.ensures)).in_words)

pub slice_bounds-false_words-count : goal.slice_bounds-false_words-count
slice_bounds-false_words-count c = omega (arith, ((false_side c.args.kinds.now c.args.words.now c.requires.fields c.skip-on_true.ensures)).in_words)

pub slice_bounds-false_words-start : goal.slice_bounds-false_words-start
slice_bounds-false_words-start c = omega (arith, ((false_side c.args.kinds.now c.args.words.now c.requires.fields c.skip-on_true.ensures)).in_words)

pub need_width-wide-requires : goal.need_width-wide-requires
need_width-wide-requires c =
    let ks = c.args.kinds.now in
    let ws = c.args.words.now in
    type_in (part_from ks 1) (part_from ws 1) 0 (fields_part ks ws 1 (typed ks ws c.requires.fields))

pub push_value-tested-requires : goal.push_value-tested-requires
push_value-tested-requires c =
    operand_at (condition c.args.kinds.now c.args.words.now c.requires.fields) (omega (arith, c.requires.room))

pub push_value-taken-requires : goal.push_value-taken-requires
push_value-taken-requires c =
    operand_there c.args.work.now c.requires.room ((true_side c.args.kinds.now c.args.words.now c.requires.fields c.skip-on_true.ensures))

pub push_value-second_value-requires : goal.push_value-second_value-requires
push_value-second_value-requires c =
    operand_there c.args.work.now c.requires.room ((false_side c.args.kinds.now c.args.words.now c.requires.fields c.skip-on_true.ensures))

pub returns : goal.returns
returns c =
    let ks = c.args.kinds.now in
    let ws = c.args.words.now in
    let m = c.args.names in
    λ k maps p f.
    select_lines k p.0 p.1.0 p.1.1.0 p.1.1.1.0
    (c.need_width-wide.ensures p.1.0 (width_is (part_from ks 1) (part_from ws 1) 0 (fields_part ks ws 1 (typed ks ws f))))
    c.label-on_false.ensures c.label-on_done.ensures c.fresh-second.ensures (omega (arith, c.label-on_false))
    c.fresh-labelled.ensures (omega (arith, c.label-on_done))
    (c.push_value-tested.ensures m k p.0 (condition ks ws f) maps) c.put-jumped.ensures
    (c.push_value-taken.ensures m k p.1.1.0 (value_part (true_side ks ws f c.skip-on_true.ensures)) maps) c.put-left.ensures c.put-other.ensures
    (c.push_value-second_value.ensures m k p.1.1.1.0 (value_part (false_side ks ws f c.skip-on_true.ensures)) maps) c.put.ensures

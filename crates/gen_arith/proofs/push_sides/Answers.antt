-- `gen_arith::push_sides` meets its contract: its lines are those of its parts, one after the other.
use native.Mathlib.Omega.{arith}
use Rattle.gen_values.specs.Fields.{value_part}
use Rattle.gen_arith.specs.Arith.{first_value, second_value, operand_there, sides_puts}
use Rattle.gen_arith.proofs.push_sides.Goals as goal

pub overflow_add-rhs : goal.overflow_add-rhs
overflow_add-rhs c = omega (arith, (first_value c.args.kinds.now c.args.words.now c.requires.fields c.skip-lhs.ensures).in_kinds, c.well_formed)

pub offset_bounds-kinds-lhs : goal.offset_bounds-kinds-lhs
offset_bounds-kinds-lhs c = omega (arith, (first_value c.args.kinds.now c.args.words.now c.requires.fields c.skip-lhs.ensures).in_kinds)

pub slice_bounds-lhs_kinds-count : goal.slice_bounds-lhs_kinds-count
slice_bounds-lhs_kinds-count c = omega (arith, (first_value c.args.kinds.now c.args.words.now c.requires.fields c.skip-lhs.ensures).in_kinds)

pub slice_bounds-lhs_kinds-start : goal.slice_bounds-lhs_kinds-start
slice_bounds-lhs_kinds-start c = omega (arith, (first_value c.args.kinds.now c.args.words.now c.requires.fields c.skip-lhs.ensures).in_kinds)

pub offset_bounds-words-lhs : goal.offset_bounds-words-lhs
offset_bounds-words-lhs c = omega (arith, (first_value c.args.kinds.now c.args.words.now c.requires.fields c.skip-lhs.ensures).in_words)

pub slice_bounds-lhs_words-count : goal.slice_bounds-lhs_words-count
slice_bounds-lhs_words-count c = omega (arith, (first_value c.args.kinds.now c.args.words.now c.requires.fields c.skip-lhs.ensures).in_words)

pub slice_bounds-lhs_words-start : goal.slice_bounds-lhs_words-start
slice_bounds-lhs_words-start c = omega (arith, (first_value c.args.kinds.now c.args.words.now c.requires.fields c.skip-lhs.ensures).in_words)

pub offset_bounds-kinds-rhs : goal.offset_bounds-kinds-rhs
offset_bounds-kinds-rhs c = omega (arith, (second_value c.args.kinds.now c.args.words.now c.requires.fields c.skip-lhs.ensures).in_kinds)

pub slice_bounds-rhs_kinds-count : goal.slice_bounds-rhs_kinds-count
slice_bounds-rhs_kinds-count c = omega (arith, (second_value c.args.kinds.now c.args.words.now c.requires.fields c.skip-lhs.ensures).in_kinds)

pub slice_bounds-rhs_kinds-start : goal.slice_bounds-rhs_kinds-start
slice_bounds-rhs_kinds-start c = omega (arith, (second_value c.args.kinds.now c.args.words.now c.requires.fields c.skip-lhs.ensures).in_kinds)

pub offset_bounds-words-rhs : goal.offset_bounds-words-rhs
offset_bounds-words-rhs c = omega (arith, (second_value c.args.kinds.now c.args.words.now c.requires.fields c.skip-lhs.ensures).in_words)

pub slice_bounds-rhs_words-count : goal.slice_bounds-rhs_words-count
slice_bounds-rhs_words-count c = omega (arith, (second_value c.args.kinds.now c.args.words.now c.requires.fields c.skip-lhs.ensures).in_words)

pub slice_bounds-rhs_words-start : goal.slice_bounds-rhs_words-start
slice_bounds-rhs_words-start c = omega (arith, (second_value c.args.kinds.now c.args.words.now c.requires.fields c.skip-lhs.ensures).in_words)

pub push_value-left-requires : goal.push_value-left-requires
push_value-left-requires c = (operand_there c.args.work.now c.requires.room (first_value c.args.kinds.now c.args.words.now c.requires.fields c.skip-lhs.ensures))

pub push_value-right-requires : goal.push_value-right-requires
push_value-right-requires c =
    (operand_there c.args.work.now c.requires.room (second_value c.args.kinds.now c.args.words.now c.requires.fields c.skip-lhs.ensures))

pub returns : goal.returns
returns c =
    let ks = c.args.kinds.now in
    let ws = c.args.words.now in
    let m = c.args.names in
    λ k maps p f.
    sides_puts k c.args.width c.args.left_signed c.args.right_signed p.1.0 p.1.1.0
    (c.push_value-left.ensures m k p.1.0 (value_part (first_value ks ws f c.skip-lhs.ensures)) maps) c.extend-extended.ensures
    (c.push_value-right.ensures m k p.1.1.0 (value_part (second_value ks ws f c.skip-lhs.ensures)) maps) c.extend.ensures

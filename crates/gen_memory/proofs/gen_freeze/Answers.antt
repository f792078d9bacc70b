-- `gen_memory::gen_freeze` meets its contract.
use native.Mathlib.Omega.{arith}
use Rattle.gen_values.specs.Fields.{operand_at, operand_part, value_part, type_in, width_is}
use Rattle.gen_values.specs.Maps.{maps_after}
use Rattle.gen_size.specs.Lent as lent
use Rattle.gen_fields.specs.Places as places
use Rattle.gen_memory.specs.Memory as laws
use borrow.Author.Rules.{rules}
use Rattle.gen_memory.proofs.gen_freeze.Goals as goal

pub measured_size-size-requires : goal.measured_size-size-requires
measured_size-size-requires c =
    lent.measurable c.args.kinds.now c.args.words.now c.requires

pub width_or-width-requires : goal.width_or-width-requires
width_or-width-requires c =
    record { kinds_nonzero = type_in c.args.kinds.now c.args.words.now 0 c.requires.fields; bytes_bound = search rules }

pub offset_bounds-kinds-at : goal.offset_bounds-kinds-at
offset_bounds-kinds-at c = omega (arith, ((places.typed_value c.args.kinds.now c.args.words.now 0 c.requires.fields (places.from_front c.skip-at.ensures))).in_kinds, c.well_formed)

pub slice_bounds-val_kinds-count : goal.slice_bounds-val_kinds-count
slice_bounds-val_kinds-count c = omega (arith, ((places.typed_value c.args.kinds.now c.args.words.now 0 c.requires.fields (places.from_front c.skip-at.ensures))).in_kinds)

pub slice_bounds-val_kinds-start : goal.slice_bounds-val_kinds-start
slice_bounds-val_kinds-start c = omega (arith, ((places.typed_value c.args.kinds.now c.args.words.now 0 c.requires.fields (places.from_front c.skip-at.ensures))).in_kinds)

pub offset_bounds-words-at : goal.offset_bounds-words-at
offset_bounds-words-at c = omega (arith, ((places.typed_value c.args.kinds.now c.args.words.now 0 c.requires.fields (places.from_front c.skip-at.ensures))).in_words, c.well_formed)

pub slice_bounds-val_words-count : goal.slice_bounds-val_words-count
slice_bounds-val_words-count c = omega (arith, ((places.typed_value c.args.kinds.now c.args.words.now 0 c.requires.fields (places.from_front c.skip-at.ensures))).in_words)

pub slice_bounds-val_words-start : goal.slice_bounds-val_words-start
slice_bounds-val_words-start c = omega (arith, ((places.typed_value c.args.kinds.now c.args.words.now 0 c.requires.fields (places.from_front c.skip-at.ensures))).in_words)

pub push_value-requires : goal.push_value-requires
push_value-requires c =
    operand_part (operand_at ((places.typed_value c.args.kinds.now c.args.words.now 0 c.requires.fields (places.from_front c.skip-at.ensures))) c.measured_size-size.ensures.after.ready.room)

pub returns : goal.returns
returns c = λ p k fields maps.
    let ks = c.args.kinds.now in
    let ws = c.args.words.now in
    let size = c.measured_size-size.ensures in
    let locals = (maps_after maps size.after).locals in
    lent.did maps size.after
    (laws.freeze_puts k p.0 p.1.0 (lent.size_asked ks ws fields maps size) (c.width_or-width.ensures p.0 (width_is ks ws 0 fields))
    (c.push_value.ensures c.args.names k p.1.0 (value_part (places.typed_value ks ws 0 fields (places.from_front c.skip-at.ensures))) locals))

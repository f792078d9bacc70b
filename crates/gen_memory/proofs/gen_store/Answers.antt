-- `gen_memory::gen_store` meets its contract.
use native.Mathlib.Omega.{arith}
use Prim.Native.Nat.{◌+◌}
use Rattle.gen_values.specs.Fields.{operand_at, operand_part, value_part, value_at, behind_value}
use Rattle.gen_values.specs.Maps.{maps_after}
use Rattle.gen_size.specs.Lent as lent
use Rattle.gen_fields.specs.Places as places
use Rattle.gen_memory.specs.Memory as laws
use Rattle.gen_memory.proofs.gen_store.Goals as goal

pub measured_size-size-requires : goal.measured_size-size-requires
measured_size-size-requires c =
    lent.measurable c.args.kinds.now c.args.words.now c.requires

pub overflow_add-ptr : goal.overflow_add-ptr
overflow_add-ptr c = omega (arith, ((places.typed_value c.args.kinds.now c.args.words.now 0 c.requires.fields (places.from_front c.skip-at.ensures))).in_kinds, c.well_formed)

pub offset_bounds-kinds-ptr : goal.offset_bounds-kinds-ptr
offset_bounds-kinds-ptr c = omega (arith, ((let ks = c.args.kinds.now in let ws = c.args.words.now in value_at ks ws (c.skip-at.result + 1) (behind_value ks ws c.skip-at.result (places.behind ks ws 0 c.requires.fields (places.from_front c.skip-at.ensures))))).in_kinds, c.well_formed)

pub slice_bounds-ptr_kinds-count : goal.slice_bounds-ptr_kinds-count
slice_bounds-ptr_kinds-count c = omega (arith, ((let ks = c.args.kinds.now in let ws = c.args.words.now in value_at ks ws (c.skip-at.result + 1) (behind_value ks ws c.skip-at.result (places.behind ks ws 0 c.requires.fields (places.from_front c.skip-at.ensures))))).in_kinds)

pub slice_bounds-ptr_kinds-start : goal.slice_bounds-ptr_kinds-start
slice_bounds-ptr_kinds-start c = omega (arith, ((let ks = c.args.kinds.now in let ws = c.args.words.now in value_at ks ws (c.skip-at.result + 1) (behind_value ks ws c.skip-at.result (places.behind ks ws 0 c.requires.fields (places.from_front c.skip-at.ensures))))).in_kinds)

pub offset_bounds-words-ptr : goal.offset_bounds-words-ptr
offset_bounds-words-ptr c = omega (arith, ((let ks = c.args.kinds.now in let ws = c.args.words.now in value_at ks ws (c.skip-at.result + 1) (behind_value ks ws c.skip-at.result (places.behind ks ws 0 c.requires.fields (places.from_front c.skip-at.ensures))))).in_words, c.well_formed)

pub slice_bounds-ptr_words-count : goal.slice_bounds-ptr_words-count
slice_bounds-ptr_words-count c = omega (arith, ((let ks = c.args.kinds.now in let ws = c.args.words.now in value_at ks ws (c.skip-at.result + 1) (behind_value ks ws c.skip-at.result (places.behind ks ws 0 c.requires.fields (places.from_front c.skip-at.ensures))))).in_words)

pub slice_bounds-ptr_words-start : goal.slice_bounds-ptr_words-start
slice_bounds-ptr_words-start c = omega (arith, ((let ks = c.args.kinds.now in let ws = c.args.words.now in value_at ks ws (c.skip-at.result + 1) (behind_value ks ws c.skip-at.result (places.behind ks ws 0 c.requires.fields (places.from_front c.skip-at.ensures))))).in_words)

pub push_value-address-requires : goal.push_value-address-requires
push_value-address-requires c =
    operand_part (operand_at ((let ks = c.args.kinds.now in let ws = c.args.words.now in value_at ks ws (c.skip-at.result + 1) (behind_value ks ws c.skip-at.result (places.behind ks ws 0 c.requires.fields (places.from_front c.skip-at.ensures))))) c.measured_size-size.ensures.after.ready.room)

pub push_typed-value-requires : goal.push_typed-value-requires
push_typed-value-requires c =
    places.typed_at c.args.kinds.now c.args.words.now 0 c.requires.fields (places.from_front c.skip-at.ensures)
    c.measured_size-size.ensures.after.ready.room

pub overflow_add-width : goal.overflow_add-width
overflow_add-width c =
    omega (arith, c.mem_of-width.ensures.few)

pub shape_of-work : goal.shape_of-work
shape_of-work c =
    c.measured_size-size.ensures.after.kept.long

pub returns : goal.returns
returns c = λ p k fields maps.
    let ks = c.args.kinds.now in
    let ws = c.args.words.now in
    let at = c.skip-at.result in
    let size = c.measured_size-size.ensures in
    let locals = (maps_after maps size.after).locals in
    let value = places.behind ks ws 0 fields (places.from_front c.skip-at.ensures) in
    lent.did maps size.after
    (laws.store_puts k p.0 p.1.0 p.1.1.0 (lent.size_asked ks ws fields maps size) c.mem_of-width.ensures
    (c.push_value-address.ensures c.args.names k p.1.1.0 (value_part (value_at ks ws (at + 1) (behind_value ks ws at value))) locals)
    (c.push_typed-value.ensures c.args.names k _ p fields c.skip-at.ensures locals) c.put.ensures)

-- `gen_atomic::gen_atomic_store` meets its contract.
use Rattle.std.proofs.Common.{◌+◌, arith}
use Rattle.gen_values.specs.Fields.{operand_at, operand_part, value_part, value_at, behind_value}
use Rattle.gen_size.specs.Lent as lent
use Rattle.gen_fields.specs.Places as places
use Rattle.gen_atomic.specs.Atomic as laws
use Rattle.gen_atomic.proofs.gen_atomic_store.Goals as goal

pub require_atomic_width-wide-requires : goal.require_atomic_width-wide-requires
require_atomic_width-wide-requires c =
    lent.measurable c.args.kinds.now c.args.words.now c.requires

pub overflow_add-ptr : goal.overflow_add-ptr
overflow_add-ptr c = omega (arith, (places.typed_value c.args.kinds.now c.args.words.now 0 c.requires.fields (places.from_front c.skip-val.ensures)).in_kinds, c.well_formed)

pub offset_bounds-kinds-val : goal.offset_bounds-kinds-val
offset_bounds-kinds-val c = omega (arith, (places.typed_value c.args.kinds.now c.args.words.now 0 c.requires.fields (places.from_front c.skip-val.ensures)).in_kinds)

pub slice_bounds-val_kinds-count : goal.slice_bounds-val_kinds-count
slice_bounds-val_kinds-count c = omega (arith, (places.typed_value c.args.kinds.now c.args.words.now 0 c.requires.fields (places.from_front c.skip-val.ensures)).in_kinds)

pub slice_bounds-val_kinds-start : goal.slice_bounds-val_kinds-start
slice_bounds-val_kinds-start c = omega (arith, (places.typed_value c.args.kinds.now c.args.words.now 0 c.requires.fields (places.from_front c.skip-val.ensures)).in_kinds)

pub offset_bounds-words-val : goal.offset_bounds-words-val
offset_bounds-words-val c = omega (arith, (places.typed_value c.args.kinds.now c.args.words.now 0 c.requires.fields (places.from_front c.skip-val.ensures)).in_words)

pub slice_bounds-val_words-count : goal.slice_bounds-val_words-count
slice_bounds-val_words-count c = omega (arith, (places.typed_value c.args.kinds.now c.args.words.now 0 c.requires.fields (places.from_front c.skip-val.ensures)).in_words)

pub slice_bounds-val_words-start : goal.slice_bounds-val_words-start
slice_bounds-val_words-start c = omega (arith, (places.typed_value c.args.kinds.now c.args.words.now 0 c.requires.fields (places.from_front c.skip-val.ensures)).in_words)

pub offset_bounds-kinds-ptr : goal.offset_bounds-kinds-ptr
offset_bounds-kinds-ptr c = omega (arith, (let ks = c.args.kinds.now in let ws = c.args.words.now in value_at ks ws (c.skip-val.result + 1) (behind_value ks ws c.skip-val.result (places.behind ks ws 0 c.requires.fields (places.from_front c.skip-val.ensures)))).in_kinds)

pub slice_bounds-ptr_kinds-count : goal.slice_bounds-ptr_kinds-count
slice_bounds-ptr_kinds-count c = omega (arith, (let ks = c.args.kinds.now in let ws = c.args.words.now in value_at ks ws (c.skip-val.result + 1) (behind_value ks ws c.skip-val.result (places.behind ks ws 0 c.requires.fields (places.from_front c.skip-val.ensures)))).in_kinds)

pub slice_bounds-ptr_kinds-start : goal.slice_bounds-ptr_kinds-start
slice_bounds-ptr_kinds-start c = omega (arith, (let ks = c.args.kinds.now in let ws = c.args.words.now in value_at ks ws (c.skip-val.result + 1) (behind_value ks ws c.skip-val.result (places.behind ks ws 0 c.requires.fields (places.from_front c.skip-val.ensures)))).in_kinds)

pub offset_bounds-words-ptr : goal.offset_bounds-words-ptr
offset_bounds-words-ptr c = omega (arith, (let ks = c.args.kinds.now in let ws = c.args.words.now in value_at ks ws (c.skip-val.result + 1) (behind_value ks ws c.skip-val.result (places.behind ks ws 0 c.requires.fields (places.from_front c.skip-val.ensures)))).in_words)

pub slice_bounds-ptr_words-count : goal.slice_bounds-ptr_words-count
slice_bounds-ptr_words-count c = omega (arith, (let ks = c.args.kinds.now in let ws = c.args.words.now in value_at ks ws (c.skip-val.result + 1) (behind_value ks ws c.skip-val.result (places.behind ks ws 0 c.requires.fields (places.from_front c.skip-val.ensures)))).in_words)

pub slice_bounds-ptr_words-start : goal.slice_bounds-ptr_words-start
slice_bounds-ptr_words-start c = omega (arith, (let ks = c.args.kinds.now in let ws = c.args.words.now in value_at ks ws (c.skip-val.result + 1) (behind_value ks ws c.skip-val.result (places.behind ks ws 0 c.requires.fields (places.from_front c.skip-val.ensures)))).in_words)

pub push_value-below-requires : goal.push_value-below-requires
push_value-below-requires c =
    operand_part (operand_at (let ks = c.args.kinds.now in let ws = c.args.words.now in value_at ks ws (c.skip-val.result + 1) (behind_value ks ws c.skip-val.result (places.behind ks ws 0 c.requires.fields (places.from_front c.skip-val.ensures)))) (rw c.require_atomic_width-wide.auto.work c.requires.ready.room))

pub push_value-both-requires : goal.push_value-both-requires
push_value-both-requires c =
    operand_part (operand_at (places.typed_value c.args.kinds.now c.args.words.now 0 c.requires.fields (places.from_front c.skip-val.ensures)) (rw c.require_atomic_width-wide.auto.work c.requires.ready.room))

pub shape_of-work : goal.shape_of-work
shape_of-work c =
    c.require_atomic_width-wide.auto.work

pub returns : goal.returns
returns c = λ p k fields maps.
    let entry = c in
    let ks = entry.args.kinds.now in
    let ws = entry.args.words.now in
    let wide = c.require_atomic_width-wide.ensures _ p k entry.args.lines.now entry.args.operands.now fields maps in
    let at = c.skip-val.result in
    let value = places.behind ks ws 0 fields (places.from_front c.skip-val.ensures) in
    record {
      puts = laws.store_puts k p.0 p.1.0 p.1.1.0 wide.puts
          (c.push_value-below.ensures entry.args.names k p.1.1.0 (value_part (value_at ks ws (at + 1) (behind_value ks ws at value))) wide.maps.locals)
          (c.push_value-both.ensures entry.args.names k p.1.0 (value_part (value_at ks ws at value)) wide.maps.locals) c.put.ensures;
      maps = wide.maps;
    }

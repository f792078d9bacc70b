-- `gen_atomic::gen_cmpxchg` meets its contract.
use Rattle.std.proofs.Common.{◌+◌, ◌∙◌, arith}
use Rattle.gen_values.specs.Fields.{operand_at, operand_part, value_part, value_at, behind_value}
use Rattle.gen_fields.specs.Places as places
use Rattle.gen_fields.specs.Given as given
use Rattle.gen_atomic.specs.Atomic as laws
use Rattle.gen_atomic.proofs.gen_cmpxchg.Goals as goal

pub slot_of-own-requires : goal.slot_of-own-requires
slot_of-own-requires c =
    given.dest_reaches c.requires

pub overflow_add-cmp : goal.overflow_add-cmp
overflow_add-cmp c = omega (arith, (places.typed_value c.args.kinds.now c.args.words.now 0 c.requires.fields (places.from_front c.skip-ptr.ensures)).in_kinds, c.well_formed)

pub overflow_add-val : goal.overflow_add-val
overflow_add-val c = omega (arith, (let ks = c.args.kinds.now in let ws = c.args.words.now in let at = c.skip-ptr.result in value_at ks ws (at + 1) (behind_value ks ws at (places.behind ks ws 0 c.requires.fields (places.from_front c.skip-ptr.ensures)))).in_kinds, c.well_formed)

pub offset_bounds-kinds-ptr : goal.offset_bounds-kinds-ptr
offset_bounds-kinds-ptr c = omega (arith, (places.typed_value c.args.kinds.now c.args.words.now 0 c.requires.fields (places.from_front c.skip-ptr.ensures)).in_kinds)

pub slice_bounds-ptr_kinds-count : goal.slice_bounds-ptr_kinds-count
slice_bounds-ptr_kinds-count c = omega (arith, (places.typed_value c.args.kinds.now c.args.words.now 0 c.requires.fields (places.from_front c.skip-ptr.ensures)).in_kinds)

pub slice_bounds-ptr_kinds-start : goal.slice_bounds-ptr_kinds-start
slice_bounds-ptr_kinds-start c = omega (arith, (places.typed_value c.args.kinds.now c.args.words.now 0 c.requires.fields (places.from_front c.skip-ptr.ensures)).in_kinds)

pub offset_bounds-words-ptr : goal.offset_bounds-words-ptr
offset_bounds-words-ptr c = omega (arith, (places.typed_value c.args.kinds.now c.args.words.now 0 c.requires.fields (places.from_front c.skip-ptr.ensures)).in_words)

pub slice_bounds-ptr_words-count : goal.slice_bounds-ptr_words-count
slice_bounds-ptr_words-count c = omega (arith, (places.typed_value c.args.kinds.now c.args.words.now 0 c.requires.fields (places.from_front c.skip-ptr.ensures)).in_words)

pub slice_bounds-ptr_words-start : goal.slice_bounds-ptr_words-start
slice_bounds-ptr_words-start c = omega (arith, (places.typed_value c.args.kinds.now c.args.words.now 0 c.requires.fields (places.from_front c.skip-ptr.ensures)).in_words)

pub offset_bounds-kinds-cmp : goal.offset_bounds-kinds-cmp
offset_bounds-kinds-cmp c = omega (arith, (let ks = c.args.kinds.now in let ws = c.args.words.now in let at = c.skip-ptr.result in value_at ks ws (at + 1) (behind_value ks ws at (places.behind ks ws 0 c.requires.fields (places.from_front c.skip-ptr.ensures)))).in_kinds)

pub slice_bounds-cmp_kinds-count : goal.slice_bounds-cmp_kinds-count
slice_bounds-cmp_kinds-count c = omega (arith, (let ks = c.args.kinds.now in let ws = c.args.words.now in let at = c.skip-ptr.result in value_at ks ws (at + 1) (behind_value ks ws at (places.behind ks ws 0 c.requires.fields (places.from_front c.skip-ptr.ensures)))).in_kinds)

pub slice_bounds-cmp_kinds-start : goal.slice_bounds-cmp_kinds-start
slice_bounds-cmp_kinds-start c = omega (arith, (let ks = c.args.kinds.now in let ws = c.args.words.now in let at = c.skip-ptr.result in value_at ks ws (at + 1) (behind_value ks ws at (places.behind ks ws 0 c.requires.fields (places.from_front c.skip-ptr.ensures)))).in_kinds)

pub offset_bounds-words-cmp : goal.offset_bounds-words-cmp
offset_bounds-words-cmp c = omega (arith, (let ks = c.args.kinds.now in let ws = c.args.words.now in let at = c.skip-ptr.result in value_at ks ws (at + 1) (behind_value ks ws at (places.behind ks ws 0 c.requires.fields (places.from_front c.skip-ptr.ensures)))).in_words)

pub slice_bounds-cmp_words-count : goal.slice_bounds-cmp_words-count
slice_bounds-cmp_words-count c = omega (arith, (let ks = c.args.kinds.now in let ws = c.args.words.now in let at = c.skip-ptr.result in value_at ks ws (at + 1) (behind_value ks ws at (places.behind ks ws 0 c.requires.fields (places.from_front c.skip-ptr.ensures)))).in_words)

pub slice_bounds-cmp_words-start : goal.slice_bounds-cmp_words-start
slice_bounds-cmp_words-start c = omega (arith, (let ks = c.args.kinds.now in let ws = c.args.words.now in let at = c.skip-ptr.result in value_at ks ws (at + 1) (behind_value ks ws at (places.behind ks ws 0 c.requires.fields (places.from_front c.skip-ptr.ensures)))).in_words)

pub offset_bounds-kinds-val : goal.offset_bounds-kinds-val
offset_bounds-kinds-val c = omega (arith, (let ks = c.args.kinds.now in let ws = c.args.words.now in let at = c.skip-ptr.result in value_at ks ws (at + 1 + 1) (behind_value ks ws (at + 1) (behind_value ks ws at (places.behind ks ws 0 c.requires.fields (places.from_front c.skip-ptr.ensures))))).in_kinds)

pub slice_bounds-new_kinds-count : goal.slice_bounds-new_kinds-count
slice_bounds-new_kinds-count c = omega (arith, (let ks = c.args.kinds.now in let ws = c.args.words.now in let at = c.skip-ptr.result in value_at ks ws (at + 1 + 1) (behind_value ks ws (at + 1) (behind_value ks ws at (places.behind ks ws 0 c.requires.fields (places.from_front c.skip-ptr.ensures))))).in_kinds)

pub slice_bounds-new_kinds-start : goal.slice_bounds-new_kinds-start
slice_bounds-new_kinds-start c = omega (arith, (let ks = c.args.kinds.now in let ws = c.args.words.now in let at = c.skip-ptr.result in value_at ks ws (at + 1 + 1) (behind_value ks ws (at + 1) (behind_value ks ws at (places.behind ks ws 0 c.requires.fields (places.from_front c.skip-ptr.ensures))))).in_kinds)

pub offset_bounds-words-val : goal.offset_bounds-words-val
offset_bounds-words-val c = omega (arith, (let ks = c.args.kinds.now in let ws = c.args.words.now in let at = c.skip-ptr.result in value_at ks ws (at + 1 + 1) (behind_value ks ws (at + 1) (behind_value ks ws at (places.behind ks ws 0 c.requires.fields (places.from_front c.skip-ptr.ensures))))).in_words)

pub slice_bounds-new_words-count : goal.slice_bounds-new_words-count
slice_bounds-new_words-count c = omega (arith, (let ks = c.args.kinds.now in let ws = c.args.words.now in let at = c.skip-ptr.result in value_at ks ws (at + 1 + 1) (behind_value ks ws (at + 1) (behind_value ks ws at (places.behind ks ws 0 c.requires.fields (places.from_front c.skip-ptr.ensures))))).in_words)

pub slice_bounds-new_words-start : goal.slice_bounds-new_words-start
slice_bounds-new_words-start c = omega (arith, (let ks = c.args.kinds.now in let ws = c.args.words.now in let at = c.skip-ptr.result in value_at ks ws (at + 1 + 1) (behind_value ks ws (at + 1) (behind_value ks ws at (places.behind ks ws 0 c.requires.fields (places.from_front c.skip-ptr.ensures))))).in_words)

pub push_value-address-requires : goal.push_value-address-requires
push_value-address-requires c = (operand_part (operand_at (places.typed_value c.args.kinds.now c.args.words.now 0 c.requires.fields (places.from_front c.skip-ptr.ensures)) c.requires.room))

pub push_value-compared-requires : goal.push_value-compared-requires
push_value-compared-requires c = let after-skip = c in (operand_part (operand_at (let ks = c.args.kinds.now in let ws = c.args.words.now in let at = c.skip-ptr.result in value_at ks ws (at + 1) (behind_value ks ws at (places.behind ks ws 0 c.requires.fields (places.from_front c.skip-ptr.ensures)))) c.requires.room))

pub push_value-new-requires : goal.push_value-new-requires
push_value-new-requires c =
    let after-skip = c in
    (operand_part (operand_at (let ks = c.args.kinds.now in let ws = c.args.words.now in let at = c.skip-ptr.result in value_at ks ws (at + 1 + 1) (behind_value ks ws (at + 1) (behind_value ks ws at (places.behind ks ws 0 c.requires.fields (places.from_front c.skip-ptr.ensures))))) c.requires.room))

pub set_both-requires : goal.set_both-requires
set_both-requires c =
    let after-skip = c in
    (operand_part (operand_at (let ks = c.args.kinds.now in let ws = c.args.words.now in let at = c.skip-ptr.result in value_at ks ws (at + 1) (behind_value ks ws at (places.behind ks ws 0 c.requires.fields (places.from_front c.skip-ptr.ensures)))) c.requires.room))

pub shape_of-lines : goal.shape_of-lines
shape_of-lines c =
    c.set_both.auto.lines ∙ c.put-found.auto.lines
    ∙ c.push_value-new.auto.lines ∙ c.push_value-compared.auto.lines ∙ c.push_value-address.auto.lines

pub shape_of-operands : goal.shape_of-operands
shape_of-operands c =
    c.set_both.auto.operands ∙ c.put-found.auto.operands
    ∙ c.push_value-new.auto.operands ∙ c.push_value-compared.auto.operands ∙ c.push_value-address.auto.operands

pub returns : goal.returns
returns c = λ p k fields maps.
    let ks = c.args.kinds.now in
    let ws = c.args.words.now in
    let m = c.args.names in
    let at = c.skip-ptr.result in
    let address = places.behind ks ws 0 fields (places.from_front c.skip-ptr.ensures) in
    let compared = behind_value ks ws at address in
    let stored = behind_value ks ws (at + 1) compared in
    laws.cmpxchg_puts k p.1.0 p.1.1.0 p.1.1.1.0 _ (c.slot_of-own.ensures m k c.requires.result maps)
    (c.push_value-address.ensures m k p.1.0 (value_part (value_at ks ws at address)) maps)
    (c.push_value-compared.ensures m k p.1.1.0 (value_part (value_at ks ws (at + 1) compared)) maps)
    (c.push_value-new.ensures m k p.1.1.1.0 (value_part (value_at ks ws (at + 1 + 1) stored)) maps) c.put-found.ensures
    (c.set_both.ensures m k p.1.1.0 (value_part (value_at ks ws (at + 1) compared)) maps)

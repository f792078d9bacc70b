-- `gen_function::gen_function` meets its contract: its lines are those of its parts, one after the other.
use mathlib.Core.Path.{refl, ◌∙◌}
use native.Mathlib.Omega.{arith}
use Rattle.gen_function.specs.Function.{name_in, name_is, slots_limit, function_lines}
use Rattle.gen_function.proofs.gen_function.Goals as goal

pub offset_bounds-book_words-at : goal.offset_bounds-book_words-at
offset_bounds-book_words-at c =
    omega (arith, name_in c.args.book_kinds.now c.args.book_words.now c.args.head c.requires.here, c.well_formed)

pub bounds-book_words-at : goal.bounds-book_words-at
bounds-book_words-at c = name_in c.args.book_kinds.now c.args.book_words.now c.args.head c.requires.here

pub gen_blocks-done-requires : goal.gen_blocks-done-requires
gen_blocks-done-requires c =
    let a = c.requires in
    record { ctx = a.ctx; maps = a.maps; based = (a.framed.slots, a.framed.framed); blocks = a.fn.blocks; listed = a.here.blocks; order = a.here.order; in_kinds = a.here.in_kinds }

pub shape_of-lines : goal.shape_of-lines
shape_of-lines c =
    c.put.auto.lines ∙ c.gen_blocks-done.auto.lines ∙ c.enter_frame-entered.auto.lines
    ∙ c.push_slots-slotted.auto.lines ∙ c.put-labelled.auto.lines ∙ c.put-titled.auto.lines

pub shape_of-operands : goal.shape_of-operands
shape_of-operands c =
    c.put.auto.operands ∙ c.gen_blocks-done.auto.operands ∙ c.enter_frame-entered.auto.operands
    ∙ c.push_slots-slotted.auto.operands ∙ c.put-labelled.auto.operands ∙ c.put-titled.auto.operands

pub returns : goal.returns
returns c =
    let total = c.total_slots-total.result in
    λ k f here framed maps.
    function_lines k f (name_is c.args.book_kinds.now c.args.book_words.now c.args.head here) (omega (arith, c.shared_slice_known-3-1.given c.args.head.at))
    c.total_slots-total.ensures
    c.put-titled.ensures c.put-labelled.ensures (slots_limit total _ _ refl c.need-few.ensures) c.push_slots-slotted.ensures
    (c.enter_frame-entered.ensures k framed) (c.gen_blocks-done.ensures k f.blocks here.blocks (framed.slots, framed.framed) maps) c.put.ensures

use Rattle.std.proofs.Common.{◌+◌, ◌-◌, ◌%◌, ◌^◌, set, refl, ap, ◌∙◌, arith}
use Rattle.book.specs.Entry.{entries}
use Rattle.gen_lines.specs.Puts.{further}
use Rattle.gen_edge.specs.Phis.{leading_in}
use Rattle.gen_edge.specs.Copies.{slot_or}
use Rattle.gen_edge.specs.Edges.{few_phis, set_start, set_in, set_lent, set_behind, set_reaches, set_next, set_end}
use Rattle.gen_edge.proofs.set_slots.Goals as goal

pub loop-left-init : goal.loop-left-init
loop-left-init c = λ ps front e.
    let a = c.args in
    let ks = a.kinds.now in
    let ws = a.words.now in
    let m = a.names in
    let work = a.work.now in
    set_start m ks ws work ps front e a.s.at a.lines.now a.operands.now

pub offset_bounds-words-at : goal.offset_bounds-words-at
offset_bounds-words-at c =
    let a = c.args in
    let ks = a.kinds.now in
    let ws = a.words.now in
    let m = a.names in
    let work = a.work.now in
    let phis = c.requires.phis in
    let walk = c.loop-left.invariant phis c.requires.front c.requires.counted in
    let inside = set_in m ks ws work phis walk (λ z. omega arith) in
    omega (arith, inside.0, inside.1, c.well_formed)

pub bounds-words-at : goal.bounds-words-at
bounds-words-at c =
    let a = c.args in
    let ks = a.kinds.now in
    let ws = a.words.now in
    let m = a.names in
    let work = a.work.now in
    let phis = c.requires.phis in
    let walk = c.loop-left.invariant phis c.requires.front c.requires.counted in
    let inside = set_in m ks ws work phis walk (λ z. omega arith) in
    inside.1

pub slot-requires : goal.slot-requires
slot-requires c =
    let a = c.args in
    let ks = a.kinds.now in
    let ws = a.words.now in
    let m = a.names in
    let work = a.work.now in
    let phis = c.requires.phis in
    let walk = c.loop-left.invariant phis c.requires.front c.requires.counted in
    set_reaches m ks ws work phis walk (λ z. omega arith) c.requires.room

pub offset_bounds-kinds-at : goal.offset_bounds-kinds-at
offset_bounds-kinds-at c =
    let a = c.args in
    let ks = a.kinds.now in
    let ws = a.words.now in
    let m = a.names in
    let work = a.work.now in
    let phis = c.requires.phis in
    let walk = c.loop-left.invariant phis c.requires.front c.requires.counted in
    let inside = set_in m ks ws work phis walk (λ z. omega arith) in
    omega (arith, inside.0, inside.1, c.well_formed)

pub slice_bounds-phi_len-count : goal.slice_bounds-phi_len-count
slice_bounds-phi_len-count c =
    let a = c.args in
    let ks = a.kinds.now in
    let ws = a.words.now in
    let m = a.names in
    let work = a.work.now in
    let phis = c.requires.phis in
    let walk = c.loop-left.invariant phis c.requires.front c.requires.counted in
    let inside = set_in m ks ws work phis walk (λ z. omega arith) in
    omega (arith, inside.0, inside.1, c.well_formed)

pub slice_bounds-phi_len-start : goal.slice_bounds-phi_len-start
slice_bounds-phi_len-start c =
    let a = c.args in
    let ks = a.kinds.now in
    let ws = a.words.now in
    let m = a.names in
    let work = a.work.now in
    let phis = c.requires.phis in
    let walk = c.loop-left.invariant phis c.requires.front c.requires.counted in
    let inside = set_in m ks ws work phis walk (λ z. omega arith) in
    omega (arith, inside.0, inside.1, c.well_formed)

pub slice_bounds-phi_len-end : goal.slice_bounds-phi_len-end
slice_bounds-phi_len-end c =
    let a = c.args in
    let ks = a.kinds.now in
    let ws = a.words.now in
    let m = a.names in
    let work = a.work.now in
    let phis = c.requires.phis in
    let walk = c.loop-left.invariant phis c.requires.front c.requires.counted in
    let inside = set_in m ks ws work phis walk (λ z. omega arith) in
    omega (arith, inside.0, inside.1, c.well_formed)

pub offset_bounds-words-at-in-loop-left : goal.offset_bounds-words-at-in-loop-left
offset_bounds-words-at-in-loop-left c =
    let a = c.args in
    let ks = a.kinds.now in
    let ws = a.words.now in
    let m = a.names in
    let work = a.work.now in
    let phis = c.requires.phis in
    let walk = c.loop-left.invariant phis c.requires.front c.requires.counted in
    let inside = set_in m ks ws work phis walk (λ z. omega arith) in
    omega (arith, inside.0, inside.1, c.well_formed)

pub slice_bounds-phi_len-count-in-loop-left : goal.slice_bounds-phi_len-count-in-loop-left
slice_bounds-phi_len-count-in-loop-left c =
    let a = c.args in
    let ks = a.kinds.now in
    let ws = a.words.now in
    let m = a.names in
    let work = a.work.now in
    let phis = c.requires.phis in
    let walk = c.loop-left.invariant phis c.requires.front c.requires.counted in
    let inside = set_in m ks ws work phis walk (λ z. omega arith) in
    omega (arith, inside.0, inside.1, c.well_formed)

pub slice_bounds-phi_len-start-in-loop-left : goal.slice_bounds-phi_len-start-in-loop-left
slice_bounds-phi_len-start-in-loop-left c =
    let a = c.args in
    let ks = a.kinds.now in
    let ws = a.words.now in
    let m = a.names in
    let work = a.work.now in
    let phis = c.requires.phis in
    let walk = c.loop-left.invariant phis c.requires.front c.requires.counted in
    let inside = set_in m ks ws work phis walk (λ z. omega arith) in
    omega (arith, inside.0, inside.1, c.well_formed)

pub slice_bounds-phi_len-end-in-loop-left : goal.slice_bounds-phi_len-end-in-loop-left
slice_bounds-phi_len-end-in-loop-left c =
    let a = c.args in
    let ks = a.kinds.now in
    let ws = a.words.now in
    let m = a.names in
    let work = a.work.now in
    let phis = c.requires.phis in
    let walk = c.loop-left.invariant phis c.requires.front c.requires.counted in
    let inside = set_in m ks ws work phis walk (λ z. omega arith) in
    omega (arith, inside.0, inside.1, c.well_formed)

pub phi_len-at-requires : goal.phi_len-at-requires
phi_len-at-requires c =
    let a = c.args in
    let ks = a.kinds.now in
    let ws = a.words.now in
    let m = a.names in
    let work = a.work.now in
    let phis = c.requires.phis in
    let walk = c.loop-left.invariant phis c.requires.front c.requires.counted in
    set_lent m ks ws work phis walk (λ z. omega arith)

pub overflow_add-at : goal.overflow_add-at
overflow_add-at c =
    let a = c.args in
    let ks = a.kinds.now in
    let ws = a.words.now in
    let m = a.names in
    let work = a.work.now in
    let phis = c.requires.phis in
    let at = c.loop-left.at in
    let walk = c.loop-left.invariant phis c.requires.front c.requires.counted in
    let behind = set_behind m ks ws work phis walk (λ z. omega arith) c.phi_len-at.result c.phi_len-at.ensures in
    omega (arith, (leading_in ks ws (at + c.phi_len-at.result) _ behind).0, c.well_formed)

pub loop-left-preserved : goal.loop-left-preserved
loop-left-preserved c = λ ps front e.
    let a = c.args in
    let ks = a.kinds.now in
    let ws = a.words.now in
    let m = a.names in
    let work = a.work.now in
    let phis = c.requires.phis in
    let walk = c.loop-left.invariant ps front e in
    set_next m ks ws work ps walk (λ z. omega arith) (set_behind m ks ws work ps walk (λ z. omega arith) c.phi_len-at.result c.phi_len-at.ensures)
    refl c.put_at.ensures.0
    (c.put_at.ensures.1 ∙ ap (λ x. set c.loop-left.operands ((a.s.at + (c.loop-left.left - 1)) % 2 ^ 64) (x % 2 ^ 64)) (c.unwrap_or-slot.ensures ∙ slot_or _ _ c.slot.ensures))

pub beyond-requires : goal.beyond-requires
beyond-requires c =
    let a = c.args in
    let ks = a.kinds.now in
    let ws = a.words.now in
    let m = a.names in
    let phis = c.requires.phis in
    omega (arith, few_phis m phis (entries ks ws) c.requires.front, c.requires.counted)

pub shape_of-lines : goal.shape_of-lines
shape_of-lines c =
    let phis = c.requires.phis in
    let walk = c.loop-left.invariant phis c.requires.front c.requires.counted in
    walk.stored.long_kinds

pub shape_of-operands : goal.shape_of-operands
shape_of-operands c =
    let phis = c.requires.phis in
    let walk = c.loop-left.invariant phis c.requires.front c.requires.counted in
    walk.stored.long_operands

pub returns : goal.returns
returns c = λ k ps cps front e slots.
    let a = c.args in
    let ks = a.kinds.now in
    let ws = a.words.now in
    let m = a.names in
    let work = a.work.now in
    set_end m ks ws work ps (c.loop-left.invariant ps front e) (omega (arith, c.loop-left-test.false)) k cps slots refl
    (c.beyond.ensures ∙ ap (further a.s.at) e) refl refl

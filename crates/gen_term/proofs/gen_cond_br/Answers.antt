-- `gen_term::gen_cond_br` meets its contract.
use Rattle.std.proofs.Common.{◌∙◌, arith, refl}
use Rattle.gen_values.specs.Fields.{value_part, operand_part}
use Rattle.gen_edge.specs.Walks.{value_reaches}
use Rattle.gen_term.specs.Terms.{br_at, cond_at}
use Rattle.gen_term.specs.Branches as laws
use Rattle.gen_term.proofs.gen_cond_br.Goals as goal

pub bounds-kinds-3 : goal.bounds-kinds-3
bounds-kinds-3 c =
    let a = c.args in
    let ks = a.kinds.now in
    let ws = a.words.now in
    let br = br_at ks ws _ c.requires.if_true c.requires.if_false c.requires.fields in
    br.in_kinds

pub returns-then-kinds-eq-ABSENT : goal.returns-then-kinds-eq-ABSENT
returns-then-kinds-eq-ABSENT c = λ k v x y fields maps.
    let a = c.args in
    let ks = a.kinds.now in
    let ws = a.words.now in
    let is = br_at ks ws _ x y fields in
    laws.one_way_puts k a.pred x y v (is.one_way c.if-kinds-eq-ABSENT.true) a.s a.lines.now a.operands.now c.refuse.ensures

pub slice_bounds-push_value-count : goal.slice_bounds-push_value-count
slice_bounds-push_value-count c =
    let a = c.args in
    let ks = a.kinds.now in
    let ws = a.words.now in
    let br = br_at ks ws _ c.requires.if_true c.requires.if_false c.requires.fields in
    omega (arith, br.in_kinds, br.in_words)

pub slice_bounds-push_value-start : goal.slice_bounds-push_value-start
slice_bounds-push_value-start c =
    let a = c.args in
    let ks = a.kinds.now in
    let ws = a.words.now in
    let br = br_at ks ws _ c.requires.if_true c.requires.if_false c.requires.fields in
    omega (arith, br.in_kinds, br.in_words)

pub slice_bounds-push_value-end : goal.slice_bounds-push_value-end
slice_bounds-push_value-end c =
    let a = c.args in
    let ks = a.kinds.now in
    let ws = a.words.now in
    let br = br_at ks ws _ c.requires.if_true c.requires.if_false c.requires.fields in
    omega (arith, br.in_kinds, br.in_words)

pub slice_bounds-push_value-count-2 : goal.slice_bounds-push_value-count-2
slice_bounds-push_value-count-2 c =
    let a = c.args in
    let ks = a.kinds.now in
    let ws = a.words.now in
    let br = br_at ks ws _ c.requires.if_true c.requires.if_false c.requires.fields in
    omega (arith, br.in_kinds, br.in_words)

pub slice_bounds-push_value-start-2 : goal.slice_bounds-push_value-start-2
slice_bounds-push_value-start-2 c =
    let a = c.args in
    let ks = a.kinds.now in
    let ws = a.words.now in
    let br = br_at ks ws _ c.requires.if_true c.requires.if_false c.requires.fields in
    omega (arith, br.in_kinds, br.in_words)

pub slice_bounds-push_value-end-2 : goal.slice_bounds-push_value-end-2
slice_bounds-push_value-end-2 c =
    let a = c.args in
    let ks = a.kinds.now in
    let ws = a.words.now in
    let br = br_at ks ws _ c.requires.if_true c.requires.if_false c.requires.fields in
    omega (arith, br.in_kinds, br.in_words)

pub push_value-pushed-requires : goal.push_value-pushed-requires
push_value-pushed-requires c =
    let a = c.args in
    let ks = a.kinds.now in
    let ws = a.words.now in
    let m = a.names in
    operand_part (value_reaches m (cond_at ks ws c.requires.fields) c.requires.maps.room)

pub bounds-words-2 : goal.bounds-words-2
bounds-words-2 c =
    let a = c.args in
    let ks = a.kinds.now in
    let ws = a.words.now in
    let br = br_at ks ws _ c.requires.if_true c.requires.if_false c.requires.fields in
    omega (arith, br.in_words)

pub edge-gone-requires : goal.edge-gone-requires
edge-gone-requires c =
    let a = c.args in
    let ks = a.kinds.now in
    let ws = a.words.now in
    let br = br_at ks ws _ c.requires.if_true c.requires.if_false c.requires.fields in
    record { ctx = c.requires.ctx; maps = c.requires.maps; target = rw br.true_is br.true_below }

pub bounds-words-3 : goal.bounds-words-3
bounds-words-3 c =
    let a = c.args in
    let ks = a.kinds.now in
    let ws = a.words.now in
    let br = br_at ks ws _ c.requires.if_true c.requires.if_false c.requires.fields in
    br.in_words

pub edge-requires : goal.edge-requires
edge-requires c =
    let a = c.args in
    let ks = a.kinds.now in
    let ws = a.words.now in
    let br = br_at ks ws _ c.requires.if_true c.requires.if_false c.requires.fields in
    record { ctx = c.requires.ctx; maps = c.requires.maps; target = (br.both_ways c.if-kinds-eq-ABSENT.false).1 }

pub shape_of-lines : goal.shape_of-lines
shape_of-lines c =
    c.edge.auto.lines ∙ c.put-labelled.auto.lines ∙ c.edge-gone.auto.lines ∙ c.put-jumped.auto.lines ∙ c.push_value-pushed.auto.lines

pub shape_of-operands : goal.shape_of-operands
shape_of-operands c =
    c.edge.auto.operands ∙ c.put-labelled.auto.operands ∙ c.edge-gone.auto.operands ∙ c.put-jumped.auto.operands ∙ c.push_value-pushed.auto.operands

pub returns : goal.returns
returns c = λ k v x y fields maps.
    let a = c.args in
    let ks = a.kinds.now in
    let ws = a.words.now in
    let m = a.names in
    let is = br_at ks ws _ x y fields in
    let push = c.push_value-pushed.ensures m k v (value_part (cond_at ks ws fields)) maps.locals in
    laws.both_ways_puts k a.pred x y v _ (is.both_ways c.if-kinds-eq-ABSENT.false).0 push c.fresh-made.ensures refl (omega arith)
    c.put-jumped.ensures (rw is.true_is at (c.edge-gone.ensures k maps)) c.put-labelled.ensures (c.edge.ensures k maps)

-- `gen_term::gen_term` meets its contract: the kind of the first entry tells the terminator.
use Rattle.gen_term.specs.Terms.{term_fields_lem}
use Rattle.gen_term.specs.Whole as laws
use Rattle.gen_term.proofs.gen_term.Goals as goal

-- src/lib.rt:186:16
pub bounds-kinds-0 : goal.bounds-kinds-0
bounds-kinds-0 c =
    (term_fields_lem c.args.names c.requires.term c.args.kinds.now c.args.words.now c.requires.front).1

-- src/lib.rt:188:15
pub gen_ret-requires : goal.gen_ret-requires
gen_ret-requires c =
    laws.lends_ret c.requires c.in-90.is

-- src/lib.rt:189:15
pub gen_br-requires : goal.gen_br-requires
gen_br-requires c =
    laws.lends_br c.requires c.in-91.is

-- src/lib.rt:192:15
pub gen_switch-requires : goal.gen_switch-requires
gen_switch-requires c =
    laws.lends_switch c.requires c.in-92.is

-- src/lib.rt:167:1
pub returns-in-90 : goal.returns-in-90
returns-in-90 c = λ k t front maps based.
    let q = laws.is_ret c.args.kinds.now c.args.words.now t front c.in-90.is in
    laws.term_ret k c.args.pred t q.is (c.gen_ret.ensures k q.val q.fields maps.locals based)

-- src/lib.rt:167:1
pub returns-in-91 : goal.returns-in-91
returns-in-91 c = λ k t front maps based.
    let q = laws.is_br c.args.kinds.now c.args.words.now t front c.in-91.is in
    laws.term_br k c.args.pred t q.is (c.gen_br.ensures k q.cond q.if_true q.if_false q.fields maps)

-- src/lib.rt:167:1
pub returns-in-92 : goal.returns-in-92
returns-in-92 c = λ k t front maps based.
    let q = laws.is_switch c.args.kinds.now c.args.words.now t front c.in-92.is in
    laws.term_switch k c.args.pred t q.is (c.gen_switch.ensures k q.ty q.val q.default q.cases q.fields maps)

-- src/lib.rt:167:1
pub returns-in_default : goal.returns-in_default
returns-in_default c = λ k t front maps based.
    let others = c.in_default.in_default-own.rest in
    laws.term_unreachable k c.args.pred t
    (laws.is_unreachable c.args.kinds.now c.args.words.now t front others.0.0.1 others.0.1 others.1) c.put.ensures

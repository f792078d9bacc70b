-- `gen_term::gen_br` meets its contract: 21 stands for no condition.
use Rattle.std.proofs.Common.{sym, arith}
use Rattle.gen_term.specs.Terms.{br_at}
use Rattle.gen_term.specs.Branches as laws
use Rattle.gen_term.proofs.gen_br.Goals as goal

-- src/lib.rt:147:8
pub bounds-kinds-1 : goal.bounds-kinds-1
bounds-kinds-1 c =
    let a = c.args in
    let at = br_at a.kinds.now a.words.now c.requires.cond c.requires.if_true c.requires.if_false c.requires.fields in
    omega (arith, at.in_kinds)

-- src/lib.rt:149:19
pub bounds-words-2 : goal.bounds-words-2
bounds-words-2 c =
    let a = c.args in
    let at = br_at a.kinds.now a.words.now c.requires.cond c.requires.if_true c.requires.if_false c.requires.fields in
    omega (arith, at.in_words)

-- src/lib.rt:148:9
pub edge-requires : goal.edge-requires
edge-requires c =
    let a = c.args in
    let at = br_at a.kinds.now a.words.now c.requires.cond c.requires.if_true c.requires.if_false c.requires.fields in
    record { ctx = c.requires.ctx; maps = c.requires.maps; target = rw at.true_is at.true_below }

-- src/lib.rt:148:9
pub returns-then-kinds-eq-ABSENT : goal.returns-then-kinds-eq-ABSENT
returns-then-kinds-eq-ABSENT c = λ k cond x y fields maps.
    let a = c.args in
    let at = br_at a.kinds.now a.words.now cond x y fields in
    laws.plain_puts k a.pred x y (at.plain c.if-kinds-eq-ABSENT.true) (rw (sym at.true_is) (c.edge.ensures k maps))

-- src/lib.rt:152:5
pub gen_cond_br-requires : goal.gen_cond_br-requires
gen_cond_br-requires c =
    let a = c.args in
    let at = br_at a.kinds.now a.words.now c.requires.cond c.requires.if_true c.requires.if_false c.requires.fields in
    laws.cond_ask c.requires (at.tested c.if-kinds-eq-ABSENT.false).1

-- src/lib.rt:129:1
pub returns : goal.returns
returns c = λ k cond x y fields maps.
    let a = c.args in
    let at = br_at a.kinds.now a.words.now cond x y fields in
    let value = at.tested c.if-kinds-eq-ABSENT.false in
    laws.tested_puts k a.pred x y value.0 value.1 (c.gen_cond_br.ensures k value.0 x y (laws.cond_fields cond value.0 value.1 fields) maps)

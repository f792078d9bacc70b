-- `gen_call::call_target` meets its contract.
use Rattle.std.proofs.Common.{get_or, sym, rules}
use Rattle.gen_call.specs.Calls as laws
use Rattle.gen_call.proofs.call_target.Goals as goal

pub returns-then-kinds-eq-GLOBAL : goal.returns-then-kinds-eq-GLOBAL
returns-then-kinds-eq-GLOBAL c = λ m k v value maps defined.
    let kind = get_or c.args.kinds.now 0 0 in
    let word = get_or c.args.words.now 0 0 in
    rw (sym value.is) (laws.target_global k kind word c.args.args c.if-kinds-eq-GLOBAL.true c.args.defined (rw value.is defined)
    c.need-known.ensures c.call_operand.ensures c.put.ensures)

pub returns-then-kinds-eq-LOCAL : goal.returns-then-kinds-eq-LOCAL
returns-then-kinds-eq-LOCAL c = λ m k v value maps defined.
    let kind = get_or c.args.kinds.now 0 0 in
    let word = get_or c.args.words.now 0 0 in
    rw (sym value.is) (laws.target_local k kind word c.args.args c.if-kinds-eq-LOCAL.true
    (search rules) (rw value.is (c.push_value-address.ensures m k v value maps)) c.put-then-kinds-eq-LOCAL.ensures)

pub returns : goal.returns
returns c = λ m k v value maps defined.
    let kind = get_or c.args.kinds.now 0 0 in
    let word = get_or c.args.words.now 0 0 in
    rw (sym value.is) (laws.target_none k kind word c.args.args c.args.lines.now c.args.operands.now c.if-kinds-eq-GLOBAL.false c.if-kinds-eq-LOCAL.false c.refuse.ensures)

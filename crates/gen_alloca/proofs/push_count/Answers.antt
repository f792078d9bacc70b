-- `gen_alloca::push_count` meets its contract.
use Rattle.gen_alloca.specs.Alloca as laws
use Rattle.gen_alloca.proofs.push_count.Goals as goal

pub returns-then-kinds-eq-ABSENT : goal.returns-then-kinds-eq-ABSENT
returns-then-kinds-eq-ABSENT c = λ m k o count maps.
    let ks = c.args.kinds.now in
    let ws = c.args.words.now in
    laws.one_puts k m ks ws 0 count c.if-kinds-eq-ABSENT.true c.push_int.ensures

pub push_value-requires : goal.push_value-requires
push_value-requires c =
    c.requires.operand c.if-kinds-eq-ABSENT.false

pub returns : goal.returns
returns c = λ m k o count maps.
    let ks = c.args.kinds.now in
    let ws = c.args.words.now in
    laws.count_puts k m ks ws 0 count c.if-kinds-eq-ABSENT.false (λ tv v. c.push_value.ensures m k tv.val v maps)

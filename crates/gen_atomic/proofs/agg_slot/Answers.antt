-- `gen_atomic::agg_slot` meets its contract.
use Rattle.std.proofs.Common.{get_or, sym, ◌∙◌}
use Rattle.gen_values.specs.Fields.{local_below}
use Rattle.gen_fields.specs.Kinds.{is_local}
use Rattle.gen_atomic.specs.Atomic as laws
use Rattle.gen_atomic.proofs.agg_slot.Goals as goal

pub name_slot-requires : goal.name_slot-requires
name_slot-requires c =
    let kind = get_or c.args.kinds.now 0 0 in
    let word = get_or c.args.words.now 0 0 in
    c.requires.reaches.there (is_local kind word c.if-kinds-eq-LOCAL.true)

pub returns-then-kinds-eq-LOCAL : goal.returns-then-kinds-eq-LOCAL
returns-then-kinds-eq-LOCAL c = λ m k v at maps.
    let kind = get_or c.args.kinds.now 0 0 in
    let word = get_or c.args.words.now 0 0 in
    let e = c.if-kinds-eq-LOCAL.true in
    rw (sym at.is)
    (laws.agg_local k kind word c.args.s e (c.name_slot.ensures m k (local_below m word v at.limits (sym at.is ∙ is_local kind word e)) maps))

pub returns : goal.returns
returns c = λ m k v at maps.
    let kind = get_or c.args.kinds.now 0 0 in
    let word = get_or c.args.words.now 0 0 in
    rw (sym at.is) (laws.agg_none k kind word c.args.s c.if-kinds-eq-LOCAL.false c.refuse.ensures)

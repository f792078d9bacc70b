-- `gen_inst::gen_inst` meets its contract: the body, and the result where one is stored.
use mathlib.Core.Path.{sym}
use native.Mathlib.Omega.{arith}
use Rattle.gen_inst.specs.View.{kind_is, group_is, dest_word_lem, inst_in}
use Rattle.gen_inst.specs.Body.{result}
use Rattle.gen_inst.specs.Whole.{inst_within, body_held, part_fields, dest_few, inst_stored, inst_unstored}
use Rattle.gen_inst.proofs.gen_inst.Goals as goal

pub bounds-kinds-0 : goal.bounds-kinds-0
bounds-kinds-0 c =
    (inst_in c.args.kinds.now c.args.words.now c.requires.here).0

pub bounds-words-0 : goal.bounds-words-0
bounds-words-0 c =
    (inst_in c.args.kinds.now c.args.words.now c.requires.here).1

pub slice_bounds-inst_body-count : goal.slice_bounds-inst_body-count
slice_bounds-inst_body-count c =
    omega (arith, (inst_in c.args.kinds.now c.args.words.now c.requires.here).0)

pub slice_bounds-inst_body-start : goal.slice_bounds-inst_body-start
slice_bounds-inst_body-start c =
    omega (arith, (inst_in c.args.kinds.now c.args.words.now c.requires.here).0)

pub slice_bounds-inst_body-count-2 : goal.slice_bounds-inst_body-count-2
slice_bounds-inst_body-count-2 c =
    omega (arith, (inst_in c.args.kinds.now c.args.words.now c.requires.here).1)

pub slice_bounds-inst_body-start-2 : goal.slice_bounds-inst_body-start-2
slice_bounds-inst_body-start-2 c =
    omega (arith, (inst_in c.args.kinds.now c.args.words.now c.requires.here).1)

pub overflow_add-at : goal.overflow_add-at
overflow_add-at c =
    omega (arith, inst_within c.args.kinds.now c.args.words.now c.args.book_kinds.now c.args.book_words.now c.args.at c.requires, c.well_formed)

pub inst_body-body-requires : goal.inst_body-body-requires
inst_body-body-requires c =
    body_held c.args.kinds.now c.args.words.now c.args.book_kinds.now c.args.book_words.now c.args.at c.requires c.inst_group-group.ensures

pub store_dest-requires : goal.store_dest-requires
store_dest-requires c =
    record { there = λ z. omega (arith, dest_few c.args.kinds.now c.args.words.now c.requires.here, c.requires.room, c.inst_body-body.auto.work) }

pub returns-then-stores : goal.returns-then-stores
returns-then-stores c =
    λ k i here base maps.
    let e = group_is i.kind (kind_is c.args.kinds.now c.args.words.now here) c.inst_group-group.ensures in
    let d = dest_word_lem c.args.kinds.now c.args.words.now here in
    let b = c.inst_body-body.ensures k i.dest i.kind e d base maps (part_fields c.args.kinds.now c.args.words.now here) in
    inst_stored k i e (sym c.if-stores.ensures) b
    (result k _ i.dest d
    (c.store_dest.ensures c.args.names k (dest_few c.args.kinds.now c.args.words.now here) b.maps.locals))

pub returns : goal.returns
returns c =
    λ k i here base maps.
    let e = group_is i.kind (kind_is c.args.kinds.now c.args.words.now here) c.inst_group-group.ensures in
    let b = c.inst_body-body.ensures k i.dest i.kind e (dest_word_lem c.args.kinds.now c.args.words.now here) base maps (part_fields c.args.kinds.now c.args.words.now here) in
    inst_unstored k i e (sym c.if-stores.ensures) b

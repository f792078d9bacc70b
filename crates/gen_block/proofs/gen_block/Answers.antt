-- `gen_block::gen_block` meets its contract: the label, the instructions, the terminator.
use native.Mathlib.Omega.{arith}
use Rattle.gen_block.specs.Body.{body_in}
use Rattle.gen_block.specs.Block.{block_in_lem, block_name, body_here, insts_ask, term_at, block_lines}
use Rattle.gen_block.proofs.gen_block.Goals as goal

pub bounds-words-0 : goal.bounds-words-0
bounds-words-0 c =
    block_in_lem c.args.kinds.now c.args.words.now c.requires.front

pub gen_insts-body-requires : goal.gen_insts-body-requires
gen_insts-body-requires c =
    insts_ask c.args.kinds.now c.args.words.now c.args.book_kinds.now c.args.book_words.now c.requires

pub offset_bounds-kinds-end : goal.offset_bounds-kinds-end
offset_bounds-kinds-end c =
    let a = insts_ask c.args.kinds.now c.args.words.now c.args.book_kinds.now c.args.book_words.now c.requires in
    let d = c.gen_insts-body.ensures a.ctx a.insts a.term a.rest a.front a.slot a.maps in
    let q = body_in c.args.kinds.now c.args.words.now c.gen_insts-body.result.at d.ends in
    omega (arith, q.0, q.1, c.well_formed)

pub slice_bounds-gen_term-count : goal.slice_bounds-gen_term-count
slice_bounds-gen_term-count c =
    let a = insts_ask c.args.kinds.now c.args.words.now c.args.book_kinds.now c.args.book_words.now c.requires in
    let d = c.gen_insts-body.ensures a.ctx a.insts a.term a.rest a.front a.slot a.maps in
    let q = body_in c.args.kinds.now c.args.words.now c.gen_insts-body.result.at d.ends in
    omega (arith, q.0, q.1, c.well_formed)

pub slice_bounds-gen_term-start : goal.slice_bounds-gen_term-start
slice_bounds-gen_term-start c =
    let a = insts_ask c.args.kinds.now c.args.words.now c.args.book_kinds.now c.args.book_words.now c.requires in
    let d = c.gen_insts-body.ensures a.ctx a.insts a.term a.rest a.front a.slot a.maps in
    let q = body_in c.args.kinds.now c.args.words.now c.gen_insts-body.result.at d.ends in
    omega (arith, q.0, q.1, c.well_formed)

pub offset_bounds-words-end : goal.offset_bounds-words-end
offset_bounds-words-end c =
    let a = insts_ask c.args.kinds.now c.args.words.now c.args.book_kinds.now c.args.book_words.now c.requires in
    let d = c.gen_insts-body.ensures a.ctx a.insts a.term a.rest a.front a.slot a.maps in
    let q = body_in c.args.kinds.now c.args.words.now c.gen_insts-body.result.at d.ends in
    omega (arith, q.0, q.1, c.well_formed)

pub slice_bounds-gen_term-count-2 : goal.slice_bounds-gen_term-count-2
slice_bounds-gen_term-count-2 c =
    let a = insts_ask c.args.kinds.now c.args.words.now c.args.book_kinds.now c.args.book_words.now c.requires in
    let d = c.gen_insts-body.ensures a.ctx a.insts a.term a.rest a.front a.slot a.maps in
    let q = body_in c.args.kinds.now c.args.words.now c.gen_insts-body.result.at d.ends in
    omega (arith, q.0, q.1, c.well_formed)

pub slice_bounds-gen_term-start-2 : goal.slice_bounds-gen_term-start-2
slice_bounds-gen_term-start-2 c =
    let a = insts_ask c.args.kinds.now c.args.words.now c.args.book_kinds.now c.args.book_words.now c.requires in
    let d = c.gen_insts-body.ensures a.ctx a.insts a.term a.rest a.front a.slot a.maps in
    let q = body_in c.args.kinds.now c.args.words.now c.gen_insts-body.result.at d.ends in
    omega (arith, q.0, q.1, c.well_formed)

pub gen_term-ended-requires : goal.gen_term-ended-requires
gen_term-ended-requires c =
    let a = insts_ask c.args.kinds.now c.args.words.now c.args.book_kinds.now c.args.book_words.now c.requires in
    let d = c.gen_insts-body.ensures a.ctx a.insts a.term a.rest a.front a.slot a.maps in
    record { ctx = a.ctx; maps = d.did.maps; term = a.term; front = term_at c.args.kinds.now c.args.words.now d.ends }

pub returns : goal.returns
returns c =
    λ k b rest here base maps.
    let ends = c.gen_insts-body.ensures k b.insts b.term rest (body_here c.args.kinds.now c.args.words.now here) base.0 maps in
    block_lines k b (block_name c.args.kinds.now c.args.words.now here) (omega (arith, c.shared_slice_known-5-1.given 0)) c.put-labelled.ensures ends
    (c.gen_term-ended.ensures k b.term (term_at c.args.kinds.now c.args.words.now ends.ends) ends.did.maps base)

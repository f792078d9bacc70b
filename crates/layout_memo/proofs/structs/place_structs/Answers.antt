use borrow.Author.Rules.{rules}
use native.Mathlib.Omega.{arith}
use Rattle.layout_memo.specs.Structs as laws
use Rattle.layout_memo.proofs.structs.place_structs.Goals as goal

pub first_struct-at-requires : goal.first_struct-at-requires
first_struct-at-requires c = c.requires.book

pub loop-at-init : goal.loop-at-init
loop-at-init c = (laws.placing_start _ _ _ _ c.requires c.first_struct-at.ensures, laws.kept_none)

pub offset_bounds-kinds-at : goal.offset_bounds-kinds-at
offset_bounds-kinds-at c =
    let h = laws.placing_kinds c.args.names c.args.kinds.now c.args.words.now _ _ c.loop-at.invariant.0 in
    search rules

pub bounds-kinds-at : goal.bounds-kinds-at
bounds-kinds-at c =
    let h = laws.placing_kinds c.args.names c.args.kinds.now c.args.words.now _ _ c.loop-at.invariant.0 in
    search rules

pub place_struct-at-requires : goal.place_struct-at-requires
place_struct-at-requires c = record { placing = c.loop-at.invariant.0; kind = c.loop-at-test.true }

pub loop-at-smaller : goal.loop-at-smaller
loop-at-smaller c =
    let h = laws.placing_kinds c.args.names c.args.kinds.now c.args.words.now _ _
    c.place_struct-at.ensures.next in
    let g = c.place_struct-at.ensures.more in
    omega arith

pub loop-at-preserved : goal.loop-at-preserved
loop-at-preserved c = (c.place_struct-at.ensures.next, laws.kept_then c.loop-at.invariant.1 c.place_struct-at.ensures.kept)

pub returns : goal.returns
returns c =
    record
    { ready = laws.placing_done c.args.names c.args.kinds.now c.args.words.now _ _ c.loop-at.invariant.0 c.loop-at-test.false; kept = c.loop-at.invariant.1 }

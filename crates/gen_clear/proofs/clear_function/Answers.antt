use Rattle.gen_clear.specs.Clear as laws
use borrow.Author.Rules.{rules}
use Rattle.gen_clear.proofs.clear_function.Goals as goal

pub loop-at-init : goal.loop-at-init
loop-at-init c = c.requires

pub offset_bounds-kinds-at : goal.offset_bounds-kinds-at
offset_bounds-kinds-at c =
    let l = rw c.shorter-at-end.ensures at c.loop-at-test.true in
    let h = laws.here _ c.args.kinds.now c.args.words.now _ _ _ _ c.loop-at.invariant l in
    let k = h.in_kinds in
    search rules

pub bounds-kinds-at : goal.bounds-kinds-at
bounds-kinds-at c =
    let l = rw c.shorter-at-end.ensures at c.loop-at-test.true in
    let h = laws.here _ c.args.kinds.now c.args.words.now _ _ _ _ c.loop-at.invariant l in
    let k = h.in_kinds in
    search rules

pub offset_bounds-words-at : goal.offset_bounds-words-at
offset_bounds-words-at c =
    let l = rw c.shorter-at-end.ensures at c.loop-at-test.true in
    let h = laws.here _ c.args.kinds.now c.args.words.now _ _ _ _ c.loop-at.invariant l in
    let w = h.in_words in
    search rules

pub bounds-words-at : goal.bounds-words-at
bounds-words-at c =
    let l = rw c.shorter-at-end.ensures at c.loop-at-test.true in
    let h = laws.here _ c.args.kinds.now c.args.words.now _ _ _ _ c.loop-at.invariant l in
    let w = h.in_words in
    search rules

pub clear_entry-requires : goal.clear_entry-requires
clear_entry-requires c =
    let l = rw c.shorter-at-end.ensures at c.loop-at-test.true in
    let inv = c.loop-at.invariant in
    (laws.now_bounded _ c.args.kinds.now c.args.words.now _ _ _ _ inv l, inv.room)

pub loop-at-preserved : goal.loop-at-preserved
loop-at-preserved c =
    let l = rw c.shorter-at-end.ensures at c.loop-at-test.true in
    laws.clear_next _ c.args.kinds.now c.args.words.now _ _ _ _ c.loop-at.invariant l c.clear_entry.ensures

pub shape_of-work : goal.shape_of-work
shape_of-work c =
    c.loop-at.invariant.long

pub returns : goal.returns
returns c =
    laws.clear_done _ _ _ _ _ _ c.loop-at.invariant (rw c.shorter-at-end.ensures at c.loop-at-test.false)

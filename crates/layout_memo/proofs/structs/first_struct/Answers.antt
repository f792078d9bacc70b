use borrow.Author.Rules.{rules}
use native.Mathlib.Omega.{arith}
use Rattle.layout_memo.specs.Structs as laws
use Rattle.layout_memo.proofs.structs.first_struct.Goals as goal

pub loop-at-init : goal.loop-at-init
loop-at-init c = laws.marks_start _ _ c.requires

pub offset_bounds-kinds-at : goal.offset_bounds-kinds-at
offset_bounds-kinds-at c = let h = laws.marks_kinds c.args.names c.args.kinds.now c.args.words.now _ c.loop-at.invariant in search rules

pub bounds-kinds-at : goal.bounds-kinds-at
bounds-kinds-at c = let h = laws.marks_kinds c.args.names c.args.kinds.now c.args.words.now _ c.loop-at.invariant in search rules

pub overflow_add-at : goal.overflow_add-at
overflow_add-at c =
    let h = laws.marks_kinds c.args.names c.args.kinds.now c.args.words.now _ c.loop-at.invariant in
    search rules

pub loop-at-smaller : goal.loop-at-smaller
loop-at-smaller c =
    let h = laws.marks_kinds c.args.names c.args.kinds.now c.args.words.now _ c.loop-at.invariant in
    omega arith

pub loop-at-preserved : goal.loop-at-preserved
loop-at-preserved c =
    laws.marks_next c.args.names c.args.kinds.now c.args.words.now _ c.loop-at.invariant c.loop-at-test.true

pub returns : goal.returns
returns c =
    laws.marks_done c.args.names c.args.kinds.now c.args.words.now _ c.loop-at.invariant c.loop-at-test.false

use borrow.Author.Rules.{rules}
use native.Mathlib.Omega.{arith}
use Rattle.gen_blocks.specs.Function as laws
use Rattle.gen_blocks.proofs.find_function.Goals as goal

pub loop-at-init : goal.loop-at-init
loop-at-init c = laws.scan_start _ _ c.requires

pub offset_bounds-kinds-at : goal.offset_bounds-kinds-at
offset_bounds-kinds-at c =
    let h = laws.scan_there _ c.args.kinds.now c.args.words.now _ c.loop-at.invariant in
    search rules

pub bounds-kinds-at : goal.bounds-kinds-at
bounds-kinds-at c =
    let h = laws.scan_there _ c.args.kinds.now c.args.words.now _ c.loop-at.invariant in
    search rules

pub overflow_add-at : goal.overflow_add-at
overflow_add-at c =
    let h = laws.scan_there _ c.args.kinds.now c.args.words.now _ c.loop-at.invariant in
    search rules

pub loop-at-smaller : goal.loop-at-smaller
loop-at-smaller c =
    let h = laws.scan_there _ c.args.kinds.now c.args.words.now _ c.loop-at.invariant in
    omega arith

pub loop-at-preserved : goal.loop-at-preserved
loop-at-preserved c =
    laws.scan_next _ c.args.kinds.now c.args.words.now _ c.loop-at.invariant c.loop-at-test.true

pub returns : goal.returns
returns c =
    laws.scan_done _ c.args.kinds.now c.args.words.now _ c.loop-at.invariant c.loop-at-test.false

-- `gen_clear::clear_entry` meets its contract: one case for each of the kinds that say a name.
use Prim.Native.Nat.{◌-◌}
use lib.ListN.{length-set}
use native.Mathlib.Omega.{arith}
use Rattle.book.specs.Work.{slot_at}
use Rattle.gen_clear.specs.Clear as laws
use borrow.Author.Rules.{rules}
use Rattle.gen_clear.proofs.clear_entry.Goals as goal

pub overflow_sub-first : goal.overflow_sub-first
overflow_sub-first c =
    let word = c.requires.0.inst c.if-kind-ge-ADD.true in
    let positive = laws.positive_of _ c.if-word-ne0.true in
    let room = c.requires.1 in
    search rules

pub overflow_mul-first : goal.overflow_mul-first
overflow_mul-first c =
    let word = c.requires.0.inst c.if-kind-ge-ADD.true in
    let positive = laws.positive_of _ c.if-word-ne0.true in
    let room = c.requires.1 in
    search rules

pub overflow_add-work : goal.overflow_add-work
overflow_add-work c =
    let word = c.requires.0.inst c.if-kind-ge-ADD.true in
    let positive = laws.positive_of _ c.if-word-ne0.true in
    let room = c.requires.1 in
    search rules

pub offset_bounds-work-first : goal.offset_bounds-work-first
offset_bounds-work-first c =
    let word = c.requires.0.inst c.if-kind-ge-ADD.true in
    let positive = laws.positive_of _ c.if-word-ne0.true in
    let room = c.requires.1 in
    search rules

pub bounds-work-first : goal.bounds-work-first
bounds-work-first c =
    let word = c.requires.0.inst c.if-kind-ge-ADD.true in
    let positive = laws.positive_of _ c.if-word-ne0.true in
    let room = c.requires.1 in
    search rules

pub overflow_add-work-then-word-ne0 : goal.overflow_add-work-then-word-ne0
overflow_add-work-then-word-ne0 c =
    let word = c.requires.0.inst c.if-kind-ge-ADD.true in
    let positive = laws.positive_of _ c.if-word-ne0.true in
    let room = c.requires.1 in
    search rules

pub offset_bounds-work-first-then-word-ne0 : goal.offset_bounds-work-first-then-word-ne0
offset_bounds-work-first-then-word-ne0 c =
    let word = c.requires.0.inst c.if-kind-ge-ADD.true in
    let positive = laws.positive_of _ c.if-word-ne0.true in
    let room = c.requires.1 in
    search rules

pub bounds-work-first-then-word-ne0 : goal.bounds-work-first-then-word-ne0
bounds-work-first-then-word-ne0 c =
    let word = c.requires.0.inst c.if-kind-ge-ADD.true in
    let positive = laws.positive_of _ c.if-word-ne0.true in
    let room = c.requires.1 in
    omega (arith, length-set c.args.work.now (slot_at (c.args.word - 1)) 0)

pub returns-then-word-ne0 : goal.returns-then-word-ne0
returns-then-word-ne0 c =
    let word = c.requires.0.inst c.if-kind-ge-ADD.true in
    let positive = laws.positive_of _ c.if-word-ne0.true in
    let room = c.requires.1 in
    laws.result_cleared _ _ _ _ c.if-kind-ge-ADD.true c.if-word-ne0.true word room

pub returns-else-word-ne0 : goal.returns-else-word-ne0
returns-else-word-ne0 c =
    let zero = c.if-word-ne0.false in
    rw zero (laws.unnamed_cleared _ _ _ (λ e. omega (arith, c.if-kind-ge-ADD.true)))

pub overflow_mul-work : goal.overflow_mul-work
overflow_mul-work c =
    let word = c.requires.0.block c.if-kind-eq-BLOCK.true in
    let room = c.requires.1 in
    search rules

pub overflow_add-work-then-kind-eq-BLOCK : goal.overflow_add-work-then-kind-eq-BLOCK
overflow_add-work-then-kind-eq-BLOCK c =
    let word = c.requires.0.block c.if-kind-eq-BLOCK.true in
    let room = c.requires.1 in
    search rules

pub offset_bounds-work-word : goal.offset_bounds-work-word
offset_bounds-work-word c =
    let word = c.requires.0.block c.if-kind-eq-BLOCK.true in
    let room = c.requires.1 in
    search rules

pub bounds-work-word : goal.bounds-work-word
bounds-work-word c =
    let word = c.requires.0.block c.if-kind-eq-BLOCK.true in
    let room = c.requires.1 in
    search rules

pub returns-then-kind-eq-BLOCK : goal.returns-then-kind-eq-BLOCK
returns-then-kind-eq-BLOCK c =
    let word = c.requires.0.block c.if-kind-eq-BLOCK.true in
    let room = c.requires.1 in
    rw c.if-kind-eq-BLOCK.true (laws.block_cleared _ _ _ word room)

pub overflow_sub-work : goal.overflow_sub-work
overflow_sub-work c =
    let word = c.requires.0.param c.if-kind-eq-PARAM.true in
    let positive = laws.positive_of _ c.if-word-ne0-2.true in
    let room = c.requires.1 in
    search rules

pub overflow_mul-work-then-word-ne0-2 : goal.overflow_mul-work-then-word-ne0-2
overflow_mul-work-then-word-ne0-2 c =
    let word = c.requires.0.param c.if-kind-eq-PARAM.true in
    let positive = laws.positive_of _ c.if-word-ne0-2.true in
    let room = c.requires.1 in
    search rules

pub offset_bounds-work-word-then-word-ne0-2 : goal.offset_bounds-work-word-then-word-ne0-2
offset_bounds-work-word-then-word-ne0-2 c =
    let word = c.requires.0.param c.if-kind-eq-PARAM.true in
    let positive = laws.positive_of _ c.if-word-ne0-2.true in
    let room = c.requires.1 in
    search rules

pub bounds-work-word-then-word-ne0-2 : goal.bounds-work-word-then-word-ne0-2
bounds-work-word-then-word-ne0-2 c =
    let word = c.requires.0.param c.if-kind-eq-PARAM.true in
    let positive = laws.positive_of _ c.if-word-ne0-2.true in
    let room = c.requires.1 in
    search rules

pub returns-then-word-ne0-2 : goal.returns-then-word-ne0-2
returns-then-word-ne0-2 c =
    let word = c.requires.0.param c.if-kind-eq-PARAM.true in
    rw c.if-kind-eq-PARAM.true (laws.param_cleared _ _ _ c.if-word-ne0-2.true word c.requires.1)

pub returns-else-word-ne0-2 : goal.returns-else-word-ne0-2
returns-else-word-ne0-2 c =
    rw c.if-word-ne0-2.false (laws.unnamed_cleared _ _ _ (λ e. omega (arith, c.if-kind-eq-PARAM.true)))

pub returns-else-kind-eq-PARAM : goal.returns-else-kind-eq-PARAM
returns-else-kind-eq-PARAM c =
    laws.other_cleared _ _ _ _ c.if-kind-ge-ADD.false c.if-kind-eq-BLOCK.false c.if-kind-eq-PARAM.false

use Rattle.gen_blocks.specs.Words.{words_none, words_then}
use Rattle.gen_blocks.specs.Blocks as laws
use borrow.Author.Rules.{rules}
use mathlib.Core.Path.{◌≡◌}
use native.Mathlib.Omega.{arith}
use Rattle.gen_blocks.proofs.place_blocks.Goals as goal
use Rattle.gen_blocks.proofs.place_blocks.Goals.{then-kinds-next-eq-BLOCK, else-kinds-next-eq-BLOCK}

pub loop-next-init : goal.loop-next-init
loop-next-init c = λ blocks rest book k. (laws.blocks_start _ blocks rest book _ _ _ k, words_none)

pub offset_bounds-kinds-next : goal.offset_bounds-kinds-next
offset_bounds-kinds-next c =
    let ks = c.args.kinds.now in
    let ws = c.args.words.now in
    let l = rw c.shorter-end.ensures at c.loop-next-test.true in
    let k = c.requires.1.1 in
    let i = (c.loop-next.invariant c.requires.0 c.requires.1.0 k.0 k.1).0 in
    let h = laws.in_kinds _ ks ws _ _ _ _ _ _ i l in
    search rules

pub bounds-kinds-next : goal.bounds-kinds-next
bounds-kinds-next c =
    let ks = c.args.kinds.now in
    let ws = c.args.words.now in
    let l = rw c.shorter-end.ensures at c.loop-next-test.true in
    let k = c.requires.1.1 in
    let i = (c.loop-next.invariant c.requires.0 c.requires.1.0 k.0 k.1).0 in
    let h = laws.in_kinds _ ks ws _ _ _ _ _ _ i l in
    search rules

pub shape_of-work-then-kinds-next-eq-FUNCTION : goal.shape_of-work-then-kinds-next-eq-FUNCTION
shape_of-work-then-kinds-next-eq-FUNCTION c =
    let k = c.requires.1.1 in
    (c.loop-next.invariant c.requires.0 c.requires.1.0 k.0 k.1).1.long

pub returns-then-kinds-next-eq-FUNCTION : goal.returns-then-kinds-next-eq-FUNCTION
returns-then-kinds-next-eq-FUNCTION c =
    let ks = c.args.kinds.now in
    let ws = c.args.words.now in
    let l = rw c.shorter-end.ensures at c.loop-next-test.true in
    λ blocks rest book k.
    let i = c.loop-next.invariant blocks rest book k in
    let z = laws.blocks_five _ ks ws _ _ _ _ _ _ i.0 l c.if-kinds-next-eq-FUNCTION.true in
    laws.blocks_done _ ks ws _ _ _ _ _ _ i.0 _ z.0 z.1 i.1

pub offset_bounds-kinds-next-in-loop-next : goal.offset_bounds-kinds-next-in-loop-next
offset_bounds-kinds-next-in-loop-next c =
    let ks = c.args.kinds.now in
    let ws = c.args.words.now in
    let l = rw c.shorter-end.ensures at c.loop-next-test.true in
    let k = c.requires.1.1 in
    let i = (c.loop-next.invariant c.requires.0 c.requires.1.0 k.0 k.1).0 in
    let h = laws.in_kinds _ ks ws _ _ _ _ _ _ i l in
    search rules

pub bounds-kinds-next-in-loop-next : goal.bounds-kinds-next-in-loop-next
bounds-kinds-next-in-loop-next c =
    let ks = c.args.kinds.now in
    let ws = c.args.words.now in
    let l = rw c.shorter-end.ensures at c.loop-next-test.true in
    let k = c.requires.1.1 in
    let i = (c.loop-next.invariant c.requires.0 c.requires.1.0 k.0 k.1).0 in
    let h = laws.in_kinds _ ks ws _ _ _ _ _ _ i l in
    search rules

pub overflow_add-first : goal.overflow_add-first
overflow_add-first c =
    let ks = c.args.kinds.now in
    let ws = c.args.words.now in
    let l = rw c.shorter-end.ensures at c.loop-next-test.true in
    let k = c.requires.1.1 in
    let i = (c.loop-next.invariant c.requires.0 c.requires.1.0 k.0 k.1).0 in
    let h = laws.place_few _ ks ws _ _ _ _ _ _ i l in
    search rules

pub overflow_add-first-then-kinds-next-eq-BLOCK : goal.overflow_add-first-then-kinds-next-eq-BLOCK
overflow_add-first-then-kinds-next-eq-BLOCK c =
    let ks = c.args.kinds.now in
    let ws = c.args.words.now in
    let l = rw c.shorter-end.ensures at c.loop-next-test.true in
    let k = c.requires.1.1 in
    let i = (c.loop-next.invariant c.requires.0 c.requires.1.0 k.0 k.1).0 in
    let h = laws.place_few _ ks ws _ _ _ _ _ _ i l in
    search rules

pub offset_bounds-words-next : goal.offset_bounds-words-next
offset_bounds-words-next c =
    let ks = c.args.kinds.now in
    let ws = c.args.words.now in
    let l = rw c.shorter-end.ensures at c.loop-next-test.true in
    let k = c.requires.1.1 in
    let i = (c.loop-next.invariant c.requires.0 c.requires.1.0 k.0 k.1).0 in
    let h = laws.in_words _ ks ws _ _ _ _ _ _ i l in
    search rules

pub bounds-words-next : goal.bounds-words-next
bounds-words-next c =
    let ks = c.args.kinds.now in
    let ws = c.args.words.now in
    let l = rw c.shorter-end.ensures at c.loop-next-test.true in
    let k = c.requires.1.1 in
    let i = (c.loop-next.invariant c.requires.0 c.requires.1.0 k.0 k.1).0 in
    let h = laws.in_words _ ks ws _ _ _ _ _ _ i l in
    search rules

pub overflow_mul-work : goal.overflow_mul-work
overflow_mul-work c =
    let ks = c.args.kinds.now in
    let ws = c.args.words.now in
    let l = rw c.shorter-end.ensures at c.loop-next-test.true in
    let k = c.requires.1.1 in
    let i = (c.loop-next.invariant c.requires.0 c.requires.1.0 k.0 k.1).0 in
    let h = laws.label_below _ ks ws _ _ _ _ _ _ i l c.if-kinds-next-eq-FUNCTION.false c.if-kinds-next-eq-BLOCK.true in
    let r = i.room in
    search rules

pub overflow_add-work : goal.overflow_add-work
overflow_add-work c =
    let ks = c.args.kinds.now in
    let ws = c.args.words.now in
    let l = rw c.shorter-end.ensures at c.loop-next-test.true in
    let k = c.requires.1.1 in
    let i = (c.loop-next.invariant c.requires.0 c.requires.1.0 k.0 k.1).0 in
    let h = laws.label_below _ ks ws _ _ _ _ _ _ i l c.if-kinds-next-eq-FUNCTION.false c.if-kinds-next-eq-BLOCK.true in
    let r = i.room in
    search rules

pub offset_bounds-work-words : goal.offset_bounds-work-words
offset_bounds-work-words c =
    let ks = c.args.kinds.now in
    let ws = c.args.words.now in
    let l = rw c.shorter-end.ensures at c.loop-next-test.true in
    let k = c.requires.1.1 in
    let i = (c.loop-next.invariant c.requires.0 c.requires.1.0 k.0 k.1).0 in
    let h = laws.label_below _ ks ws _ _ _ _ _ _ i l c.if-kinds-next-eq-FUNCTION.false c.if-kinds-next-eq-BLOCK.true in
    let r = i.room in
    search rules

pub bounds-work-words : goal.bounds-work-words
bounds-work-words c =
    let ks = c.args.kinds.now in
    let ws = c.args.words.now in
    let l = rw c.shorter-end.ensures at c.loop-next-test.true in
    let k = c.requires.1.1 in
    let i = (c.loop-next.invariant c.requires.0 c.requires.1.0 k.0 k.1).0 in
    let h = laws.label_below _ ks ws _ _ _ _ _ _ i l c.if-kinds-next-eq-FUNCTION.false c.if-kinds-next-eq-BLOCK.true in
    let r = i.room in
    search rules

pub loop-next-preserved : goal.loop-next-preserved
loop-next-preserved c =
    let ks = c.args.kinds.now in
    let ws = c.args.words.now in
    let l = rw c.shorter-end.ensures at c.loop-next-test.true in
    λ blocks rest book k.
    let i = c.loop-next.invariant blocks rest book k in
    elim c.if-kinds-next-eq-BLOCK.branch [
      | then-kinds-next-eq-BLOCK w ↦ rw w.work-is (laws.blocks_next _ ks ws _ _ _ _ _ _ i.0 l c.if-kinds-next-eq-FUNCTION.false w.if-kinds-next-eq-BLOCK.true, words_then i.1 (laws.blocks_kept _ ks ws _ _ _ _ _ _ i.0 l c.if-kinds-next-eq-FUNCTION.false w.if-kinds-next-eq-BLOCK.true))
      | else-kinds-next-eq-BLOCK w ↦ rw w.work-is (laws.blocks_skip _ ks ws _ _ _ _ _ _ i.0 l c.if-kinds-next-eq-FUNCTION.false w.if-kinds-next-eq-BLOCK.false, i.1)
    ]

pub shape_of-work : goal.shape_of-work
shape_of-work c =
    let k = c.requires.1.1 in
    (c.loop-next.invariant c.requires.0 c.requires.1.0 k.0 k.1).1.long

pub returns : goal.returns
returns c =
    let ks = c.args.kinds.now in
    let ws = c.args.words.now in
    λ blocks rest book k.
    let i = c.loop-next.invariant blocks rest book k in
    let z = laws.blocks_last _ ks ws _ _ _ _ _ _ i.0 (rw c.shorter-end.ensures at c.loop-next-test.false) in
    let e : c.shorter-end.result ≡ c.loop-next.next = omega arith in
    rw e (laws.blocks_done _ ks ws _ _ _ _ _ _ i.0 _ z.0 z.1 i.1)

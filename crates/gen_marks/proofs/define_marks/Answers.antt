use borrow.Author.Rules.{rules}
use Prim.Native.Nat.{◌<◌}
use mathlib.Core.Path.{sym, ◌∙◌}
use lib.ListN.{length}
use Rattle.book.specs.Entry.{entries}
use Rattle.gen_marks.specs.Defined as laws
use Rattle.gen_marks.proofs.define_marks.Goals as goal
use Rattle.gen_marks.proofs.define_marks.Goals.{then-defines, else-defines}

pub loop-at-init : goal.loop-at-init
loop-at-init c =
    laws.define_start _ _ _ c.requires

pub offset_bounds-kinds-at : goal.offset_bounds-kinds-at
offset_bounds-kinds-at c =
    let l : c.loop-at.at < length (entries c.args.kinds.now c.args.words.now) = rw c.shorter-at-end.ensures at c.loop-at-test.true in
    let h = laws.seen_here _ c.args.kinds.now c.args.words.now _ _ _ c.loop-at.invariant l in
    let k = h.in_kinds in
    search rules

pub bounds-kinds-at : goal.bounds-kinds-at
bounds-kinds-at c =
    let l : c.loop-at.at < length (entries c.args.kinds.now c.args.words.now) = rw c.shorter-at-end.ensures at c.loop-at-test.true in
    let h = laws.seen_here _ c.args.kinds.now c.args.words.now _ _ _ c.loop-at.invariant l in
    let k = h.in_kinds in
    search rules

pub offset_bounds-words-at : goal.offset_bounds-words-at
offset_bounds-words-at c =
    let l : c.loop-at.at < length (entries c.args.kinds.now c.args.words.now) = rw c.shorter-at-end.ensures at c.loop-at-test.true in
    let h = laws.seen_here _ c.args.kinds.now c.args.words.now _ _ _ c.loop-at.invariant l in
    let w = h.in_words in
    search rules

pub bounds-words-at : goal.bounds-words-at
bounds-words-at c =
    let l : c.loop-at.at < length (entries c.args.kinds.now c.args.words.now) = rw c.shorter-at-end.ensures at c.loop-at-test.true in
    let h = laws.seen_here _ c.args.kinds.now c.args.words.now _ _ _ c.loop-at.invariant l in
    let w = h.in_words in
    search rules

pub overflow_mul-place : goal.overflow_mul-place
overflow_mul-place c =
    let l : c.loop-at.at < length (entries c.args.kinds.now c.args.words.now) = rw c.shorter-at-end.ensures at c.loop-at-test.true in
    let h = laws.seen_here _ c.args.kinds.now c.args.words.now _ _ _ c.loop-at.invariant l in
    let b = h.below (sym c.defines.ensures ∙ c.if-defines.true) in
    let r = c.loop-at.invariant.room in
    search rules

pub overflow_add-place : goal.overflow_add-place
overflow_add-place c =
    let l : c.loop-at.at < length (entries c.args.kinds.now c.args.words.now) = rw c.shorter-at-end.ensures at c.loop-at-test.true in
    let h = laws.seen_here _ c.args.kinds.now c.args.words.now _ _ _ c.loop-at.invariant l in
    let b = h.below (sym c.defines.ensures ∙ c.if-defines.true) in
    let r = c.loop-at.invariant.room in
    search rules

pub offset_bounds-work-place : goal.offset_bounds-work-place
offset_bounds-work-place c =
    let l : c.loop-at.at < length (entries c.args.kinds.now c.args.words.now) = rw c.shorter-at-end.ensures at c.loop-at-test.true in
    let h = laws.seen_here _ c.args.kinds.now c.args.words.now _ _ _ c.loop-at.invariant l in
    let b = h.below (sym c.defines.ensures ∙ c.if-defines.true) in
    let r = c.loop-at.invariant.room in
    search rules

pub bounds-work-place : goal.bounds-work-place
bounds-work-place c =
    let l : c.loop-at.at < length (entries c.args.kinds.now c.args.words.now) = rw c.shorter-at-end.ensures at c.loop-at-test.true in
    let h = laws.seen_here _ c.args.kinds.now c.args.words.now _ _ _ c.loop-at.invariant l in
    let b = h.below (sym c.defines.ensures ∙ c.if-defines.true) in
    let r = c.loop-at.invariant.room in
    search rules

pub offset_bounds-work-place-then-defines : goal.offset_bounds-work-place-then-defines
offset_bounds-work-place-then-defines c =
    let l : c.loop-at.at < length (entries c.args.kinds.now c.args.words.now) = rw c.shorter-at-end.ensures at c.loop-at-test.true in
    let h = laws.seen_here _ c.args.kinds.now c.args.words.now _ _ _ c.loop-at.invariant l in
    let b = h.below (sym c.defines.ensures ∙ c.if-defines.true) in
    let r = c.loop-at.invariant.room in
    search rules

pub bounds-work-place-then-defines : goal.bounds-work-place-then-defines
bounds-work-place-then-defines c =
    let l : c.loop-at.at < length (entries c.args.kinds.now c.args.words.now) = rw c.shorter-at-end.ensures at c.loop-at-test.true in
    let h = laws.seen_here _ c.args.kinds.now c.args.words.now _ _ _ c.loop-at.invariant l in
    let b = h.below (sym c.defines.ensures ∙ c.if-defines.true) in
    let r = c.loop-at.invariant.room in
    search rules

pub loop-at-preserved : goal.loop-at-preserved
loop-at-preserved c =
    let l : c.loop-at.at < length (entries c.args.kinds.now c.args.words.now) = rw c.shorter-at-end.ensures at c.loop-at-test.true in
    let h = laws.seen_here _ c.args.kinds.now c.args.words.now _ _ _ c.loop-at.invariant l in
    elim c.if-defines.branch [
      | then-defines w ↦ rw (w.work-is, w.defined.ensures) (h.defined (sym c.defines.ensures ∙ w.if-defines.true))
      | else-defines w ↦ rw w.work-is (h.other (sym c.defines.ensures ∙ w.if-defines.false))
    ]

pub returns : goal.returns
returns c =
    laws.define_done _ c.args.kinds.now c.args.words.now _ _ _ c.loop-at.invariant (rw c.shorter-at-end.ensures at c.loop-at-test.false)

-- `gen_edge::emit_edge_copies` meets its contract: the entries lent on are those of the block that the name leads to.
use Rattle.std.proofs.Common.{refl, arith}
use Rattle.gen_edge.specs.Edges.{unknown_puts, target, copied_puts}
use Rattle.gen_edge.proofs.emit_edge_copies.Goals as goal

-- src/lib.rt:266:9
pub returns-then-place-eq0 : goal.returns-then-place-eq0
returns-then-place-eq0 c = λ k maps.
    let a = c.args in
    unknown_puts k a.pred a.succ a.names a.book_kinds.now a.book_words.now a.work.now maps c.requires.target refl c.if-place-eq0.true
    a.s a.lines.now a.operands.now c.refuse.ensures

-- src/lib.rt:269:17
pub offset_bounds-book_kinds-at : goal.offset_bounds-book_kinds-at
offset_bounds-book_kinds-at c =
    let a = c.args in
    let there = target c.requires.ctx a.pred a.succ a.names a.book_kinds.now a.book_words.now a.work.now c.requires.maps c.requires.target refl c.if-place-eq0.false in
    omega (arith, there.in_kinds, c.well_formed)

-- src/lib.rt:269:17
pub slice_bounds-kinds-count : goal.slice_bounds-kinds-count
slice_bounds-kinds-count c =
    let a = c.args in
    let there = target c.requires.ctx a.pred a.succ a.names a.book_kinds.now a.book_words.now a.work.now c.requires.maps c.requires.target refl c.if-place-eq0.false in
    omega (arith, there.in_kinds, c.well_formed)

-- src/lib.rt:269:17
pub slice_bounds-kinds-start : goal.slice_bounds-kinds-start
slice_bounds-kinds-start c =
    let a = c.args in
    let there = target c.requires.ctx a.pred a.succ a.names a.book_kinds.now a.book_words.now a.work.now c.requires.maps c.requires.target refl c.if-place-eq0.false in
    omega (arith, there.in_kinds, c.well_formed)

-- src/lib.rt:270:17
pub offset_bounds-book_words-at : goal.offset_bounds-book_words-at
offset_bounds-book_words-at c =
    let a = c.args in
    let there = target c.requires.ctx a.pred a.succ a.names a.book_kinds.now a.book_words.now a.work.now c.requires.maps c.requires.target refl c.if-place-eq0.false in
    omega (arith, there.in_words, c.well_formed)

-- src/lib.rt:270:17
pub slice_bounds-words-count : goal.slice_bounds-words-count
slice_bounds-words-count c =
    let a = c.args in
    let there = target c.requires.ctx a.pred a.succ a.names a.book_kinds.now a.book_words.now a.work.now c.requires.maps c.requires.target refl c.if-place-eq0.false in
    omega (arith, there.in_words, c.well_formed)

-- src/lib.rt:270:17
pub slice_bounds-words-start : goal.slice_bounds-words-start
slice_bounds-words-start c =
    let a = c.args in
    let there = target c.requires.ctx a.pred a.succ a.names a.book_kinds.now a.book_words.now a.work.now c.requires.maps c.requires.target refl c.if-place-eq0.false in
    omega (arith, there.in_words, c.well_formed)

-- src/lib.rt:271:9
pub push_copies-copies-requires : goal.push_copies-copies-requires
push_copies-copies-requires c =
    let a = c.args in
    let there = target c.requires.ctx a.pred a.succ a.names a.book_kinds.now a.book_words.now a.work.now c.requires.maps c.requires.target refl c.if-place-eq0.false in
    record { ctx = c.requires.ctx; locals = c.requires.maps.locals; phis = _; front = there.front; room = c.requires.maps.room }

-- src/lib.rt:273:5
pub set_slots-requires : goal.set_slots-requires
set_slots-requires c =
    let a = c.args in
    let there = target c.requires.ctx a.pred a.succ a.names a.book_kinds.now a.book_words.now a.work.now c.requires.maps c.requires.target refl c.if-place-eq0.false in
    let passed = c.push_copies-copies.ensures c.requires.ctx _ c.requires.maps.locals there.front in
    record { phis = _; front = there.front; counted = passed.counted; room = c.requires.maps.room }

-- src/lib.rt:249:1
pub returns : goal.returns
returns c = λ k maps.
    let a = c.args in
    let there = target k a.pred a.succ a.names a.book_kinds.now a.book_words.now a.work.now maps c.requires.target refl c.if-place-eq0.false in
    let passed = c.push_copies-copies.ensures k _ maps.locals there.front in
    copied_puts k a.pred a.succ a.names a.book_kinds.now a.book_words.now a.work.now maps c.requires.target there.block there.found passed
    (λ cps slots. c.set_slots.ensures k _ cps there.front passed.counted slots)

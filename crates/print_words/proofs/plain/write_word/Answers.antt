-- `write_word` meets its contract by the rule of the table of words.
use Rattle.std.proofs.Common.{◌+◌, ◌-◌, ◌/◌, ◌%◌, arith}
use Rattle.print_words.specs.Words.{Word, kinds_known, word_by, word_long, word_wrote}
use Rattle.print_words.proofs.plain.write_word.Goals.{After-from-both}
use Rattle.print_words.proofs.plain.write_word.Goals as goal

pub bounds-places-from : goal.bounds-places-from
bounds-places-from c = omega (arith, kinds_known c.requires.tables, c.requires.kind_bound, c.from.ensures)

-- the word that is read from the tables
there : (c : After-from-both) → Word c.args.letters.now c.args.kind c.from-both.result
there c = word_by c.requires.tables c.args.kind _ c.requires.kind_bound (rw c.from.ensures at c.from-both.ensures)

pub slice_bounds-copy-end : goal.slice_bounds-copy-end
slice_bounds-copy-end c =
    let w = there (goal.at.slice_bounds-copy-end c).After-from-both in
    omega (arith, w.room)

pub returns-then-end-at-ge24 : goal.returns-then-end-at-ge24
returns-then-end-at-ge24 c =
    let w = there (goal.at.returns-then-end-at-ge24 c).After-from-both in
    let p = c.from-both.result in
    word_wrote w c.args.text.now _ c.args.at c.args.end (p / 32 + 24 - p / 32) c.copy.ensures (omega (arith, w.short)) (omega arith)
    (omega (arith, c.if-end-at-ge24.true, c.requires.kind_bound_2)) c.requires.end_in_bounds

pub slice_bounds-copy-end-2 : goal.slice_bounds-copy-end-2
slice_bounds-copy-end-2 c =
    let w = there (goal.at.slice_bounds-copy-end-2 c).After-from-both in
    omega (arith, w.room, w.short)

pub copy-requires-2 : goal.copy-requires-2
copy-requires-2 c =
    let w = there (goal.at.copy-requires-2 c).After-from-both in
    omega (arith, w.room, w.short, word_long w, c.requires.kind_bound_2, c.requires.end_in_bounds)

pub returns : goal.returns
returns c =
    let w = there (goal.at.returns c).After-from-both in
    let p = c.from-both.result in
    word_wrote w c.args.text.now _ c.args.at c.args.end (p / 32 + p % 32 - p / 32) c.copy-2.ensures (omega arith) (omega (arith, w.short))
    (omega (arith, word_long w, c.requires.kind_bound_2)) c.requires.end_in_bounds

-- `put_word` meets its contract by the rule of the table of words.
use Rattle.std.proofs.Common.{◌≡◌, ◌+◌, ◌-◌, ◌/◌, ◌%◌, arith}
use Rattle.print_words.specs.Words.{kinds_known, word_by}
use Rattle.print_pen.specs.Pen.{put_same}
use Rattle.print_words.proofs.put_word.Goals as goal

pub bounds-places-from : goal.bounds-places-from
bounds-places-from c = omega (arith, kinds_known c.requires.tables, c.requires.kind_bound, c.from.ensures)

pub slice_bounds-put_bytes-end : goal.slice_bounds-put_bytes-end
slice_bounds-put_bytes-end c =
    let w = word_by c.requires.tables c.args.kind _ c.requires.kind_bound (rw c.from.ensures at c.from-both.ensures) in
    omega (arith, w.room, w.short)

pub returns : goal.returns
returns c =
    let p = c.from-both.result in
    let w = word_by c.requires.tables c.args.kind p c.requires.kind_bound (rw c.from.ensures at c.from-both.ensures) in
    let e : p / 32 + p % 32 - p / 32 ≡ p % 32 = omega arith in
    put_same (rw e w.is) c.put_bytes.ensures

-- `word_len` meets its contract: the table has the length of the word.
use Rattle.std.proofs.Common.{sym, ap, length, arith}
use Rattle.print_words.specs.Words.{places_long, word_size}
use Rattle.print_words.proofs.plain.word_len.Goals as goal

pub bounds-places-from : goal.bounds-places-from
bounds-places-from c =
    omega (arith, ap length c.requires.places_value, places_long, c.requires.kind_bound, c.from.ensures)

pub returns : goal.returns
returns c =
    sym (word_size _ c.args.kind _ c.requires.places_value c.requires.kind_bound (rw c.from.ensures at c.from-2.ensures))

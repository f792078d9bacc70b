-- `word_places` meets its contract: its numbers are those of the table.
use mathlib.Core.Path.{refl}
use Rattle.print_words.specs.Words.{word_places}
use Rattle.print_words.proofs.word_places.Goals as goal

pub returns : goal.returns
unfolding word_places
returns c = refl

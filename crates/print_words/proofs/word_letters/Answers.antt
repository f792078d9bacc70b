-- `word_letters` meets its contract: its bytes are those of the table.
use mathlib.Core.Path.{refl}
use Rattle.print_words.specs.Words.{word_letters}
use Rattle.print_words.proofs.word_letters.Goals as goal

pub returns : goal.returns
unfolding word_letters
returns c = refl

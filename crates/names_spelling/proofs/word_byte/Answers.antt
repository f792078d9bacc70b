-- `word_byte` meets its contract: the ranges are the definition's.
use mathlib.Core.Path.{ap}
use mathlib.Core.Bool.{◌||◌}
use lib.Dec.{eqb}
use Rattle.names.specs.Text.{within}
use Rattle.names.specs.Spelling.{word_byte}
use Rattle.names_spelling.proofs.word_byte.Goals as goal

pub returns : goal.returns
unfolding word_byte within
returns c = ap (λ t. t || eqb c.args.b 95) c.is_ascii_alphanumeric.ensures.value

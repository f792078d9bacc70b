-- `clean_byte` meets its contract by its test.
use mathlib.Core.Path.{sym, ◌∙◌}
use Rattle.names.specs.Spelling.{clean_byte}
use Rattle.names_spelling.proofs.clean_byte.Goals as goal

pub returns-then-word_byte : goal.returns-then-word_byte
unfolding clean_byte
returns-then-word_byte c = simp (sym c.word_byte.ensures ∙ c.if-word_byte.true)

pub returns-else-word_byte : goal.returns-else-word_byte
unfolding clean_byte
returns-else-word_byte c = simp (sym c.word_byte.ensures ∙ c.if-word_byte.false)

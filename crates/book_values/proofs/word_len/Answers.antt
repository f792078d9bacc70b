-- `book_values::word_len` meets its contract: the entry in front decides.
use mathlib.Core.Path.{◌∙◌}
use Rattle.book_values.specs.ItemLaws as items
use Rattle.book_values.proofs.word_len.Goals as goal

pub returns-in_err-k : goal.returns-in_err-k
returns-in_err-k c = c.from_residual.ensures ∙ items.word_none c.args.kind c.args.below _ c.in_err-k.ensures

pub returns : goal.returns
returns c = c.then_some.ensures ∙ items.word_is c.args.kind c.args.below _ _ _ c.in_ok-k.ensures

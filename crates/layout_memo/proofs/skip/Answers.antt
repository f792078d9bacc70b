-- `layout_memo::skip` meets its contract.
use mathlib.Core.Path.{◌∙◌}
use Rattle.layout_memo.specs.Helpers as laws
use Rattle.layout_memo.proofs.skip.Goals as goal

pub returns : goal.returns
returns c = c.unwrap_or.ensures ∙ laws.skip_is _ _ _ c.type_len.ensures

-- `gen_gep::skip_at` meets its contract.
use mathlib.Core.Path.{ap, ◌∙◌}
use Rattle.layout_memo.specs.Front.{ty_len}
use Rattle.book_types.specs.Laws.{entries_part}
use Rattle.gen_gep.proofs.skip_at.Goals as goal

pub returns : goal.returns
returns c =
    c.skip.ensures ∙ ap (ty_len c.args.names) (entries_part c.args.at c.args.book_kinds.now c.args.book_words.now)

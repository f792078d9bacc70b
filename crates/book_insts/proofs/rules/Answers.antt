-- `book_insts::rules` meets its contract: the table's rows, as they are stored one by one.
use Rattle.book_insts.specs.Rules.{rules_of}
use Rattle.book_insts.proofs.rules.Goals as goal

pub returns : goal.returns
unfolding rules_of
returns c = rw c.saturating_sub-last.ensures

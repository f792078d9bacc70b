-- `gen_marks::starts_overflow` meets its contract.
use Rattle.names.specs.Text.{bytes}
use Rattle.gen_marks.proofs.starts_overflow.Goals as goal

pub returns : goal.returns
unfolding bytes
returns c = c.name_starts.ensures

-- `book_values::value_fits` meets its contract: names below 32, an integer at it, the others above.
use Rattle.book_values.specs.Pairs.{value_low, value_high}
use Rattle.book_values.proofs.value_fits.Goals as goal

pub returns-then-kind-lt-INTEGER : goal.returns-then-kind-lt-INTEGER
returns-then-kind-lt-INTEGER c = value_low _ _ _ c.if-kind-lt-INTEGER.true

pub returns : goal.returns
returns c = value_high _ _ _ c.if-kind-lt-INTEGER.false

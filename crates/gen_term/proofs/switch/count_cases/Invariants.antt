-- `gen_term::switch::count_cases` meets its contract: the cases counted lie behind the place.
use Rattle.std.proofs.Common.{ℕ, ◌-◌, ◌≤◌, List, length}
use Rattle.book.specs.Ast.{Case}
use Rattle.book.specs.Entry.{entries}
use Rattle.gen_term.specs.Terms.{Cases}
use Rattle.gen_term.specs.Switches.{Counted}
use Rattle.gen_term.proofs.switch.count_cases.Given as goal

abbrev pub invariant-loop-at : goal.invariant-loop-at
invariant-loop-at l =
    (l.cases ≤ l.at) × ((m : ℕ) (cs : List Case) → Cases m cs (entries l.kinds l.words) → Counted m l.kinds l.words cs l.at l.cases)

abbrev pub decreases-loop-at : goal.decreases-loop-at
decreases-loop-at l =
    length l.kinds - l.at

-- `gen_term::switch::case_edges` meets its contract: what is left of the edges does them all.
use Rattle.std.proofs.Common.{◌≡◌, ℕ, ◌-◌, ◌%◌, ◌^◌, List, length}
use Rattle.book.specs.Ast.{Case}
use Rattle.book.specs.Entry.{entries}
use Rattle.lowering.specs.Context.{FnCtx}
use Rattle.gen_term.specs.Terms.{Cases}
use Rattle.lowering.specs.Term.{case_edges}
use Rattle.gen_values.specs.Maps.{Maps}
use Rattle.gen_term.specs.Switches.{CaseWalk, CasesLeft}
use Rattle.gen_term.proofs.switch.case_edges.Given as goal

abbrev pub invariant-loop-at : goal.invariant-loop-at
invariant-loop-at here =
    ((cs : List Case) → Cases here.names cs (entries here.kinds here.words) → CasesLeft here.names here.kinds here.words here.at)
    × (length here.lines ≡ length here.initial.lines) × (length here.operands ≡ length here.initial.operands)
    × ((c : FnCtx) (l : ℕ) (cs : List Case) → Maps here.names (entries here.book_kinds here.book_words) c here.work → Cases here.names cs (entries here.kinds here.words) → here.first ≡ l % 2 ^ 64
    → CaseWalk (case_edges c here.pred) here.names here.kinds here.words l cs here.at here.label here.initial.reached here.reached here.initial.lines here.initial.operands here.lines here.operands)

abbrev pub decreases-loop-at : goal.decreases-loop-at
decreases-loop-at l =
    length l.kinds - l.at

-- `gen_term::switch::case_tests` meets its contract: what is left of the tests does them all.
use Rattle.std.proofs.Common.{◌≡◌, ℕ, ◌-◌, ◌%◌, ◌^◌, List, length}
use Rattle.book.specs.Ast.{Value, Case}
use Rattle.book.specs.Entry.{entries}
use Rattle.lowering.specs.Context.{FnCtx}
use Rattle.lowering.specs.Term.{case_tests}
use Rattle.gen_values.specs.Fields.{ValueAt}
use Rattle.gen_values.specs.Maps.{Locals}
use Rattle.gen_term.specs.Terms.{Cases}
use Rattle.gen_term.specs.Switches.{CaseWalk, CasesLeft}
use Rattle.gen_term.proofs.switch.case_tests.Given as goal

abbrev pub invariant-loop-at : goal.invariant-loop-at
invariant-loop-at here =
    ((m : ℕ) (cs : List Case) → Cases m cs (entries here.case_kinds here.case_words) → CasesLeft m here.case_kinds here.case_words here.at)
    × (length here.lines ≡ length here.initial.lines) × (length here.operands ≡ length here.initial.operands)
    × ((m : ℕ) (c : FnCtx) (v : Value) (l : ℕ) (cs : List Case) → ValueAt m here.kinds here.words 0 v → Locals c m here.work → Cases m cs (entries here.case_kinds here.case_words) → here.first ≡ l % 2 ^ 64
    → CaseWalk (case_tests c here.width v) m here.case_kinds here.case_words l cs here.at here.label here.initial.reached here.reached here.initial.lines here.initial.operands here.lines here.operands)

abbrev pub decreases-loop-at : goal.decreases-loop-at
decreases-loop-at l = length l.case_kinds - l.at

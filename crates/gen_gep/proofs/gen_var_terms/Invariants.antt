-- `gen_gep::gen_var_terms` meets its contract. The loop has put the lines of the first i terms.
use mathlib.Core.Path.{◌≡◌}
use mathlib.Core.List.{List}
use lib.ListN.{length, take}
use Rattle.lowering.specs.Context.{FnCtx}
use Rattle.lowering.specs.Gen.{each}
use Rattle.lowering.specs.Gep.{VarTerm, gen_var_term}
use Rattle.gen_lines.specs.Puts.{Puts}
use Rattle.gen_values.specs.Maps.{Locals}
use Rattle.gen_gep.specs.Terms.{Terms}
use Rattle.gen_gep.proofs.gen_var_terms.Given as goal

abbrev pub invariant-loop-i : goal.invariant-loop-i
invariant-loop-i l =
    (length l.lines ≡ length l.initial.lines) × (length l.operands ≡ length l.initial.operands)
    × ((c : FnCtx) (ts : List VarTerm) → Locals c l.names l.work → Terms l.names l.book_kinds l.book_words l.work 0 ts → length ts ≡ l.terms
    → Puts (each (gen_var_term c) (take l.i ts)) l.initial.reached l.reached l.initial.lines l.initial.operands l.lines l.operands)

-- `gen_functions::gen_functions` meets its contract: what was walked is done, and the others stand at the place.
use Prim.Native.Nat.{◌-◌}
use Rattle.gen_functions.specs.Walk as laws
use Rattle.gen_functions.proofs.gen_functions.Given as goal

abbrev pub invariant-loop-at : goal.invariant-loop-at
invariant-loop-at l =
    laws.FunctionsWalk l.names l.book_kinds l.book_words l.first l.last l.initial.work l.initial.lines l.initial.operands l.initial.turn l.work l.lines l.operands l.at l.turn

abbrev pub decreases-loop-at : goal.decreases-loop-at
decreases-loop-at l = l.last - l.at

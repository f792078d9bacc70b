-- `gen_marks::spell_marks` meets its contract: the place goes from the start of each name to the next, by the start that is noted.
use Prim.Native.Nat.{◌-◌}
use lib.ListN.{length}
use Rattle.gen_marks.specs.Spelling as laws
use Rattle.gen_marks.proofs.spell_marks.Given as goal

abbrev pub invariant-loop-at : goal.invariant-loop-at
invariant-loop-at l = laws.Spelling l.names l.count l.initial.work l.work l.at l.x

abbrev pub decreases-loop-at : goal.decreases-loop-at
decreases-loop-at l = length l.names - l.at

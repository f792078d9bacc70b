-- `gen_blocks::find_function` meets its contract: what stands before the function has no entry of kind 5.
use Prim.Native.Nat.{◌-◌}
use lib.ListN.{length}
use Rattle.book.specs.Entry.{entries}
use Rattle.gen_blocks.specs.Function as laws
use Rattle.gen_blocks.proofs.find_function.Given as goal

abbrev pub invariant-loop-at : goal.invariant-loop-at
invariant-loop-at l = laws.Scanning l.names (entries l.kinds l.words) l.at

abbrev pub decreases-loop-at : goal.decreases-loop-at
decreases-loop-at l = length l.kinds - l.at

-- `gen_walk::next_block` meets its contract: what was passed is no block.
use Rattle.std.proofs.Common.{ℕ, ◌≤◌, ◌<◌, ◌≡◌, get_or}
use Rattle.gen_walk.proofs.next_block.Given as goal

abbrev pub invariant-loop-i : goal.invariant-loop-i
invariant-loop-i l = (k : ℕ) → l.at ≤ k → k < l.i → get_or l.kinds k 0 ≡ 7 → ⊥

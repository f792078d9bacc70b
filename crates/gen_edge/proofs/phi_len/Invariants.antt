-- `gen_edge::phi_len` meets its contract: some pairs of the phi are left in front of the place, whatever phis these are.
use Rattle.std.proofs.Common.{◌-◌, List, ◌∷◌, length}
use Rattle.book.specs.Entry.{entries}
use Rattle.gen_edge.specs.Phis.{Phi, Leading}
use Rattle.gen_edge.specs.Edges.{Left}
use Rattle.gen_edge.proofs.phi_len.Given as goal

abbrev pub invariant-loop-pair : goal.invariant-loop-pair
invariant-loop-pair l = (p : Phi) (ps : List Phi) → Leading l.names (p ∷ ps) (entries l.kinds l.words) → Left l.names l.kinds l.words ps l.pair

abbrev pub decreases-loop-pair : goal.decreases-loop-pair
decreases-loop-pair l = length l.kinds - l.pair

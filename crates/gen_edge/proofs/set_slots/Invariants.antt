-- `gen_edge::set_slots` meets its contract: the slots of the phis passed stand from the last place down, as many as are left in front of them.
use Rattle.std.proofs.Common.{◌≡◌, List, length}
use Rattle.book.specs.Entry.{entries}
use Rattle.gen_edge.specs.Phis.{Phi, Leading}
use Rattle.gen_edge.specs.Edges.{SetWalk}
use Rattle.gen_edge.proofs.set_slots.Given as goal

abbrev pub invariant-loop-left : goal.invariant-loop-left
invariant-loop-left l = (ps : List Phi) → Leading l.names ps (entries l.kinds l.words) → l.phis ≡ length ps
    → SetWalk l.names l.kinds l.words l.work ps l.first l.at l.left l.initial.lines l.initial.operands l.lines l.operands

-- `gen_gep::walk` meets its contract. The loop has the indices left and how the whole walk goes on from what it has; what falls is the number of entries left.
use Prim.Native.Nat.{◌-◌}
use lib.ListN.{length, drop}
use Rattle.book.specs.Entry.{entries}
use Rattle.book.specs.Fields.{Meanings}
use Rattle.layout_memo.specs.Work.{structs_in}
use Rattle.lowering.specs.Gep.{walk}
use Rattle.gen_values.specs.Fields.{Fields}
use Rattle.gen_gep.specs.Indices.{gep_fields, index_list}
use Rattle.gen_gep.specs.Loop.{WalkLoop}
use Rattle.gen_gep.proofs.walk.Given as goal

abbrev pub invariant-loop-index : goal.invariant-loop-index
invariant-loop-index l =
    (p : Meanings gep_fields) → Fields l.names gep_fields p (drop l.at (entries l.book_kinds l.book_words)) → Fields l.names index_list p.1.1 (drop l.indices (entries l.book_kinds l.book_words))
    → WalkLoop l.names l.book_kinds l.book_words l.initial.work l.work (walk (structs_in l.names (entries l.book_kinds l.book_words)) p.0 p.1.1.0) l.initial.w.s l.index l.w

abbrev pub decreases-loop-index : goal.decreases-loop-index
decreases-loop-index l =
    length l.book_kinds - l.index

-- `gen_gep::walk_index` meets its contract: the step of the index, then the step taken.
use Rattle.book.specs.Entry.{entries}
use Rattle.layout_memo.specs.Work.{structs_in}
use Rattle.gen_gep.specs.Indices.{index_in}
use Rattle.gen_gep.specs.Walks.{take_value, take_took, same_step, walk_after, went_after}
use Rattle.gen_gep.proofs.walk_index.Goals as goal

pub index_at-requires : goal.index_at-requires
index_at-requires c =
    let v = take_value c.requires c.requires.fields in
    (v.in_kinds, v.in_words)

pub took-requires : goal.took-requires
took-requires c =
    let o = c.next_step-step.ensures in
    take_took c.requires o.after

pub returns : goal.returns
returns c =
    let a = c.args in
    let o = c.next_step-step.ensures in
    λ p k f at.
    let ei = c.index_at.ensures a.names p.1.0 (take_value c.requires f) in
    let structs = structs_in a.names (entries a.book_kinds.now a.book_words.now) in
    let says = same_step structs at c.index_at.result (index_in p) ei c.next_step-step.result o.says in
    went_after o.after (c.took.ensures p k _ f o.after.ready c.requires.front says (walk_after c.requires.few o.after at))

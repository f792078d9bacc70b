-- `gen_edge::edge` meets its contract.
use Rattle.gen_edge.specs.Edges.{edge_puts}
use Rattle.std.proofs.Common.{rules}
use Rattle.gen_edge.proofs.edge.Goals as goal

-- src/lib.rt:277:1
pub returns : goal.returns
returns c = λ k maps.
    let a = c.args in
    edge_puts k a.pred a.succ a.names a.book_kinds.now a.book_words.now a.work.now maps c.requires.target (search rules)
    (c.emit_edge_copies-copied.ensures k maps) c.put.ensures

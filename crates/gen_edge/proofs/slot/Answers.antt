-- `gen_edge::slot` meets its contract.
use Rattle.gen_edge.specs.Copies.{slot_word}
use borrow.Author.Rules.{rules}
use Rattle.std.proofs.Common.{eq-eqb, ne_eqb}
use Rattle.gen_edge.proofs.slot.Goals as goal

pub returns-then-dest-eq0 : goal.returns-then-dest-eq0
unfolding slot_word
returns-then-dest-eq0 c = rw (eq-eqb _ _ c.if-dest-eq0.true) (search rules)

pub bounds-work-dest : goal.bounds-work-dest
bounds-work-dest c =
    c.requires.there c.if-dest-eq0.false

pub returns : goal.returns
unfolding slot_word
returns c = rw (ne_eqb _ _ c.if-dest-eq0.false) c.checked_sub.ensures

-- `book_types::types::leaf` meets its contract: integers and named structs by their words, the others of one entry by the word 0.
use mathlib.Core.Path.{◌∙◌}
use Rattle.book_types.specs.Leaf.{leaf_int, leaf_named, leaf_other}
use Rattle.book_types.proofs.types.leaf.Goals as goal

pub returns-then-kind-eq-INT : goal.returns-then-kind-eq-INT
returns-then-kind-eq-INT c = c.width_ok.ensures ∙ leaf_int _ _ _ c.if-kind-eq-INT.true

pub returns-then-kind-eq-NAMED : goal.returns-then-kind-eq-NAMED
returns-then-kind-eq-NAMED c = leaf_named _ _ _ c.if-kind-eq-NAMED.true

pub returns : goal.returns
returns c = leaf_other _ _ _ c.if-kind-eq-INT.false c.if-kind-eq-NAMED.false

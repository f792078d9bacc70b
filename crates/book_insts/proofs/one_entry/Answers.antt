-- `book_insts::one_entry` meets its contract: the rules of the kind hold of the word and the field.
use mathlib.Core.Path.{◌∙◌, ap}
use native.Mathlib.Omega.{arith}
use Rattle.book_insts.specs.Rules.{alone_by, alone_beyond, alone_below}
use Rattle.book_insts.proofs.one_entry.Goals as goal

pub returns-then-kind-ge-ADD : goal.returns-then-kind-ge-ADD
returns-then-kind-ge-ADD c = alone_beyond _ _ _ _ c.if-kind-ge-ADD.true

pub returns : goal.returns
returns c =
    let a = c.args in
    alone_below _ _ _ _ (omega arith) _ c.width_ok.ensures ∙ ap (alone_by a.rule.now a.kind a.word) c.bit.ensures.value

-- `book_values::two_entries` meets its contract: each arm is the definition's.
use mathlib.Core.Path.{◌∙◌, sym, ap}
use Rattle.book_values.specs.Pairs.{two_ok}
use Rattle.book_values.specs.ItemLaws as items
use Rattle.book_values.proofs.two_entries.Goals as goal

pub returns-in-Typed : goal.returns-in-Typed
returns-in-Typed c = items.both_are _ _ _ _ c.leaf.ensures c.atom_ok.ensures ∙ ap (two_ok _ _ _ _ _) (sym c.in-Typed.is)

pub returns-in-GepIndex : goal.returns-in-GepIndex
returns-in-GepIndex c = items.both_are _ _ _ _ c.leaf-in-GepIndex.ensures c.atom_ok-in-GepIndex.ensures ∙ ap (two_ok _ _ _ _ _) (sym c.in-GepIndex.is)

pub returns-in-Incoming : goal.returns-in-Incoming
returns-in-Incoming c = items.both_are _ _ _ _ c.atom_ok-in-Incoming.ensures c.atom_ok-in-Incoming-2.ensures ∙ ap (two_ok _ _ _ _ _) (sym c.in-Incoming.is)

pub returns-in-Case : goal.returns-in-Case
returns-in-Case c = items.both_are _ _ _ _ c.atom_ok-in-Case.ensures c.atom_ok-in-Case-2.ensures ∙ ap (two_ok _ _ _ _ _) (sym c.in-Case.is)

pub returns-in-Param : goal.returns-in-Param
returns-in-Param c = items.both_are _ _ _ _ c.atom_ok-in-Param.ensures c.leaf-in-Param.ensures ∙ ap (two_ok _ _ _ _ _) (sym c.in-Param.is)

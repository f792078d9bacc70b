-- `book_values::atom_ok` meets its contract: each arm is the definition's.
use mathlib.Core.Path.{refl, ◌∙◌, sym, ap}
use lib.Dec.{eqb}
use Rattle.book_values.specs.Items.{atom_ok}
use Rattle.book_values.specs.ItemLaws as items
use Rattle.book_values.proofs.atom_ok.Goals as goal

pub returns-in-Value : goal.returns-in-Value
returns-in-Value c = c.value_fits.ensures ∙ ap (atom_ok _ _ _) (sym c.in-Value.is)

pub returns-in-GepValue : goal.returns-in-GepValue
returns-in-GepValue c = items.both_are _ _ _ _ c.value_fits-in-GepValue.ensures c.index_fits.ensures ∙ ap (atom_ok _ _ _) (sym c.in-GepValue.is)

pub returns-in-Block : goal.returns-in-Block
returns-in-Block c = ap (atom_ok _ _ _) (sym c.in-Block.is)

pub returns-in-Index : goal.returns-in-Index
returns-in-Index c = ap (atom_ok _ _ _) (sym c.in-Index.is)

pub returns-in-Align : goal.returns-in-Align
returns-in-Align c =
    items.both_are (eqb c.args.kind 22) _ (eqb c.args.kind 22) _ refl c.is_align.ensures ∙ ap (atom_ok _ _ _)
    (sym c.in-Align.is)

pub returns-in-Case : goal.returns-in-Case
returns-in-Case c = ap (atom_ok _ _ _) (sym c.in-Case.is)

pub returns-in-Param : goal.returns-in-Param
returns-in-Param c = ap (atom_ok _ _ _) (sym c.in-Param.is)

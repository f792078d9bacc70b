-- `book_values::pair_len` meets its contract: a block's name is read behind the atom.
use mathlib.Core.Path.{◌∙◌, ap}
use native.Mathlib.Omega.{arith}
use Rattle.std.specs.Prelude.{Some, None}
use Rattle.book_types.specs.Laws as laws
use Rattle.book_types.specs.Passes as passes
use Rattle.book_values.specs.Items.{atom_reader, atom_test}
use Rattle.book_values.specs.ItemLaws as items
use Rattle.book_values.specs.declared.Atom.TheVariants.{Block}
use Rattle.book_values.proofs.pair_len.Goals as goal

pub returns-in_err-first : goal.returns-in_err-first
returns-in_err-first c =
    let a = c.args in
    c.from_residual.ensures ∙ passes.first_none (atom_reader a.names a.atom) (atom_reader a.names Block) (atom_test a.atom) (atom_test Block) a.kinds.now a.words.now c.in_err-first.ensures

pub offset_bounds-kinds-n : goal.offset_bounds-kinds-n
offset_bounds-kinds-n c = omega (arith, laws.within_kinds c.in_ok-first.first.entries _ _ (items.atom_fits c.args.names c.args.atom _ _ c.in_ok-first.ensures), c.well_formed)

pub slice_bounds-atom_len-count : goal.slice_bounds-atom_len-count
slice_bounds-atom_len-count c = laws.within_kinds c.in_ok-first.first.entries _ _ (items.atom_fits c.args.names c.args.atom _ _ c.in_ok-first.ensures)

pub slice_bounds-atom_len-start : goal.slice_bounds-atom_len-start
slice_bounds-atom_len-start c = laws.within_kinds c.in_ok-first.first.entries _ _ (items.atom_fits c.args.names c.args.atom _ _ c.in_ok-first.ensures)

pub offset_bounds-words-n : goal.offset_bounds-words-n
offset_bounds-words-n c = omega (arith, laws.within_words c.in_ok-first.first.entries _ _ (items.atom_fits c.args.names c.args.atom _ _ c.in_ok-first.ensures), c.well_formed)

pub slice_bounds-atom_len-count-2 : goal.slice_bounds-atom_len-count-2
slice_bounds-atom_len-count-2 c = laws.within_words c.in_ok-first.first.entries _ _ (items.atom_fits c.args.names c.args.atom _ _ c.in_ok-first.ensures)

pub slice_bounds-atom_len-start-2 : goal.slice_bounds-atom_len-start-2
slice_bounds-atom_len-start-2 c = laws.within_words c.in_ok-first.first.entries _ _ (items.atom_fits c.args.names c.args.atom _ _ c.in_ok-first.ensures)

pub returns-in_err-block : goal.returns-in_err-block
returns-in_err-block c =
    let a = c.args in
    c.from_residual-in_err-block.ensures ∙ passes.then_is (atom_reader a.names a.atom) (atom_reader a.names Block) (atom_test a.atom) (atom_test Block) a.kinds.now a.words.now c.in_ok-first.first c.in_ok-first.ensures None c.in_err-block.ensures

pub then-requires : goal.then-requires
then-requires c = omega (arith, laws.within_kinds _ _ _ (items.atom_lent c.args.names Block c.args.kinds.now c.args.words.now c.in_ok-first.first.entries _ (items.atom_fits c.args.names c.args.atom _ _ c.in_ok-first.ensures) c.in_ok-block.ensures))

pub returns : goal.returns
returns c =
    let a = c.args in
    ap Some c.then.ensures ∙ passes.then_is (atom_reader a.names a.atom) (atom_reader a.names Block) (atom_test a.atom) (atom_test Block) a.kinds.now a.words.now c.in_ok-first.first c.in_ok-first.ensures (Some c.in_ok-block.block) c.in_ok-block.ensures

-- `book_values::typed_len` meets its contract: an atom is read behind the type.
use mathlib.Core.Path.{◌∙◌, sym, ap}
use native.Mathlib.Omega.{arith}
use Rattle.std.specs.Prelude.{Some, None}
use Rattle.book.specs.Decode.{type}
use Rattle.book.proofs.AgreeTy.{agrees_type}
use Rattle.book_types.specs.Found.{plain, after, never}
use Rattle.book_types.specs.Laws as laws
use Rattle.book_types.specs.Passes as passes
use Rattle.book_values.specs.Items.{atom_reader, atom_test}
use Rattle.book_values.specs.ItemLaws as items
use Rattle.book_values.proofs.typed_len.Goals as goal

pub returns-in_err-n : goal.returns-in_err-n
returns-in_err-n c =
    let a = c.args in
    c.from_residual.ensures ∙ passes.first_none (type a.names) (atom_reader a.names a.atom) never (atom_test a.atom) a.kinds.now a.words.now (passes.plain_is _ None c.in_err-n.ensures)

pub offset_bounds-kinds-n : goal.offset_bounds-kinds-n
offset_bounds-kinds-n c = omega (arith, laws.within_kinds c.in_ok-n.n _ _ (laws.len_fits (agrees_type _) _ _ (sym c.in_ok-n.ensures)), c.well_formed)

pub slice_bounds-atom_len-count : goal.slice_bounds-atom_len-count
slice_bounds-atom_len-count c = laws.within_kinds c.in_ok-n.n _ _ (laws.len_fits (agrees_type _) _ _ (sym c.in_ok-n.ensures))

pub slice_bounds-atom_len-start : goal.slice_bounds-atom_len-start
slice_bounds-atom_len-start c = laws.within_kinds c.in_ok-n.n _ _ (laws.len_fits (agrees_type _) _ _ (sym c.in_ok-n.ensures))

pub offset_bounds-words-n : goal.offset_bounds-words-n
offset_bounds-words-n c = omega (arith, laws.within_words c.in_ok-n.n _ _ (laws.len_fits (agrees_type _) _ _ (sym c.in_ok-n.ensures)), c.well_formed)

pub slice_bounds-atom_len-count-2 : goal.slice_bounds-atom_len-count-2
slice_bounds-atom_len-count-2 c = laws.within_words c.in_ok-n.n _ _ (laws.len_fits (agrees_type _) _ _ (sym c.in_ok-n.ensures))

pub slice_bounds-atom_len-start-2 : goal.slice_bounds-atom_len-start-2
slice_bounds-atom_len-start-2 c = laws.within_words c.in_ok-n.n _ _ (laws.len_fits (agrees_type _) _ _ (sym c.in_ok-n.ensures))

pub returns-in_err-value : goal.returns-in_err-value
returns-in_err-value c =
    let a = c.args in
    c.from_residual-in_err-value.ensures ∙ passes.then_is (type a.names) (atom_reader a.names a.atom) never (atom_test a.atom) a.kinds.now a.words.now (plain c.in_ok-n.n) (passes.plain_is _ (Some c.in_ok-n.n) c.in_ok-n.ensures) None c.in_err-value.ensures

pub then-requires : goal.then-requires
then-requires c = omega (arith, ap (λ f. f.entries) c.plain.ensures, laws.within_kinds _ _ _ (items.atom_lent c.args.names c.args.atom c.args.kinds.now c.args.words.now c.in_ok-n.n _ (laws.len_fits (agrees_type _) _ _ (sym c.in_ok-n.ensures)) c.in_ok-value.ensures))

pub returns : goal.returns
returns c =
    let a = c.args in
    ap Some (c.then.ensures ∙ ap (λ f. after f c.in_ok-value.value) c.plain.ensures) ∙ passes.then_is (type a.names) (atom_reader a.names a.atom) never (atom_test a.atom) a.kinds.now a.words.now (plain c.in_ok-n.n) (passes.plain_is _ (Some c.in_ok-n.n) c.in_ok-n.ensures) (Some c.in_ok-value.value) c.in_ok-value.ensures

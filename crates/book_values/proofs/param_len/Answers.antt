-- `book_values::param_len` meets its contract: the type is read behind the name.
use mathlib.Core.Path.{◌∙◌, ap}
use native.Mathlib.Omega.{arith}
use Rattle.std.specs.Prelude.{Some, None}
use Rattle.book.specs.Decode.{type}
use Rattle.book.proofs.AgreeTy.{agrees_type}
use Rattle.book_types.specs.Found.{plain, after, never}
use Rattle.book_types.specs.Laws as laws
use Rattle.book_types.specs.Passes as passes
use Rattle.book_values.specs.Items.{atom_reader, atom_test}
use Rattle.book_values.specs.ItemLaws as items
use Rattle.book_values.specs.declared.Atom.TheVariants.{Param}
use Rattle.book_values.proofs.param_len.Goals as goal

pub returns-in_err-name : goal.returns-in_err-name
returns-in_err-name c =
    let a = c.args in
    c.from_residual.ensures ∙ passes.first_none (atom_reader a.names Param) (type a.names) (atom_test Param) never a.kinds.now a.words.now c.in_err-name.ensures

pub offset_bounds-kinds-n : goal.offset_bounds-kinds-n
offset_bounds-kinds-n c = omega (arith, laws.within_kinds c.in_ok-name.name.entries _ _ (items.atom_fits c.args.names Param _ _ c.in_ok-name.ensures), c.well_formed)

pub slice_bounds-type_len-count : goal.slice_bounds-type_len-count
slice_bounds-type_len-count c = laws.within_kinds c.in_ok-name.name.entries _ _ (items.atom_fits c.args.names Param _ _ c.in_ok-name.ensures)

pub slice_bounds-type_len-start : goal.slice_bounds-type_len-start
slice_bounds-type_len-start c = laws.within_kinds c.in_ok-name.name.entries _ _ (items.atom_fits c.args.names Param _ _ c.in_ok-name.ensures)

pub offset_bounds-words-n : goal.offset_bounds-words-n
offset_bounds-words-n c = omega (arith, laws.within_words c.in_ok-name.name.entries _ _ (items.atom_fits c.args.names Param _ _ c.in_ok-name.ensures), c.well_formed)

pub slice_bounds-type_len-count-2 : goal.slice_bounds-type_len-count-2
slice_bounds-type_len-count-2 c = laws.within_words c.in_ok-name.name.entries _ _ (items.atom_fits c.args.names Param _ _ c.in_ok-name.ensures)

pub slice_bounds-type_len-start-2 : goal.slice_bounds-type_len-start-2
slice_bounds-type_len-start-2 c = laws.within_words c.in_ok-name.name.entries _ _ (items.atom_fits c.args.names Param _ _ c.in_ok-name.ensures)

pub returns-in_err-ty : goal.returns-in_err-ty
returns-in_err-ty c =
    let a = c.args in
    c.from_residual-in_err-ty.ensures ∙ passes.then_is (atom_reader a.names Param) (type a.names) (atom_test Param) never a.kinds.now a.words.now c.in_ok-name.name c.in_ok-name.ensures None (passes.plain_is _ None c.in_err-ty.ensures)

pub then-requires : goal.then-requires
then-requires c = omega (arith, ap (λ f. f.entries) c.plain.ensures, laws.within_kinds _ _ _ (laws.lent_fits (agrees_type _) c.args.kinds.now c.args.words.now c.in_ok-name.name.entries _ (items.atom_fits c.args.names Param _ _ c.in_ok-name.ensures) c.in_ok-ty.ensures))

pub returns : goal.returns
returns c =
    let a = c.args in
    ap Some (c.then.ensures ∙ ap (after c.in_ok-name.name) c.plain.ensures) ∙ passes.then_is (atom_reader a.names Param) (type a.names) (atom_test Param) never a.kinds.now a.words.now c.in_ok-name.name c.in_ok-name.ensures (Some (plain c.in_ok-ty.ty)) (passes.plain_is _ (Some c.in_ok-ty.ty) c.in_ok-ty.ensures)

-- `book_blocks::calls::call_barred` meets its contract: the callee is looked at behind the type.
use mathlib.Core.Path.{◌∙◌, sym}
use native.Mathlib.Omega.{arith}
use Rattle.book.proofs.AgreeTy.{agrees_type}
use Rattle.book_types.specs.Laws.{len_fits, within_kinds, within_words}
use Rattle.numbers.specs.Bits.{bit_at}
use Rattle.book_blocks.specs.Calls as calls
use Rattle.book_blocks.proofs.calls.call_barred.Goals as goal

pub returns-in_default : goal.returns-in_default
returns-in_default c =
    let a = c.args in
    calls.behind_bad (bit_at a.barred.now) a.names _ (sym c.type_len.ensures ∙ c.in_default.is)

pub offset_bounds-kinds-n : goal.offset_bounds-kinds-n
offset_bounds-kinds-n c = omega (arith, within_kinds c.in-Some.n _ _ (len_fits (agrees_type c.args.names) _ _ (sym c.in-Some.ensures)), c.well_formed)

pub slice_bounds-first_entry-count : goal.slice_bounds-first_entry-count
slice_bounds-first_entry-count c = within_kinds c.in-Some.n _ _ (len_fits (agrees_type c.args.names) _ _ (sym c.in-Some.ensures))

pub slice_bounds-first_entry-start : goal.slice_bounds-first_entry-start
slice_bounds-first_entry-start c = within_kinds c.in-Some.n _ _ (len_fits (agrees_type c.args.names) _ _ (sym c.in-Some.ensures))

pub offset_bounds-words-n : goal.offset_bounds-words-n
offset_bounds-words-n c = omega (arith, within_words c.in-Some.n _ _ (len_fits (agrees_type c.args.names) _ _ (sym c.in-Some.ensures)), c.well_formed)

pub slice_bounds-first_entry-count-2 : goal.slice_bounds-first_entry-count-2
slice_bounds-first_entry-count-2 c = within_words c.in-Some.n _ _ (len_fits (agrees_type c.args.names) _ _ (sym c.in-Some.ensures))

pub slice_bounds-first_entry-start-2 : goal.slice_bounds-first_entry-start-2
slice_bounds-first_entry-start-2 c = within_words c.in-Some.n _ _ (len_fits (agrees_type c.args.names) _ _ (sym c.in-Some.ensures))

pub returns : goal.returns
returns c =
    let a = c.args in
    calls.behind_arm (bit_at a.barred.now) a.names a.kinds.now a.words.now _ (sym c.in-Some.ensures) _ _
    c.first_entry.ensures c.callee_barred.ensures

-- `layout_table::starts::note_long` meets its contract.
use Rattle.layout_table.specs.Starts as laws
use borrow.Author.Rules.{rules}
use Rattle.layout_table.proofs.starts.note_long.Goals as goal

pub offset_bounds-book_kinds-place : goal.offset_bounds-book_kinds-place
offset_bounds-book_kinds-place c =
    let h = laws.type_kinds _ _ c.requires.ask in
    search rules

pub slice_bounds-type_end-count : goal.slice_bounds-type_end-count
slice_bounds-type_end-count c =
    let h = laws.type_kinds _ _ c.requires.ask in
    search rules

pub slice_bounds-type_end-start : goal.slice_bounds-type_end-start
slice_bounds-type_end-start c =
    let h = laws.type_kinds _ _ c.requires.ask in
    search rules

pub offset_bounds-book_words-place : goal.offset_bounds-book_words-place
offset_bounds-book_words-place c =
    let h = laws.type_words _ _ c.requires.ask in
    search rules

pub slice_bounds-type_end-count-2 : goal.slice_bounds-type_end-count-2
slice_bounds-type_end-count-2 c =
    let h = laws.type_words _ _ c.requires.ask in
    search rules

pub slice_bounds-type_end-start-2 : goal.slice_bounds-type_end-start-2
slice_bounds-type_end-start-2 c =
    let h = laws.type_words _ _ c.requires.ask in
    search rules

pub type_end-requires : goal.type_end-requires
type_end-requires c = laws.type_starts _ _ c.requires.ask

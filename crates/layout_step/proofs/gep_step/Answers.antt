-- `layout_step::gep_step` meets its contract.
use Rattle.layout_step.specs.Steps as laws
use borrow.Author.Rules.{rules}
use Rattle.layout_step.proofs.gep_step.Goals as goal

pub offset_bounds-book_words-at : goal.offset_bounds-book_words-at
offset_bounds-book_words-at c =
    let h = laws.at_words c.args.names c.args.book_kinds.now c.args.book_words.now c.args.work.now
    c.args.at c.args.index c.requires in
    search rules

pub bounds-book_words-at : goal.bounds-book_words-at
bounds-book_words-at c =
    let h = laws.at_words c.args.names c.args.book_kinds.now c.args.book_words.now c.args.work.now
    c.args.at c.args.index c.requires in
    search rules

pub offset_bounds-book_kinds-at : goal.offset_bounds-book_kinds-at
offset_bounds-book_kinds-at c =
    let h = laws.at_kinds c.args.names c.args.book_kinds.now c.args.book_words.now c.args.work.now
    c.args.at c.args.index c.requires in
    search rules

pub bounds-book_kinds-at : goal.bounds-book_kinds-at
bounds-book_kinds-at c =
    let h = laws.at_kinds c.args.names c.args.book_kinds.now c.args.book_words.now c.args.work.now
    c.args.at c.args.index c.requires in
    search rules

pub overflow_add-at : goal.overflow_add-at
overflow_add-at c =
    let h = laws.at_kinds c.args.names c.args.book_kinds.now c.args.book_words.now c.args.work.now
    c.args.at c.args.index c.requires in
    search rules

pub array_step-requires : goal.array_step-requires
array_step-requires c =
    laws.gep_array_ask c.args.names c.args.book_kinds.now c.args.book_words.now c.args.work.now c.args.at
    c.args.index c.requires _ c.type_group.ensures _ c.in-Array.is

pub named_step-requires : goal.named_step-requires
named_step-requires c =
    laws.gep_named_ask c.args.names c.args.book_kinds.now c.args.book_words.now c.args.work.now c.args.at
    c.args.index c.requires _ c.type_group.ensures c.in-Named.is

pub overflow_add-at-in-Struct : goal.overflow_add-at-in-Struct
overflow_add-at-in-Struct c =
    let h = laws.at_kinds c.args.names c.args.book_kinds.now c.args.book_words.now c.args.work.now
    c.args.at c.args.index c.requires in
    search rules

pub struct_step-requires : goal.struct_step-requires
struct_step-requires c =
    laws.gep_struct_ask c.args.names c.args.book_kinds.now c.args.book_words.now c.args.work.now c.args.at
    c.args.index c.requires _ c.type_group.ensures _ c.in-Struct.is

pub returns-in-Array : goal.returns-in-Array
returns-in-Array c =
    laws.gep_array c.args.names c.args.book_kinds.now c.args.book_words.now c.args.work.now c.args.at
    c.args.index c.requires _ c.type_group.ensures _ c.in-Array.is
    c.array_step.ensures

pub returns-in-Named : goal.returns-in-Named
returns-in-Named c =
    laws.gep_named c.args.names c.args.book_kinds.now c.args.book_words.now c.args.work.now c.args.at
    c.args.index c.requires _ c.type_group.ensures c.in-Named.is
    c.named_step.ensures

pub returns-in-Struct : goal.returns-in-Struct
returns-in-Struct c =
    laws.gep_struct c.args.names c.args.book_kinds.now c.args.book_words.now c.args.work.now c.args.at
    c.args.index c.requires _ c.type_group.ensures _ c.in-Struct.is
    c.struct_step.ensures

pub returns-in_default : goal.returns-in_default
returns-in_default c =
    laws.gep_rest c.args.names c.args.book_kinds.now c.args.book_words.now c.args.work.now c.args.at
    c.args.index c.requires _ c.type_group.ensures c.in_default.not-Array c.in_default.not-Named c.in_default.not-Struct

-- `layout_step::named_step` meets its contract.
use Rattle.layout_step.specs.Steps as laws
use borrow.Author.Rules.{rules}
use Rattle.layout_step.proofs.named_step.Goals as goal

pub returns-then-body-eq0 : goal.returns-then-body-eq0
returns-then-body-eq0 c =
    laws.named_absent c.args.names c.args.book_kinds.now c.args.book_words.now c.args.work.now c.args.name
    c.args.index c.requires c.if-body-eq0.true

pub offset_bounds-book_kinds-at : goal.offset_bounds-book_kinds-at
offset_bounds-book_kinds-at c =
    let h = laws.body_kinds c.args.names c.args.book_kinds.now c.args.book_words.now c.args.work.now
    c.args.name c.args.index c.requires c.if-body-eq0.false in
    search rules

pub bounds-book_kinds-at : goal.bounds-book_kinds-at
bounds-book_kinds-at c =
    let h = laws.body_kinds c.args.names c.args.book_kinds.now c.args.book_words.now c.args.work.now
    c.args.name c.args.index c.requires c.if-body-eq0.false in
    search rules

pub overflow_add-at : goal.overflow_add-at
overflow_add-at c =
    let h = laws.body_kinds c.args.names c.args.book_kinds.now c.args.book_words.now c.args.work.now
    c.args.name c.args.index c.requires c.if-body-eq0.false in
    search rules

pub struct_step-requires : goal.struct_step-requires
struct_step-requires c =
    laws.named_ask c.args.names c.args.book_kinds.now c.args.book_words.now c.args.work.now c.args.name
    c.args.index c.requires c.if-body-eq0.false _ c.type_group.ensures _ c.in-Struct.is

pub returns-in-Struct : goal.returns-in-Struct
returns-in-Struct c =
    laws.named_struct_lem c.args.names c.args.book_kinds.now c.args.book_words.now c.args.work.now c.args.name
    c.args.index c.requires c.if-body-eq0.false _ c.type_group.ensures _ c.in-Struct.is
    c.struct_step.ensures

pub returns-in_default : goal.returns-in_default
returns-in_default c =
    laws.named_rest c.args.names c.args.book_kinds.now c.args.book_words.now c.args.work.now c.args.name
    c.args.index c.requires c.if-body-eq0.false _ c.type_group.ensures c.in_default.not-Struct

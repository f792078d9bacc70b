-- `layout_step::array_step` meets its contract.
use Rattle.layout_step.specs.Steps as laws
use mathlib.Core.Path.{refl}
use Rattle.std.proofs.lemmas.Result.{err_from_is_err_and}
use borrow.Author.Rules.{rules}
use Rattle.layout_step.proofs.array_step.Goals as goal

pub offset_bounds-book_kinds-at : goal.offset_bounds-book_kinds-at
offset_bounds-book_kinds-at c =
    let h = laws.at_kinds c.args.names c.args.book_kinds.now c.args.book_words.now c.args.work.now
    c.args.at c.args.index c.requires in
    search rules

pub slice_bounds-ks-count : goal.slice_bounds-ks-count
slice_bounds-ks-count c =
    let h = laws.at_kinds c.args.names c.args.book_kinds.now c.args.book_words.now c.args.work.now
    c.args.at c.args.index c.requires in
    search rules

pub slice_bounds-ks-start : goal.slice_bounds-ks-start
slice_bounds-ks-start c =
    let h = laws.at_kinds c.args.names c.args.book_kinds.now c.args.book_words.now c.args.work.now
    c.args.at c.args.index c.requires in
    search rules

pub offset_bounds-book_words-at : goal.offset_bounds-book_words-at
offset_bounds-book_words-at c =
    let h = laws.at_words c.args.names c.args.book_kinds.now c.args.book_words.now c.args.work.now
    c.args.at c.args.index c.requires in
    search rules

pub slice_bounds-ws-count : goal.slice_bounds-ws-count
slice_bounds-ws-count c =
    let h = laws.at_words c.args.names c.args.book_kinds.now c.args.book_words.now c.args.work.now
    c.args.at c.args.index c.requires in
    search rules

pub slice_bounds-ws-start : goal.slice_bounds-ws-start
slice_bounds-ws-start c =
    let h = laws.at_words c.args.names c.args.book_kinds.now c.args.book_words.now c.args.work.now
    c.args.at c.args.index c.requires in
    search rules

pub size_of-requires : goal.size_of-requires
size_of-requires c =
    laws.array_ask c.args.names c.args.book_kinds.now c.args.book_words.now c.args.work.now c.args.at
    c.args.index c.requires

pub returns-in_err-size : goal.returns-in_err-size
returns-in_err-size c =
    let p = err_from_is_err_and c.from_residual.result c.from_residual.ensures.1 in
    rw (p.1, p.2)
    (laws.array_refused c.args.names c.args.book_kinds.now c.args.book_words.now c.args.work.now c.args.at
    c.args.index c.requires _ c.size_of.ensures _ c.in_err-size.was)

pub returns-in-Some : goal.returns-in-Some
returns-in-Some c =
    laws.array_const c.args.names c.args.book_kinds.now c.args.book_words.now c.args.work.now c.args.at
    c.args.index c.requires _ c.size_of.ensures _ _ c.in_ok-size.was _ c.in-Some.is
    _ refl

pub returns-in-None : goal.returns-in-None
returns-in-None c =
    laws.array_varying c.args.names c.args.book_kinds.now c.args.book_words.now c.args.work.now c.args.at
    c.args.index c.requires _ c.size_of.ensures _ _ c.in_ok-size.was c.in-None.is

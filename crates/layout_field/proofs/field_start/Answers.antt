-- `layout_field::field_start` meets its contract.
use Rattle.std.proofs.lemmas.Result.{err_from_is_err_and}
use Rattle.book.specs.Entry.{entries}
use Rattle.layout_field.specs.Offsets as laws
use Rattle.layout_field.proofs.field_start.Goals as goal

pub returns-then-packed : goal.returns-then-packed
returns-then-packed c =
    laws.start_packed c.args.names (entries c.args.kinds.now c.args.words.now)
    (entries c.args.book_kinds.now c.args.book_words.now) c.args.work.now c.args.packed c.args.offset
    c.requires c.if-packed.true

pub placed-requires : goal.placed-requires
placed-requires c =
    laws.start_small c.args.names (entries c.args.kinds.now c.args.words.now)
    (entries c.args.book_kinds.now c.args.book_words.now) c.args.work.now c.args.packed c.args.offset
    c.requires c.if-packed.false _ c.align_of.ensures _ _ c.in_ok-align.was

pub returns-in_err-align : goal.returns-in_err-align
returns-in_err-align c =
    let p = err_from_is_err_and c.from_residual.result c.from_residual.ensures.1 in
    rw (p.1, p.2)
    (laws.start_refused c.args.names (entries c.args.kinds.now c.args.words.now)
    (entries c.args.book_kinds.now c.args.book_words.now) c.args.work.now c.args.packed c.args.offset
    c.requires c.if-packed.false _ c.align_of.ensures _ c.in_err-align.was)

pub returns : goal.returns
returns c =
    laws.start_at c.args.names (entries c.args.kinds.now c.args.words.now)
    (entries c.args.book_kinds.now c.args.book_words.now) c.args.work.now c.args.packed c.args.offset
    c.requires c.if-packed.false _ c.align_of.ensures _ _ c.in_ok-align.was _ c.placed.ensures

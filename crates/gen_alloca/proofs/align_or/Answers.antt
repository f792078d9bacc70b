-- `gen_alloca::align_or` meets its contract.
use Rattle.book.specs.Entry.{entries}
use Rattle.gen_alloca.specs.Alloca as laws
use Rattle.gen_alloca.proofs.align_or.Goals as goal

pub returns-then-kinds-at-eq-NUMBER : goal.returns-then-kinds-at-eq-NUMBER
returns-then-kinds-at-eq-NUMBER c =
    let ks = c.args.kinds.now in
    let ws = c.args.words.now in
    let bs = entries c.args.book_kinds.now c.args.book_words.now in
    laws.align_stated c.args.names ks ws c.args.at bs c.args.work.now c.requires c.args.s c.if-kinds-at-eq-NUMBER.true

pub returns : goal.returns
returns c =
    let ks = c.args.kinds.now in
    let ws = c.args.words.now in
    let bs = entries c.args.book_kinds.now c.args.book_words.now in
    laws.align_measured c.args.names ks ws c.args.at bs c.args.work.now c.requires c.args.s c.if-kinds-at-eq-NUMBER.false c.measured_align.ensures

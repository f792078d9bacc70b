-- `gen_passes::generate` meets its contract: what the functions share, then as the passes answer.
use Rattle.book.specs.Entry.{entries}
use Rattle.lowering.specs.Context.{codegen_of}
use Rattle.gen_blocks.specs.Function.{functions_in}
use Rattle.gen_passes.specs.Generate.{here, some_entry, passes_answer, passes_ask}
use borrow.Author.Rules.{rules}
use Rattle.gen_passes.proofs.generate.Goals as goal

pub overflow_sub-book_kinds : goal.overflow_sub-book_kinds
overflow_sub-book_kinds c =
    let some = some_entry c.args.book_kinds.now c.args.book_words.now c.requires.generate_ask c.prepare_book-first.ensures in
    search rules

pub pass_over-requires : goal.pass_over-requires
pass_over-requires c =
    record { pass_ask = passes_ask c.args.book_kinds.now c.args.book_words.now c.requires.generate_ask c.prepare_book-first.ensures; own_lines_len = c.requires.own_lines_len }

pub returns : goal.returns
returns c =
    let ks = c.args.book_kinds.now in
    let ws = c.args.book_words.now in
    let d = c.prepare_book-first.ensures in
    λ ns b en eb.
    passes_answer ks ws c.requires.generate_ask d ns b eb c.args.counter _ _ _ _ _ _
    (c.pass_over.ensures (codegen_of ns b) (functions_in c.args.count (entries ks ws)) (here ks ws c.requires.generate_ask d) (d.shared ns b en eb) d.clean)

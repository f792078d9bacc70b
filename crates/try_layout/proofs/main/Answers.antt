-- `try_layout::main` meets its contract: its entries are a book, and the work words begin as 0.
use Rattle.std.proofs.Common.{◌+◌, ◌*◌, arith}
use Rattle.std.proofs.lemmas.List.{get_or-replicate}
use Rattle.layout_memo.specs.Work.{table_at}
use Rattle.try_layout.specs.Book.{kinds, words}
use Rattle.try_layout.specs.Decodes.{this_book}
use Rattle.try_layout.specs.Laws.{all_zero}
use Rattle.try_layout.proofs.main.Goals as goal

pub place_structs-requires : goal.place_structs-requires
unfolding kinds words
place_structs-requires c =
    record {
      book = this_book;
      room = omega arith;
      bodies = λ x l. get_or-replicate 576 (8 * x + 4) 0 0 (omega arith);
      known = λ x l. get_or-replicate 576 (8 * x + 7) 0 0 (omega arith);
      table = λ k. all_zero 576 (table_at _ k);
    }

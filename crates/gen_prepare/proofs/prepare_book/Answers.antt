-- `gen_prepare::prepare_book` meets its contract: the structs, how names are called, then where the functions begin.
use Rattle.gen_prepare.specs.Passes as laws
use Rattle.gen_prepare.proofs.prepare_book.Goals as goal

pub place_structs-requires : goal.place_structs-requires
place_structs-requires c =
    laws.structs_ask _ c.requires

pub place_marks-requires : goal.place_marks-requires
place_marks-requires c =
    laws.marks_ask _ c.requires c.place_structs.ensures

pub returns : goal.returns
returns c =
    laws.book_done _ c.requires c.place_structs.ensures c.place_marks.ensures c.find_function.ensures

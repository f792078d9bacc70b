-- `book_check::check_noting` meets its contract: what was read decides, in document 01's order.
use Rattle.book_check.specs.Verdict as verdict
use Rattle.book_check.proofs.check_noting.Goals as goal

pub returns-in-Some : goal.returns-in-Some
returns-in-Some c =
    let a = c.args in
    let named = c.read_names.ensures in
    record {
      result_value = verdict.check_sorted a.book.now a.names.now a.counter a.work _ c.name_count-count.ensures _
          named.value _ _ c.in-Some.is _ c.read_book.ensures _ c.judged.ensures;
      noted_where = λ _. verdict.noted_sorted a.book.now a.names.now a.counter a.work _ c.name_count-count.ensures _
          named.value _ _ c.in-Some.is named.noted_where;
    }

pub returns-in-None : goal.returns-in-None
returns-in-None c =
    let a = c.args in
    let named = c.read_names.ensures in
    record {
      result_value = verdict.check_bad a.book.now a.names.now a.counter a.work _ c.name_count-count.ensures _
          named.value c.in-None.is _ c.read_book-in-None.ensures _ c.judged-in-None.ensures;
      noted_where = λ sound. absurd (verdict.unnamed a.book.now a.names.now a.counter a.work _ c.name_count-count.ensures _
          named.value _ c.read_book-in-None.ensures _ c.judged-in-None.ensures sound);
    }

-- `list_params` meets its contract: in the entries of the list each parameter has one of kind 6.
use mathlib.Core.Path.{sym, ◌∙◌}
use Rattle.std.specs.Prelude.{Some, None}
use lib.Seq.{length-take-le}
use Rattle.book.specs.Fields.{Item as BookItem}
use Rattle.book.specs.Decode.{item}
use Rattle.book.specs.Entry.{entries}
use Rattle.book.specs.Read.{many}
use Rattle.book.specs.Forbidden.{any, other_item}
use Rattle.book_types.specs.Passes.{listed}
use Rattle.print.specs.Function.{found_len, none_len, no_params, list_fits, list_count}
use Rattle.print.proofs.params.list_params.Goals as goal

pub returns-in_default : goal.returns-in_default
returns-in_default c =
    let a = c.args in
    no_params a.names a.kinds.now a.words.now c.requires
    (none_len (any (other_item BookItem.param)) (many (item a.names BookItem.param) (entries a.kinds.now a.words.now))
    (listed (other_item BookItem.param) (item a.names BookItem.param) (entries a.kinds.now a.words.now) _ None
    (sym c.in_default.is ∙ c.list_len.ensures) c.shorter.ensures))

pub slice_bounds-count_params-end : goal.slice_bounds-count_params-end
slice_bounds-count_params-end c =
    let a = c.args in
    sym
    (length-take-le _ _
    (list_fits a.names a.kinds.now a.words.now c.requires _
    (found_len (any (other_item BookItem.param)) (many (item a.names BookItem.param) (entries a.kinds.now a.words.now)) c.in-Some.found
    (listed (other_item BookItem.param) (item a.names BookItem.param) (entries a.kinds.now a.words.now) _ (Some c.in-Some.found)
    c.in-Some.ensures c.shorter.ensures))))

pub returns : goal.returns
returns c =
    let a = c.args in
    list_count a.names a.kinds.now a.words.now c.requires _
    (found_len (any (other_item BookItem.param)) (many (item a.names BookItem.param) (entries a.kinds.now a.words.now)) c.in-Some.found
    (listed (other_item BookItem.param) (item a.names BookItem.param) (entries a.kinds.now a.words.now) _ (Some c.in-Some.found)
    c.in-Some.ensures c.shorter.ensures)) _ c.count_params.ensures

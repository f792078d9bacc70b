-- `book_blocks::signature_and_blocks_len` meets its contract: parameters and blocks are read behind the return type.
use mathlib.Core.Path.{◌∙◌, sym, ap}
use native.Mathlib.Omega.{arith}
use Prim.Native.Nat.{◌+◌}
use Rattle.std.specs.Prelude.{Some, None}
use Rattle.numbers.specs.Bits.{bit_at}
use Rattle.book.specs.Read.{many, both}
use Rattle.book.specs.Fields.{Item}
use Rattle.book.specs.Decode.{type, item, basic_block}
use Rattle.book.specs.Forbidden.{any, other_item, forbidden_block}
use Rattle.book.proofs.AgreeTy.{agrees_type}
use Rattle.book.proofs.AgreeBook.{agrees_params_and_blocks}
use Rattle.book_types.specs.Found.{plain, after, pair_test, never}
use Rattle.book_types.specs.Laws as laws
use Rattle.book_types.specs.Passes as passes
use Rattle.book_blocks.proofs.signature_and_blocks_len.Goals as goal

pub returns-in_err-n : goal.returns-in_err-n
returns-in_err-n c =
    let a = c.args in
    c.from_residual.ensures ∙ passes.first_none (type a.names) (both (many (item a.names Item.param)) (many (basic_block a.names))) never (pair_test (any (other_item Item.param)) (any (forbidden_block (bit_at a.barred.now)))) a.kinds.now a.words.now (passes.plain_is _ None c.in_err-n.ensures)

pub offset_bounds-kinds-n : goal.offset_bounds-kinds-n
offset_bounds-kinds-n c = omega (arith, laws.within_kinds c.in_ok-n.n _ _ (laws.len_fits (agrees_type _) _ _ (sym c.in_ok-n.ensures)), c.well_formed)

pub slice_bounds-params_and_blocks_len-count : goal.slice_bounds-params_and_blocks_len-count
slice_bounds-params_and_blocks_len-count c = laws.within_kinds c.in_ok-n.n _ _ (laws.len_fits (agrees_type _) _ _ (sym c.in_ok-n.ensures))

pub slice_bounds-params_and_blocks_len-start : goal.slice_bounds-params_and_blocks_len-start
slice_bounds-params_and_blocks_len-start c = laws.within_kinds c.in_ok-n.n _ _ (laws.len_fits (agrees_type _) _ _ (sym c.in_ok-n.ensures))

pub offset_bounds-words-n : goal.offset_bounds-words-n
offset_bounds-words-n c = omega (arith, laws.within_words c.in_ok-n.n _ _ (laws.len_fits (agrees_type _) _ _ (sym c.in_ok-n.ensures)), c.well_formed)

pub slice_bounds-params_and_blocks_len-count-2 : goal.slice_bounds-params_and_blocks_len-count-2
slice_bounds-params_and_blocks_len-count-2 c = laws.within_words c.in_ok-n.n _ _ (laws.len_fits (agrees_type _) _ _ (sym c.in_ok-n.ensures))

pub slice_bounds-params_and_blocks_len-start-2 : goal.slice_bounds-params_and_blocks_len-start-2
slice_bounds-params_and_blocks_len-start-2 c = laws.within_words c.in_ok-n.n _ _ (laws.len_fits (agrees_type _) _ _ (sym c.in_ok-n.ensures))

pub returns-in_err-rest : goal.returns-in_err-rest
returns-in_err-rest c =
    let a = c.args in
    c.from_residual-in_err-rest.ensures ∙ passes.then_is (type a.names) (both (many (item a.names Item.param)) (many (basic_block a.names))) never (pair_test (any (other_item Item.param)) (any (forbidden_block (bit_at a.barred.now)))) a.kinds.now a.words.now (plain c.in_ok-n.n) (passes.plain_is _ (Some c.in_ok-n.n) c.in_ok-n.ensures) None c.in_err-rest.ensures

pub then-requires : goal.then-requires
then-requires c =
    let a = c.args in
    omega (arith, ap (λ f. f.entries) c.plain.ensures, laws.within_kinds (c.in_ok-n.n + c.in_ok-rest.rest.entries) _ _ (passes.found_lent (pair_test (any (other_item Item.param)) (any (forbidden_block (bit_at a.barred.now)))) (agrees_params_and_blocks _) a.kinds.now a.words.now _ _ (laws.len_fits (agrees_type _) _ _ (sym c.in_ok-n.ensures)) c.in_ok-rest.ensures))

pub returns : goal.returns
returns c =
    let a = c.args in
    ap Some (c.then.ensures ∙ ap (λ f. after f c.in_ok-rest.rest) c.plain.ensures) ∙ passes.then_is (type a.names) (both (many (item a.names Item.param)) (many (basic_block a.names))) never (pair_test (any (other_item Item.param)) (any (forbidden_block (bit_at a.barred.now)))) a.kinds.now a.words.now (plain c.in_ok-n.n) (passes.plain_is _ (Some c.in_ok-n.n) c.in_ok-n.ensures) (Some c.in_ok-rest.rest) c.in_ok-rest.ensures

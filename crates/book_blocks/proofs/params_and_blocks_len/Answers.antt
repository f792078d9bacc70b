-- `book_blocks::params_and_blocks_len` meets its contract: the blocks are read behind the parameters.
use mathlib.Core.Path.{◌∙◌, sym, ap}
use native.Mathlib.Omega.{arith}
use Prim.Native.Nat.{◌+◌}
use Rattle.std.specs.Prelude.{Some, None}
use Rattle.numbers.specs.Bits.{bit_at}
use Rattle.book.specs.Entry.{entries}
use Rattle.book.specs.Read.{many}
use Rattle.book.specs.Fields.{Item}
use Rattle.book.specs.Decode.{item, basic_block}
use Rattle.book.specs.Forbidden.{any, other_item, forbidden_block}
use Rattle.book.proofs.AgreeInst.{agrees_items}
use Rattle.book.proofs.AgreeBook.{agrees_blocks}
use Rattle.book_types.specs.Laws as laws
use Rattle.book_types.specs.Passes as passes
use Rattle.book_blocks.proofs.params_and_blocks_len.Goals as goal

pub returns-in_err-params : goal.returns-in_err-params
returns-in_err-params c =
    let a = c.args in
    c.from_residual.ensures ∙ passes.first_none (many (item a.names Item.param)) (many (basic_block a.names)) (any (other_item Item.param)) (any (forbidden_block (bit_at a.barred.now))) a.kinds.now a.words.now (passes.listed (other_item Item.param) (item a.names Item.param) (entries a.kinds.now a.words.now) _ None c.in_err-params.ensures c.shorter.ensures)

pub offset_bounds-kinds-n : goal.offset_bounds-kinds-n
offset_bounds-kinds-n c = omega (arith, laws.within_kinds c.in_ok-params.params.entries _ _ (passes.found_fits (any (other_item Item.param)) (agrees_items c.args.names Item.param) _ _ (sym (passes.listed (other_item Item.param) (item c.args.names Item.param) _ _ (Some c.in_ok-params.params) c.in_ok-params.ensures c.shorter.ensures))), c.well_formed)

pub slice_bounds-blocks_len-count : goal.slice_bounds-blocks_len-count
slice_bounds-blocks_len-count c = laws.within_kinds c.in_ok-params.params.entries _ _ (passes.found_fits (any (other_item Item.param)) (agrees_items c.args.names Item.param) _ _ (sym (passes.listed (other_item Item.param) (item c.args.names Item.param) _ _ (Some c.in_ok-params.params) c.in_ok-params.ensures c.shorter.ensures)))

pub slice_bounds-blocks_len-start : goal.slice_bounds-blocks_len-start
slice_bounds-blocks_len-start c = laws.within_kinds c.in_ok-params.params.entries _ _ (passes.found_fits (any (other_item Item.param)) (agrees_items c.args.names Item.param) _ _ (sym (passes.listed (other_item Item.param) (item c.args.names Item.param) _ _ (Some c.in_ok-params.params) c.in_ok-params.ensures c.shorter.ensures)))

pub offset_bounds-words-n : goal.offset_bounds-words-n
offset_bounds-words-n c = omega (arith, laws.within_words c.in_ok-params.params.entries _ _ (passes.found_fits (any (other_item Item.param)) (agrees_items c.args.names Item.param) _ _ (sym (passes.listed (other_item Item.param) (item c.args.names Item.param) _ _ (Some c.in_ok-params.params) c.in_ok-params.ensures c.shorter.ensures))), c.well_formed)

pub slice_bounds-blocks_len-count-2 : goal.slice_bounds-blocks_len-count-2
slice_bounds-blocks_len-count-2 c = laws.within_words c.in_ok-params.params.entries _ _ (passes.found_fits (any (other_item Item.param)) (agrees_items c.args.names Item.param) _ _ (sym (passes.listed (other_item Item.param) (item c.args.names Item.param) _ _ (Some c.in_ok-params.params) c.in_ok-params.ensures c.shorter.ensures)))

pub slice_bounds-blocks_len-start-2 : goal.slice_bounds-blocks_len-start-2
slice_bounds-blocks_len-start-2 c = laws.within_words c.in_ok-params.params.entries _ _ (passes.found_fits (any (other_item Item.param)) (agrees_items c.args.names Item.param) _ _ (sym (passes.listed (other_item Item.param) (item c.args.names Item.param) _ _ (Some c.in_ok-params.params) c.in_ok-params.ensures c.shorter.ensures)))

pub returns-in_err-blocks : goal.returns-in_err-blocks
returns-in_err-blocks c =
    let a = c.args in
    c.from_residual-in_err-blocks.ensures ∙ passes.then_is (many (item a.names Item.param)) (many (basic_block a.names)) (any (other_item Item.param)) (any (forbidden_block (bit_at a.barred.now))) a.kinds.now a.words.now c.in_ok-params.params (passes.listed (other_item Item.param) (item a.names Item.param) (entries a.kinds.now a.words.now) _ (Some c.in_ok-params.params) c.in_ok-params.ensures c.shorter.ensures) None c.in_err-blocks.ensures

pub then-requires : goal.then-requires
then-requires c =
    let a = c.args in
    omega (arith, laws.within_kinds (c.in_ok-params.params.entries + c.in_ok-blocks.blocks.entries) _ _ (passes.found_lent (any (forbidden_block (bit_at a.barred.now))) (agrees_blocks _) a.kinds.now a.words.now _ _ (passes.found_fits (any (other_item Item.param)) (agrees_items c.args.names Item.param) _ _ (sym (passes.listed (other_item Item.param) (item c.args.names Item.param) _ _ (Some c.in_ok-params.params) c.in_ok-params.ensures c.shorter.ensures))) c.in_ok-blocks.ensures))

pub returns : goal.returns
returns c =
    let a = c.args in
    ap Some c.then.ensures ∙ passes.then_is (many (item a.names Item.param)) (many (basic_block a.names)) (any (other_item Item.param)) (any (forbidden_block (bit_at a.barred.now))) a.kinds.now a.words.now c.in_ok-params.params (passes.listed (other_item Item.param) (item a.names Item.param) (entries a.kinds.now a.words.now) _ (Some c.in_ok-params.params) c.in_ok-params.ensures c.shorter.ensures) (Some c.in_ok-blocks.blocks) c.in_ok-blocks.ensures

-- `book_blocks::function_len` meets its contract: the rest is read behind the function's entry.
use mathlib.Core.Path.{◌∙◌, sym, ap}
use native.Mathlib.Omega.{arith}
use Prim.Native.Nat.{◌+◌}
use Rattle.std.specs.Prelude.{Some, None}
use Rattle.numbers.specs.Bits.{bit_at}
use Rattle.book.specs.Entry.{entries}
use Rattle.book.specs.Read.{word, many, both}
use Rattle.book.specs.Fields.{Item}
use Rattle.book.specs.Decode.{name, type, item, basic_block, function}
use Rattle.book.specs.Forbidden.{any, other_item, forbidden_block, forbidden_function}
use Rattle.book.proofs.AgreeInst.{agrees_name}
use Rattle.book.proofs.AgreeBook.{agrees_signature_and_blocks}
use Rattle.book_types.specs.Found.{plain, after, pair_test, never}
use Rattle.book_types.specs.Laws as laws
use Rattle.book_types.specs.Passes as passes
use Rattle.book_blocks.specs.Calls as calls
use Rattle.book_blocks.proofs.function_len.Goals as goal

pub returns-in_err-n : goal.returns-in_err-n
unfolding function
returns-in_err-n c =
    let a = c.args in
    c.from_residual.ensures ∙ passes.first_none (word 5 (name a.names)) (both (type a.names) (both (many (item a.names Item.param)) (many (basic_block a.names)))) never (pair_test never (pair_test (any (other_item Item.param)) (any (forbidden_block (bit_at a.barred.now))))) a.kinds.now a.words.now (passes.plain_is _ None c.in_err-n.ensures) ∙ passes.found_ext
    (pair_test never (pair_test never (pair_test (any (other_item Item.param)) (any (forbidden_block (bit_at a.barred.now))))))
    (λ p. any (forbidden_block (bit_at a.barred.now)) p.1.1.1) (calls.no_param (bit_at a.barred.now))
    ((both (word 5 (name a.names)) (both (type a.names) (both (many (item a.names Item.param)) (many (basic_block a.names)))))
    (entries a.kinds.now a.words.now)) ∙ sym
    (passes.mapped_found (forbidden_function (bit_at a.barred.now))
    (λ p. record { name = p.0; ret_ty = p.1.0; params = p.1.1.0; blocks = p.1.1.1 })
    (both (word 5 (name a.names)) (both (type a.names) (both (many (item a.names Item.param)) (many (basic_block a.names)))))
    (entries a.kinds.now a.words.now))

pub offset_bounds-kinds-n : goal.offset_bounds-kinds-n
offset_bounds-kinds-n c = omega (arith, laws.within_kinds c.in_ok-n.n _ _ (laws.len_fits (agrees_name _ 5) _ _ (sym c.in_ok-n.ensures)), c.well_formed)

pub slice_bounds-signature_and_blocks_len-count : goal.slice_bounds-signature_and_blocks_len-count
slice_bounds-signature_and_blocks_len-count c = laws.within_kinds c.in_ok-n.n _ _ (laws.len_fits (agrees_name _ 5) _ _ (sym c.in_ok-n.ensures))

pub slice_bounds-signature_and_blocks_len-start : goal.slice_bounds-signature_and_blocks_len-start
slice_bounds-signature_and_blocks_len-start c = laws.within_kinds c.in_ok-n.n _ _ (laws.len_fits (agrees_name _ 5) _ _ (sym c.in_ok-n.ensures))

pub offset_bounds-words-n : goal.offset_bounds-words-n
offset_bounds-words-n c = omega (arith, laws.within_words c.in_ok-n.n _ _ (laws.len_fits (agrees_name _ 5) _ _ (sym c.in_ok-n.ensures)), c.well_formed)

pub slice_bounds-signature_and_blocks_len-count-2 : goal.slice_bounds-signature_and_blocks_len-count-2
slice_bounds-signature_and_blocks_len-count-2 c = laws.within_words c.in_ok-n.n _ _ (laws.len_fits (agrees_name _ 5) _ _ (sym c.in_ok-n.ensures))

pub slice_bounds-signature_and_blocks_len-start-2 : goal.slice_bounds-signature_and_blocks_len-start-2
slice_bounds-signature_and_blocks_len-start-2 c = laws.within_words c.in_ok-n.n _ _ (laws.len_fits (agrees_name _ 5) _ _ (sym c.in_ok-n.ensures))

pub returns-in_err-rest : goal.returns-in_err-rest
unfolding function
returns-in_err-rest c =
    let a = c.args in
    c.from_residual-in_err-rest.ensures ∙ passes.then_is (word 5 (name a.names)) (both (type a.names) (both (many (item a.names Item.param)) (many (basic_block a.names)))) never (pair_test never (pair_test (any (other_item Item.param)) (any (forbidden_block (bit_at a.barred.now))))) a.kinds.now a.words.now (plain c.in_ok-n.n) (passes.plain_is _ (Some c.in_ok-n.n) c.in_ok-n.ensures) None c.in_err-rest.ensures ∙ passes.found_ext
    (pair_test never (pair_test never (pair_test (any (other_item Item.param)) (any (forbidden_block (bit_at a.barred.now))))))
    (λ p. any (forbidden_block (bit_at a.barred.now)) p.1.1.1) (calls.no_param (bit_at a.barred.now))
    ((both (word 5 (name a.names)) (both (type a.names) (both (many (item a.names Item.param)) (many (basic_block a.names)))))
    (entries a.kinds.now a.words.now)) ∙ sym
    (passes.mapped_found (forbidden_function (bit_at a.barred.now))
    (λ p. record { name = p.0; ret_ty = p.1.0; params = p.1.1.0; blocks = p.1.1.1 })
    (both (word 5 (name a.names)) (both (type a.names) (both (many (item a.names Item.param)) (many (basic_block a.names)))))
    (entries a.kinds.now a.words.now))

pub then-requires : goal.then-requires
then-requires c =
    let a = c.args in
    omega (arith, ap (λ f. f.entries) c.plain.ensures, laws.within_kinds (c.in_ok-n.n + c.in_ok-rest.rest.entries) _ _ (passes.found_lent (pair_test never (pair_test (any (other_item Item.param)) (any (forbidden_block (bit_at a.barred.now))))) (agrees_signature_and_blocks _) a.kinds.now a.words.now _ _ (laws.len_fits (agrees_name _ 5) _ _ (sym c.in_ok-n.ensures)) c.in_ok-rest.ensures))

pub returns : goal.returns
unfolding function
returns c =
    let a = c.args in
    ap Some (c.then.ensures ∙ ap (λ f. after f c.in_ok-rest.rest) c.plain.ensures) ∙ passes.then_is (word 5 (name a.names)) (both (type a.names) (both (many (item a.names Item.param)) (many (basic_block a.names)))) never (pair_test never (pair_test (any (other_item Item.param)) (any (forbidden_block (bit_at a.barred.now))))) a.kinds.now a.words.now (plain c.in_ok-n.n) (passes.plain_is _ (Some c.in_ok-n.n) c.in_ok-n.ensures) (Some c.in_ok-rest.rest) c.in_ok-rest.ensures ∙ passes.found_ext
    (pair_test never (pair_test never (pair_test (any (other_item Item.param)) (any (forbidden_block (bit_at a.barred.now))))))
    (λ p. any (forbidden_block (bit_at a.barred.now)) p.1.1.1) (calls.no_param (bit_at a.barred.now))
    ((both (word 5 (name a.names)) (both (type a.names) (both (many (item a.names Item.param)) (many (basic_block a.names)))))
    (entries a.kinds.now a.words.now)) ∙ sym
    (passes.mapped_found (forbidden_function (bit_at a.barred.now))
    (λ p. record { name = p.0; ret_ty = p.1.0; params = p.1.1.0; blocks = p.1.1.1 })
    (both (word 5 (name a.names)) (both (type a.names) (both (many (item a.names Item.param)) (many (basic_block a.names)))))
    (entries a.kinds.now a.words.now))

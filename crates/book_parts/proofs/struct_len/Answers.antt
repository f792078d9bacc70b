-- `book_parts::struct_len` meets its contract: the body is read behind the name.
use Prim.Native.Nat.{◌+◌}
use mathlib.Core.Path.{◌∙◌, sym, ap}
use native.Mathlib.Omega.{arith}
use Rattle.std.specs.Prelude.{Some, None}
use Rattle.book.specs.Entry.{entries}
use Rattle.book.specs.Read.{word, both}
use Rattle.book.specs.Decode.{name, struct_body, struct_type}
use Rattle.book.proofs.AgreeInst.{agrees_name}
use Rattle.book.proofs.AgreeBook.{agrees_struct_body}
use Rattle.book_types.specs.Found.{plain, never}
use Rattle.book_types.specs.Laws as laws
use Rattle.book_types.specs.Passes as passes
use Rattle.book_parts.proofs.struct_len.Goals as goal

pub returns-in_err-n : goal.returns-in_err-n
unfolding struct_type
returns-in_err-n c =
    let a = c.args in
    c.from_residual.ensures ∙ ap passes.size_of (passes.first_none (word 3 (name a.names)) (struct_body a.names) never never a.kinds.now a.words.now (passes.plain_is _ None c.in_err-n.ensures) ∙ sym
    (passes.mapped_found never (λ p. record { name = p.0; body = p.1 }) (both (word 3 (name a.names)) (struct_body a.names))
    (entries a.kinds.now a.words.now))) ∙ passes.size_of_lem never (struct_type a.names (entries a.kinds.now a.words.now))

pub offset_bounds-kinds-n : goal.offset_bounds-kinds-n
offset_bounds-kinds-n c = omega (arith, laws.within_kinds c.in_ok-n.n _ _ (laws.len_fits (agrees_name _ 3) _ _ (sym c.in_ok-n.ensures)), c.well_formed)

pub slice_bounds-struct_body_len-count : goal.slice_bounds-struct_body_len-count
slice_bounds-struct_body_len-count c = laws.within_kinds c.in_ok-n.n _ _ (laws.len_fits (agrees_name _ 3) _ _ (sym c.in_ok-n.ensures))

pub slice_bounds-struct_body_len-start : goal.slice_bounds-struct_body_len-start
slice_bounds-struct_body_len-start c = laws.within_kinds c.in_ok-n.n _ _ (laws.len_fits (agrees_name _ 3) _ _ (sym c.in_ok-n.ensures))

pub offset_bounds-words-n : goal.offset_bounds-words-n
offset_bounds-words-n c = omega (arith, laws.within_words c.in_ok-n.n _ _ (laws.len_fits (agrees_name _ 3) _ _ (sym c.in_ok-n.ensures)), c.well_formed)

pub slice_bounds-struct_body_len-count-2 : goal.slice_bounds-struct_body_len-count-2
slice_bounds-struct_body_len-count-2 c = laws.within_words c.in_ok-n.n _ _ (laws.len_fits (agrees_name _ 3) _ _ (sym c.in_ok-n.ensures))

pub slice_bounds-struct_body_len-start-2 : goal.slice_bounds-struct_body_len-start-2
slice_bounds-struct_body_len-start-2 c = laws.within_words c.in_ok-n.n _ _ (laws.len_fits (agrees_name _ 3) _ _ (sym c.in_ok-n.ensures))

pub returns-in_err-body : goal.returns-in_err-body
unfolding struct_type
returns-in_err-body c =
    let a = c.args in
    c.from_residual-in_err-body.ensures ∙ ap passes.size_of (passes.then_is (word 3 (name a.names)) (struct_body a.names) never never a.kinds.now a.words.now (plain c.in_ok-n.n) (passes.plain_is _ (Some c.in_ok-n.n) c.in_ok-n.ensures) None (passes.plain_is _ None c.in_err-body.ensures) ∙ sym
    (passes.mapped_found never (λ p. record { name = p.0; body = p.1 }) (both (word 3 (name a.names)) (struct_body a.names))
    (entries a.kinds.now a.words.now))) ∙ passes.size_of_lem never (struct_type a.names (entries a.kinds.now a.words.now))

pub returns : goal.returns
unfolding struct_type
returns c =
    let a = c.args in
    ap passes.size_of (passes.then_is (word 3 (name a.names)) (struct_body a.names) never never a.kinds.now a.words.now (plain c.in_ok-n.n) (passes.plain_is _ (Some c.in_ok-n.n) c.in_ok-n.ensures) (Some (plain c.in_ok-body.body)) (passes.plain_is _ (Some c.in_ok-body.body) c.in_ok-body.ensures) ∙ sym
    (passes.mapped_found never (λ p. record { name = p.0; body = p.1 }) (both (word 3 (name a.names)) (struct_body a.names))
    (entries a.kinds.now a.words.now))) ∙ passes.size_of_lem never (struct_type a.names (entries a.kinds.now a.words.now))

pub overflow_add-result : goal.overflow_add-result
overflow_add-result c =
    let a = c.args in
    omega (
      arith,
      laws.within_kinds (c.in_ok-n.n + c.in_ok-body.body) _ _
          (laws.lent_fits (agrees_struct_body _) a.kinds.now a.words.now _ _ (laws.len_fits (agrees_name _ 3) _ _ (sym c.in_ok-n.ensures)) c.in_ok-body.ensures),
    )

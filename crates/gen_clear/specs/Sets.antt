-- The work words that the entries of a function set: word 0 of a parameter, 1 and 3 of a result, 2 of a block.
use Rattle.std.specs.Prelude.{ℕ, ◌+◌, ◌<◌, ◌≤◌, ◌≡◌, ◌⊎◌, List, [], ◌∷◌, ◌++◌}
use Rattle.std.proofs.Common.{inl, inr, arith}
use Rattle.std.proofs.Math.Option.{Option, none, some}
use Rattle.book.specs.Entry.{Entry, entry}
use Rattle.book.specs.Ast.{Ty, Inst, Terminator, BasicBlock, Param, Function}
use Rattle.book.specs.Kinds.{TermTag, term_kind}
use Rattle.book.specs.Fields.{inst_fields, term_fields, inst_tag_of, term_tag_of, inst_args, term_args}
use Rattle.book.specs.Encode.{ending, closed, dest_word, enc_ty, enc_inst, enc_term, enc_param, enc_basic_block, enc_function, enc_fields}
use Rattle.book.specs.Limits.{Each, Maybe, NameLimits, InstLimits, BlockLimits, ParamLimits, FunctionLimits}
use Rattle.gen_walk.specs.Walk.{Low, low_ty, low_fields}
use Rattle.book.specs.Heads.{Inside, inside_ty, inside_inst, inside_term}
use Rattle.gen_frame.specs.Scan.{inst_kinds}

-- the entry e sets the word j of the name x
pub data Sets (e : Entry) (x j : ℕ) : Type 0 where
  param : j ≡ 0 → e.kind ≡ 6 → e.word ≡ x + 1 → Sets e x j
  slot : j ≡ 1 → 40 ≤ e.kind → e.word ≡ x + 1 → Sets e x j
  block : j ≡ 2 → e.kind ≡ 7 → e.word ≡ x → Sets e x j
  place : j ≡ 3 → 40 ≤ e.kind → e.word ≡ x + 1 → Sets e x j

-- one of the list does
abbrev pub Somewhere : {A : Type 0} (P : A → Type 0) → List A → Type 0
Somewhere P [] = ⊥
Somewhere P (a ∷ as') = P a ⊎ Somewhere P as'

pub some_left : {A : Type 0} (P : A → Type 0) (xs ys : List A) → Somewhere P xs → Somewhere P (xs ++ ys)
some_left {A = A} P [] ys x' = elim x' [ ]
some_left P (x ∷ xs) ys (inl p) = inl p
some_left P (x ∷ xs) ys (inr p) = inr (some_left P xs ys p)

pub some_right : {A : Type 0} (P : A → Type 0) (xs ys : List A) → Somewhere P ys → Somewhere P (xs ++ ys)
some_right P [] ys p = p
some_right P (x ∷ xs) ys p = inr (some_right P xs ys p)

-- ---- the names that they say are names
pub record Bounded (m : ℕ) (e : Entry) : Type 0 where
  pub param : e.kind ≡ 6 → e.word ≤ m
  pub block : e.kind ≡ 7 → e.word < m
  pub inst : 40 ≤ e.kind → e.word ≤ m

bounded_append : (m : ℕ) (xs ys : List Entry) → Each (Bounded m) xs → Each (Bounded m) ys → Each (Bounded m) (xs ++ ys)
bounded_append m [] ys p q = q
bounded_append m (x ∷ xs) ys p q = (p.0, bounded_append m xs ys p.1 q)

-- entries that say none
fields_bounded : (m : ℕ) (xs : List Entry) → Low xs → Each Inside xs → Each (Bounded m) xs
fields_bounded m [] l i = tt
fields_bounded m (x ∷ xs) l i = (
  record { param = λ e. absurd (i.0 (omega arith) (omega arith)); block = λ e. absurd (l.0.1 e); inst = λ e. absurd (omega (arith, l.0.0)) },
  fields_bounded m xs l.1 i.1,
)

type_bounded : (m : ℕ) (t : Ty) → Each (Bounded m) (enc_ty t)
type_bounded m t = fields_bounded m (enc_ty t) (low_ty t) (inside_ty t)

ending_bounded : {A : Type 0} (m : ℕ) (P : A → Type 0) (write : A → List Entry) → ((a : A) → P a → Each (Bounded m) (write a)) → (end : List Entry) → Each (Bounded m) end
    → (as' : List A) → Each P as' → Each (Bounded m) (ending write end as')
unfolding ending
ending_bounded m P write all end e [] p = e
ending_bounded m P write all end e (a ∷ as') p = bounded_append m (write a) (ending write end as') (all a p.0) (ending_bounded m P write all end e as' p.1)

close_bounded : (m : ℕ) → Each (Bounded m) (entry 0 0 ∷ [])
close_bounded m = (record { param = λ e. absurd (omega arith); block = λ e. absurd (omega arith); inst = λ e. absurd (omega arith) }, tt)

dest_bounded : (m : ℕ) (o : Option ℕ) → Maybe (NameLimits m) o → dest_word o ≤ m
dest_bounded m none l = omega arith
dest_bounded m (some x) l = omega arith

inst_bounded : (m : ℕ) (i : Inst) → InstLimits m i → Each (Bounded m) (enc_inst i)
unfolding enc_inst
inst_bounded m i l =
    let n = inst_kinds (inst_tag_of i.kind) in
    let fields = enc_fields (inst_fields (inst_tag_of i.kind)) (inst_args i.kind) in (
      record { param = λ e. absurd (omega (arith, n.0)); block = λ e. absurd (omega (arith, n.0)); inst = λ e. dest_bounded m i.dest l.0 },
      fields_bounded m fields (low_fields (inst_fields (inst_tag_of i.kind)) (inst_args i.kind)) (inside_inst i).1,
    )

term_bounded : (m : ℕ) (t : Terminator) → Each (Bounded m) (enc_term t)
unfolding enc_term
term_bounded m t =
    let fields = enc_fields (term_fields (term_tag_of t)) (term_args t) in
    let own : Bounded m (entry (term_kind (term_tag_of t)) 0) = record { param = λ e. omega arith; block = λ e. absurd (term_not_seven (term_tag_of t) e); inst = λ e. omega arith } in
    (own, fields_bounded m fields (low_fields (term_fields (term_tag_of t)) (term_args t)) (inside_term t).1)
  where
    term_not_seven : (t : TermTag) → term_kind t ≡ 7 → ⊥
    term_not_seven TermTag.ret e = omega arith
    term_not_seven TermTag.br e = omega arith
    term_not_seven TermTag.switch e = omega arith
    term_not_seven TermTag.unreachable e = omega arith

block_bounded : (m : ℕ) (b : BasicBlock) → BlockLimits m b → Each (Bounded m) (enc_basic_block b)
unfolding enc_basic_block
block_bounded m b l = (
  record { param = λ e. absurd (omega arith); block = λ e. l.0; inst = λ e. absurd (omega arith) },
  ending_bounded m (InstLimits m) enc_inst (inst_bounded m) (enc_term b.term) (term_bounded m b.term) b.insts l.1.0,
)

param_bounded : (m : ℕ) (p : Param) → ParamLimits m p → Each (Bounded m) (enc_param p)
unfolding enc_param
param_bounded m p l =
    (record { param = λ e. dest_bounded m p.name l.0; block = λ e. absurd (omega arith); inst = λ e. absurd (omega arith) }, type_bounded m p.ty)

pub function_bounded : (m : ℕ) (f : Function) → FunctionLimits m f → Each (Bounded m) (enc_function f)
unfolding enc_function
function_bounded m f l =
    let ps = closed enc_param f.params in
    let bs = closed enc_basic_block f.blocks in (
      record { param = λ e. absurd (omega arith); block = λ e. absurd (omega arith); inst = λ e. absurd (omega arith) },
      bounded_append m (enc_ty f.ret_ty) (ps ++ bs) (type_bounded m f.ret_ty)
          (bounded_append m ps bs (ending_bounded m (ParamLimits m) enc_param (param_bounded m) (entry 0 0 ∷ []) (close_bounded m) f.params l.1.1.0)
          (ending_bounded m (BlockLimits m) enc_basic_block (block_bounded m) (entry 0 0 ∷ []) (close_bounded m) f.blocks l.1.1.1)),
    )

-- Where functions begin among a book's entries: at those of kind 5, and nowhere else. Inside a type, an instruction or a terminator no kind is
-- from 1 to 9, so that a scan for one of these finds no such entry there.
use Rattle.std.specs.Prelude.{ℕ, ◌≤◌, true, false, ◌≡◌, refl, leb}
use Rattle.std.proofs.Math.Path.{sym}
use Rattle.std.proofs.Common.{ap, ◌∙◌, arith, leb-true}
use Rattle.std.proofs.Math.Option.{Option, none, some}
use mathlib.Core.List.{List, [], ◌∷◌, ◌++◌, append_assoc}
use Rattle.book.specs.Entry.{Entry, entry}
use Rattle.book.specs.Ast.{Ty, Tys, Sizeless, Value, Zero, TypedVal, Inst, Terminator, BasicBlock, Param, Function, StructBody, StructType, Mark, Book}
use Rattle.book.specs.Kinds.{InstTag, TermTag, inst_kind, term_kind, inst_tags, term_tags, inst_tag, term_tag}
use Rattle.book.specs.Fields.{Item, Field, ItemMeaning, Meaning, Meanings, inst_fields, term_fields, inst_tag_of, term_tag_of, inst_args, term_args}
use Rattle.book.specs.Encode.{ending, closed, or_absent, enc_ty, enc_tys, value_entry, enc_typed, enc_item, enc_field, enc_fields, enc_inst, enc_term, enc_param, enc_basic_block, enc_function, enc_functions, enc_mark, mark_entry, enc_struct, enc_body, encode}
use Rattle.book.specs.Limits.{Each}
use Rattle.book.specs.AgreeTy.{find_every}
use Rattle.book.specs.AgreeInst.{inst_found, term_found}

abbrev pub Inside : Entry → Type 0
Inside e = 1 ≤ e.kind → e.kind ≤ 9 → ⊥

inside_append : (xs ys : List Entry) → Each Inside xs → Each Inside ys → Each Inside (xs ++ ys)
inside_append [] ys p q = q
inside_append (x ∷ xs) ys p q = (p.0, inside_append xs ys p.1 q)

module _ {A : Type 0} (write : A → List Entry) (all : (a : A) → Each Inside (write a)) where
  inside_ending : (end : List Entry) → Each Inside end → (as' : List A) → Each Inside (ending write end as')
  unfolding ending
  inside_ending end e [] = e
  inside_ending end e (a ∷ as') = inside_append (write a) _ (all a) (inside_ending end e as')

  inside_closed : (as' : List A) → Each Inside (closed write as')
  inside_closed = inside_ending (entry 0 0 ∷ []) ((λ a b. omega arith), tt)

  inside_option : (o : Option A) → Each Inside (or_absent write o)
  inside_option none = ((λ a b. omega arith), tt)
  inside_option (some a) = all a

mutual
  unfolding enc_ty enc_tys

  pub inside_ty : (t : Ty) → Each Inside (enc_ty t)
  inside_ty Ty.void = ((λ a b. omega arith), tt)
  inside_ty Ty.ptr = ((λ a b. omega arith), tt)
  inside_ty (Ty.sizeless Sizeless.func) = ((λ a b. omega arith), tt)
  inside_ty (Ty.sizeless Sizeless.label) = ((λ a b. omega arith), tt)
  inside_ty (Ty.sizeless Sizeless.metadata) = ((λ a b. omega arith), tt)
  inside_ty (Ty.int w) = ((λ a b. omega arith), tt)
  inside_ty (Ty.array false n t) = ((λ a b. omega arith), inside_ty t)
  inside_ty (Ty.array true n t) = ((λ a b. omega arith), inside_ty t)
  inside_ty (Ty.named_struct x) = ((λ a b. omega arith), tt)
  inside_ty (Ty.struct false ts) = ((λ a b. omega arith), inside_tys ts)
  inside_ty (Ty.struct true ts) = ((λ a b. omega arith), inside_tys ts)

  inside_tys : (ts : Tys) → Each Inside (enc_tys ts)
  inside_tys Tys.nil = ((λ a b. omega arith), tt)
  inside_tys (Tys.cons t ts) = inside_append (enc_ty t) _ (inside_ty t) (inside_tys ts)

inside_value : (v : Value) → Inside (value_entry v)
unfolding value_entry
inside_value (Value.local x) a b = omega arith
inside_value (Value.global x) a b = omega arith
inside_value (Value.int c) a b = omega arith
inside_value (Value.zero Zero.null) a b = omega arith
inside_value (Value.zero Zero.undef) a b = omega arith
inside_value (Value.zero Zero.poison) a b = omega arith
inside_value (Value.zero Zero.zero_init) a b = omega arith
inside_value Value.other a b = omega arith

inside_typed : (v : TypedVal) → Each Inside (enc_typed v)
inside_typed v = inside_append (enc_ty v.ty) _ (inside_ty v.ty) (inside_value v.val, tt)

-- an item of an instruction or terminator: a parameter is none
abbrev InsideItem : Item → Type 0
InsideItem i = (a : ItemMeaning i) → Each Inside (enc_item i a)

abbrev InsideField : Field → Type 0
InsideField f = (a : Meaning f) → Each Inside (enc_field f a)

abbrev InsideFields : List Field → Type 0
InsideFields [] = Unit {0}
InsideFields (f ∷ fs) = InsideField f × InsideFields fs

inside_fields : (fs : List Field) → InsideFields fs → (p : Meanings fs) → Each Inside (enc_fields fs p)
unfolding enc_fields
inside_fields [] all p = tt
inside_fields (f ∷ fs) all p = inside_append (enc_field f p.0) _ (all.0 p.0) (inside_fields fs all.1 p.1)

number : (k n : ℕ) → 10 ≤ k → Each Inside (entry k n ∷ [])
number k n l = ((λ a b. omega arith), tt)

type : InsideField (Field.plain Item.type)
type = inside_ty

value : InsideField (Field.plain Item.value)
value v = (inside_value v, tt)

block : InsideField (Field.plain Item.block)
block x = number 23 x (omega arith)

index : InsideField (Field.plain Item.index)
index x = number 22 x (omega arith)

align : InsideField (Field.optional Item.align)
align = inside_option (enc_item Item.align) (λ x. number 22 x (omega arith))

maybe_typed : InsideField (Field.optional Item.typed)
maybe_typed = inside_option enc_typed inside_typed

maybe_value : InsideField (Field.optional Item.value)
maybe_value = inside_option (enc_item Item.value) value

maybe_block : InsideField (Field.optional Item.block)
maybe_block = inside_option (enc_item Item.block) block

typeds : InsideField (Field.list Item.typed)
typeds = inside_closed enc_typed inside_typed

indices : InsideField (Field.up_to 32 Item.gep_index)
indices = inside_closed enc_typed inside_typed

incoming : InsideField (Field.list Item.incoming)
incoming = inside_closed (enc_item Item.incoming) (λ i. (inside_value i.val, number 23 i.label (omega arith)))

cases : InsideField (Field.list Item.case)
cases = inside_closed (enc_item Item.case) (λ c. ((λ a b. omega arith), number 23 c.label (omega arith)))

inst_fields_lem : (t : InstTag) → InsideFields (inst_fields t)
inst_fields_lem (InstTag.bin op) = (type, (value, (value, tt)))
inst_fields_lem (InstTag.conv op) = (type, (value, (type, tt)))
inst_fields_lem (InstTag.icmp p) = (type, (value, (value, tt)))
inst_fields_lem InstTag.select = (value, (type, (value, (value, tt))))
inst_fields_lem InstTag.load = (type, (value, (align, tt)))
inst_fields_lem InstTag.store = (type, (value, (value, (align, tt))))
inst_fields_lem InstTag.alloca = (type, (maybe_typed, (align, tt)))
inst_fields_lem InstTag.get_element_ptr = (type, (value, (indices, tt)))
inst_fields_lem InstTag.phi = (type, (incoming, tt))
inst_fields_lem InstTag.call = (type, (value, (typeds, tt)))
inst_fields_lem InstTag.freeze = (type, (value, tt))
inst_fields_lem InstTag.atomic_load = (type, (value, tt))
inst_fields_lem InstTag.atomic_store = (type, (value, (value, tt)))
inst_fields_lem InstTag.cmpxchg = (type, (value, (value, (value, tt))))
inst_fields_lem InstTag.extract_value = (value, (index, tt))
inst_fields_lem InstTag.fence = tt

term_fields_lem : (t : TermTag) → InsideFields (term_fields t)
term_fields_lem TermTag.ret = (maybe_typed, tt)
term_fields_lem TermTag.br = (maybe_value, (block, (maybe_block, tt)))
term_fields_lem TermTag.switch = (type, (value, (block, (cases, tt))))
term_fields_lem TermTag.unreachable = tt

-- kinds 40 to 82 and 90 to 93
inst_kind_lem : (t : InstTag) → 10 ≤ inst_kind t
unfolding inst_tag inst_tags
inst_kind_lem t = leb-true 10 (inst_kind t) (find_every (λ t. leb 10 (inst_kind t)) inst_kind (inst_kind t) inst_tags t refl (inst_found t))

term_kind_lem : (t : TermTag) → 10 ≤ term_kind t
unfolding term_tag term_tags
term_kind_lem t = leb-true 10 (term_kind t) (find_every (λ t. leb 10 (term_kind t)) term_kind (term_kind t) term_tags t refl (term_found t))

pub inside_inst : (i : Inst) → Each Inside (enc_inst i)
unfolding enc_inst
inside_inst i =
    let t = inst_tag_of i.kind in
    let l = inst_kind_lem t in
    ((λ a b. omega arith), inside_fields (inst_fields t) (inst_fields_lem t) (inst_args i.kind))

pub inside_term : (t : Terminator) → Each Inside (enc_term t)
unfolding enc_term
inside_term t =
    let l = term_kind_lem (term_tag_of t) in
    ((λ a b. omega arith), inside_fields (term_fields (term_tag_of t)) (term_fields_lem (term_tag_of t)) (term_args t))

-- a block behind its first entry
pub inside_body : (is : List Inst) (t : Terminator) → Each Inside (ending enc_inst (enc_term t) is)
inside_body is t = inside_ending enc_inst inside_inst (enc_term t) (inside_term t) is

-- ---- no entry of kind 5
abbrev pub Other : Entry → Type 0
Other e = e.kind ≡ 5 → ⊥

pub other_append : (xs ys : List Entry) → Each Other xs → Each Other ys → Each Other (xs ++ ys)
other_append [] ys p q = q
other_append (x ∷ xs) ys p q = (p.0, other_append xs ys p.1 q)

inside_other : (xs : List Entry) → Each Inside xs → Each Other xs
inside_other [] p = tt
inside_other (x ∷ xs) p = ((λ e. p.0 (omega arith) (omega arith)), inside_other xs p.1)

module _ {A : Type 0} (write : A → List Entry) (all : (a : A) → Each Other (write a)) where
  other_closed : (as' : List A) → Each Other (closed write as')
  unfolding ending
  other_closed [] = ((λ e. omega arith), tt)
  other_closed (a ∷ as') = other_append (write a) _ (all a) (other_closed as')

  -- the entries in front of an end
  front : (end : List Entry) (as' : List A) → (pre : List Entry) × ((ending write end as' ≡ pre ++ end) × Each Other pre)
  unfolding ending
  front end [] = ([], (refl, tt))
  front end (a ∷ as') =
      let r = front end as' in
      (write a ++ r.0, (ap (λ x. write a ++ x) r.1.0 ∙ sym (append_assoc (write a) r.0 end), other_append (write a) r.0 (all a) r.1.1))

other_param : (p : Param) → Each Other (enc_param p)
unfolding enc_param
other_param p = ((λ e. omega arith), inside_other (enc_ty p.ty) (inside_ty p.ty))

other_block : (b : BasicBlock) → Each Other (enc_basic_block b)
unfolding enc_basic_block
other_block b = ((λ e. omega arith), inside_other (ending enc_inst (enc_term b.term) b.insts) (inside_body b.insts b.term))

-- a function behind its first entry
abbrev pub function_rest : Function → List Entry
function_rest f = enc_ty f.ret_ty ++ (closed enc_param f.params ++ closed enc_basic_block f.blocks)

pub function_rest_lem : (f : Function) → enc_function f ≡ entry 5 f.name ∷ function_rest f
unfolding enc_function
function_rest_lem f = refl

pub other_function : (f : Function) → Each Other (function_rest f)
other_function f =
    other_append (enc_ty f.ret_ty) _ (inside_other (enc_ty f.ret_ty) (inside_ty f.ret_ty))
    (other_append (closed enc_param f.params) _ (other_closed enc_param other_param f.params) (other_closed enc_basic_block other_block f.blocks))

other_mark : (k : Mark) → Each Other (enc_mark k)
unfolding mark_entry
other_mark (Mark.defined x) = ((λ e. omega arith), tt)
other_mark (Mark.reserved x) = ((λ e. omega arith), tt)

other_body : (b : Option StructBody) → Each Other (enc_body b)
other_body none = ((λ e. omega arith), tt)
other_body (some b) = inside_other (enc_ty (Ty.struct b.packed b.fields)) (inside_ty (Ty.struct b.packed b.fields))

other_struct : (s : StructType) → Each Other (enc_struct s)
unfolding enc_struct
other_struct s = ((λ e. omega arith), other_body s.body)

-- ---- the entries of a book: its functions, with no entry of kind 5 before or behind them
pub record Heads (b : Book) : Type 0 where
  pub pre : List Entry
  pub here : encode b ≡ pre ++ enc_functions b.functions
  pub before : Each Other pre

pub book_heads : (b : Book) → Heads b
unfolding encode
book_heads b =
    let fs = enc_functions b.functions in
    let q = front enc_struct other_struct fs b.structs in
    let p = front enc_mark other_mark (ending enc_struct fs b.structs) b.marks in
    record {
      pre = p.0 ++ q.0;
      here = p.1.0 ∙ ap (λ x. p.0 ++ x) q.1.0 ∙ sym (append_assoc p.0 q.0 fs);
      before = other_append p.0 q.0 p.1.1 q.1.1;
    }

-- the entry that closes the functions is no function's either
pub other_closing : Each Other (entry 0 0 ∷ [])
other_closing = ((λ e. omega arith), tt)

-- "The book", the other way round: the entries of a book.
use Rattle.std.specs.Prelude.{ℕ, suc, max, ◌+◌, ◌≤◌, List, [], ◌∷◌, ◌++◌, length}
use Rattle.std.proofs.Math.Option.{Option, none, some}
use Rattle.std.proofs.Common.{arith}
use Rattle.book.specs.Entry.{Entry, entry}
use Rattle.book.specs.Ast.{Ty, Tys, Value, TypedVal, Incoming, Case, Inst, Terminator, BasicBlock, Param, Function, StructBody, StructType, Mark, Book}
use Rattle.book.specs.Kinds.{TyTag, ValTag, ty_kind, val_kind, inst_kind, term_kind}
use Rattle.book.specs.Fields.{Item, Field, ItemMeaning, Meaning, Meanings, inst_fields, term_fields, inst_tag_of, term_tag_of, inst_args, term_args}

module _ {A : Type 0} (write : A → List Entry) where
  -- items, then the end
  unfoldable pub ending : List Entry → List A → List Entry
  ending end [] = end
  ending end (a ∷ as') = write a ++ ending end as'

  -- lists close with kind 0
  abbrev pub closed : List A → List Entry
  closed = ending (entry 0 0 ∷ [])

  -- None is 21
  abbrev pub or_absent : Option A → List Entry
  or_absent none = entry 21 0 ∷ []
  or_absent (some a) = write a

unfoldable mutual
  pub enc_ty : Ty → List Entry
  enc_ty Ty.void = entry 10 0 ∷ []
  enc_ty Ty.ptr = entry 12 0 ∷ []
  enc_ty (Ty.sizeless s) = entry (ty_kind (TyTag.sizeless s)) 0 ∷ []
  enc_ty (Ty.int w) = entry 11 w ∷ []
  enc_ty (Ty.array p n t) = entry (ty_kind (TyTag.array p)) n ∷ enc_ty t
  enc_ty (Ty.named_struct x) = entry 15 x ∷ []
  enc_ty (Ty.struct p ts) = entry (ty_kind (TyTag.struct p)) 0 ∷ enc_tys ts

  pub enc_tys : Tys → List Entry
  enc_tys Tys.nil = entry 0 0 ∷ []
  enc_tys (Tys.cons t ts) = enc_ty t ++ enc_tys ts

-- levels: a type is one, each part one more
unfoldable mutual
  pub depth : Ty → ℕ
  depth Ty.void = 1
  depth Ty.ptr = 1
  depth (Ty.sizeless s) = 1
  depth (Ty.int w) = 1
  depth (Ty.array p n t) = suc (depth t)
  depth (Ty.named_struct x) = 1
  depth (Ty.struct p ts) = suc (depths ts)

  pub depths : Tys → ℕ
  depths Tys.nil = 0
  depths (Tys.cons t ts) = max (depth t) (depths ts)

unfoldable pub value_entry : Value → Entry
value_entry (Value.local x) = entry 30 x
value_entry (Value.global x) = entry 31 x
value_entry (Value.int c) = entry 32 c
value_entry (Value.zero z) = entry (val_kind (ValTag.zero z)) 0
value_entry Value.other = entry 37 0

abbrev pub enc_value : Value → List Entry
enc_value v = value_entry v ∷ []

abbrev pub enc_typed : TypedVal → List Entry
enc_typed v = enc_ty v.ty ++ enc_value v.val

abbrev pub enc_block : ℕ → List Entry
enc_block x = entry 23 x ∷ []

-- a number: an align, an index
abbrev pub enc_number : ℕ → List Entry
enc_number n = entry 22 n ∷ []

abbrev pub enc_incoming : Incoming → List Entry
enc_incoming i = enc_value i.val ++ enc_block i.label

abbrev pub enc_case : Case → List Entry
enc_case c = entry 32 c.value ∷ enc_block c.label

-- result name + 1, or 0
abbrev pub dest_word : Option ℕ → ℕ
dest_word none = 0
dest_word (some x) = x + 1

unfoldable pub enc_param : Param → List Entry
enc_param p = entry 6 (dest_word p.name) ∷ enc_ty p.ty

abbrev pub enc_item : (i : Item) → ItemMeaning i → List Entry
enc_item Item.type = enc_ty
enc_item Item.value = enc_value
enc_item Item.block = enc_block
enc_item Item.index = enc_number
enc_item Item.align = enc_number
enc_item Item.typed = enc_typed
enc_item Item.gep_index = enc_typed
enc_item Item.incoming = enc_incoming
enc_item Item.case = enc_case
enc_item Item.param = enc_param

abbrev pub enc_field : (f : Field) → Meaning f → List Entry
enc_field (Field.plain i) = enc_item i
enc_field (Field.optional i) = or_absent (enc_item i)
enc_field (Field.list i) = closed (enc_item i)
enc_field (Field.up_to n i) = closed (enc_item i)

unfoldable pub enc_fields : (fs : List Field) → Meanings fs → List Entry
enc_fields [] p = []
enc_fields (f ∷ fs) p = enc_field f p.0 ++ enc_fields fs p.1

unfoldable pub enc_inst : Inst → List Entry
enc_inst i = entry (inst_kind (inst_tag_of i.kind)) (dest_word i.dest) ∷ enc_fields (inst_fields (inst_tag_of i.kind)) (inst_args i.kind)

unfoldable pub enc_term : Terminator → List Entry
enc_term t = entry (term_kind (term_tag_of t)) 0 ∷ enc_fields (term_fields (term_tag_of t)) (term_args t)

-- instructions, then the terminator
unfoldable pub enc_basic_block : BasicBlock → List Entry
enc_basic_block b = entry 7 b.label ∷ ending enc_inst (enc_term b.term) b.insts

unfoldable pub enc_function : Function → List Entry
enc_function f = entry 5 f.name ∷ (enc_ty f.ret_ty ++ (closed enc_param f.params ++ closed enc_basic_block f.blocks))

-- which has one entry at least
pub function_long : (f : Function) → 1 ≤ length (enc_function f)
unfolding enc_function
function_long f = omega arith

unfoldable pub mark_entry : Mark → Entry
mark_entry (Mark.defined x) = entry 1 x
mark_entry (Mark.reserved x) = entry 2 x

abbrev pub enc_mark : Mark → List Entry
enc_mark k = mark_entry k ∷ []

abbrev pub enc_body : Option StructBody → List Entry
enc_body none = entry 4 0 ∷ []
enc_body (some b) = enc_ty (Ty.struct b.packed b.fields)

unfoldable pub enc_struct : StructType → List Entry
enc_struct s = entry 3 s.name ∷ enc_body s.body

abbrev pub enc_functions : List Function → List Entry
enc_functions = closed enc_function

unfoldable pub encode : Book → List Entry
encode b = ending enc_mark (ending enc_struct (enc_functions b.functions) b.structs) b.marks

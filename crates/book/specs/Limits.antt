-- "The book": the limits that a book with m names keeps.
use Rattle.std.specs.Prelude.{ℕ, ◌<◌, ◌≤◌, ◌^◌, ◌≡◌, true, List, [], ◌∷◌, length}
use Rattle.std.proofs.Math.Option.{Option, none, some}
use Rattle.numbers.specs.Width.{width_ok}
use Rattle.numbers.specs.Align.{is_align}
use Rattle.book.specs.Ast.{Ty, Tys, Value, TypedVal, Incoming, Case, Inst, Terminator, BasicBlock, Param, Function, StructBody, StructType, Book}
use Rattle.book.specs.Fields.{Item, Field, ItemMeaning, Meaning, Meanings, inst_fields, term_fields, inst_tag_of, term_tag_of, inst_args, term_args}
use Rattle.book.specs.Decode.{index_fits, once_each, mark_name}
use Rattle.book.specs.Encode.{depth}

module _ {A : Type 0} (P : A → Type 0) where
  -- of each item
  abbrev pub Each : List A → Type 0
  Each [] = Unit {0}
  Each (a ∷ as') = P a × Each as'

  -- of the value, where there is one
  abbrev pub Maybe : Option A → Type 0
  Maybe none = Unit {0}
  Maybe (some a) = P a

abbrev pub AlignLimits : ℕ → Type 0
AlignLimits a = is_align a ≡ true

module _ (m : ℕ) where
  unfoldable mutual
    -- widths and names in a type
    pub Parts : Ty → Type 0
    Parts Ty.void = Unit {0}
    Parts Ty.ptr = Unit {0}
    Parts (Ty.sizeless s) = Unit {0}
    Parts (Ty.int w) = width_ok w ≡ true
    Parts (Ty.array p n t) = Parts t
    Parts (Ty.named_struct x) = x < m
    Parts (Ty.struct p ts) = PartsOf ts

    pub PartsOf : Tys → Type 0
    PartsOf Tys.nil = Unit {0}
    PartsOf (Tys.cons t ts) = Parts t × PartsOf ts

  -- a type within so many levels
  pub record TyTo (levels : ℕ) (t : Ty) : Type 0 where
    pub deep : depth t ≤ levels
    pub parts : Parts t

  abbrev pub TyLimits : Ty → Type 0
  TyLimits t = TyTo 64 t

  abbrev pub ValueLimits : Value → Type 0
  ValueLimits (Value.local x) = x < m
  ValueLimits (Value.global x) = x < m
  ValueLimits (Value.int c) = Unit {0}
  ValueLimits (Value.zero z) = Unit {0}
  ValueLimits Value.other = Unit {0}

  abbrev pub NameLimits : ℕ → Type 0
  NameLimits x = x < m

  abbrev pub TypedLimits : TypedVal → Type 0
  TypedLimits v = TyLimits v.ty × ValueLimits v.val

  abbrev pub IndexLimits : TypedVal → Type 0
  IndexLimits i = TypedLimits i × (index_fits i.val ≡ true)

  abbrev pub IncomingLimits : Incoming → Type 0
  IncomingLimits i = ValueLimits i.val × (i.label < m)

  abbrev pub CaseLimits : Case → Type 0
  CaseLimits c = c.label < m

  abbrev pub ParamLimits : Param → Type 0
  ParamLimits p = Maybe NameLimits p.name × TyLimits p.ty

  abbrev pub ItemLimits : (i : Item) → ItemMeaning i → Type 0
  ItemLimits Item.type = TyLimits
  ItemLimits Item.value = ValueLimits
  ItemLimits Item.block = NameLimits
  ItemLimits Item.index = λ i. i < 2 ^ 32
  ItemLimits Item.align = AlignLimits
  ItemLimits Item.typed = TypedLimits
  ItemLimits Item.gep_index = IndexLimits
  ItemLimits Item.incoming = IncomingLimits
  ItemLimits Item.case = CaseLimits
  ItemLimits Item.param = ParamLimits

  abbrev pub FieldLimits : (f : Field) → Meaning f → Type 0
  FieldLimits (Field.plain i) = ItemLimits i
  FieldLimits (Field.optional i) = Maybe (ItemLimits i)
  FieldLimits (Field.list i) = Each (ItemLimits i)
  FieldLimits (Field.up_to n i) = λ xs. (length xs ≤ n) × Each (ItemLimits i) xs

  abbrev pub FieldsLimits : (fs : List Field) → Meanings fs → Type 0
  FieldsLimits [] p = Unit {0}
  FieldsLimits (f ∷ fs) p = FieldLimits f p.0 × FieldsLimits fs p.1

  abbrev pub InstLimits : Inst → Type 0
  InstLimits i = Maybe NameLimits i.dest × FieldsLimits (inst_fields (inst_tag_of i.kind)) (inst_args i.kind)

  abbrev pub TermLimits : Terminator → Type 0
  TermLimits t = FieldsLimits (term_fields (term_tag_of t)) (term_args t)

  abbrev pub BlockLimits : BasicBlock → Type 0
  BlockLimits b = (b.label < m) × (Each InstLimits b.insts × TermLimits b.term)

  abbrev pub FunctionLimits : Function → Type 0
  FunctionLimits f = (f.name < m) × (TyLimits f.ret_ty × (Each ParamLimits f.params × Each BlockLimits f.blocks))

  abbrev pub BodyLimits : Option StructBody → Type 0
  BodyLimits = Maybe (λ b. TyLimits (Ty.struct b.packed b.fields))

  abbrev pub StructLimits : StructType → Type 0
  StructLimits s = (s.name < m) × BodyLimits s.body

  -- document 02, card 1: "one or more"
  abbrev pub FunctionsLimits : List Function → Type 0
  FunctionsLimits fs = (1 ≤ length fs) × Each FunctionLimits fs

  pub record Limits (b : Book) : Type 0 where
    pub marks : Each (λ k. mark_name k < m) b.marks
    pub structs : Each StructLimits b.structs
    pub functions : FunctionsLimits b.functions
    pub once : once_each b ≡ true

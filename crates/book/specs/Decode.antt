-- "The book": what the entries stand for. m is the number of names.
use Rattle.std.specs.Prelude.{ℕ, zero, suc, ◌-◌, ◌^◌, Bool, true, false, ◌&&◌, ◌||◌, not, List, [], ◌∷◌, map, length, eqb, leb, ltb}
use Rattle.std.proofs.Math.Option.{Option, none, some}
use Rattle.numbers.specs.Width.{width_ok}
use Rattle.numbers.specs.Align.{is_align}
use Rattle.book.specs.Entry.{Entry}
use Rattle.book.specs.Ast.{Ty, Tys, Value, TypedVal, Incoming, Case, Inst, Terminator, BasicBlock, Param, Function, StructBody, StructType, Mark, Book}
use Rattle.book.specs.Rule.{when, pick, unmentioned}
use Rattle.book.specs.Read.{Read, got, bad, Reader, and_then, behind, taking, choose, one, filtered, optional, both, mapped, until, word, list_of, many}
use Rattle.book.specs.Kinds.{TyTag, ValTag, ty_tag, val_tag, inst_tag, term_tag}
use Rattle.book.specs.Fields.{Item, Field, ItemMeaning, Meaning, Meanings, inst_fields, term_fields, inst_of, term_of}

-- ---- types
unfoldable pub tys : List Ty → Tys
tys [] = Tys.nil
tys (t ∷ ts) = Tys.cons t (tys ts)

-- "the u32 index"
unfoldable pub index : Reader ℕ
index = word 22 (λ w. when (ltb w (2 ^ 32)) w)

-- "A stated align is a power of two up to 4,096"
unfoldable pub align : Reader ℕ
align = word 22 (λ w. when (is_align w) w)

-- "integer indices lie in −2^31 to 2^31 − 1"
unfoldable pub index_fits : Value → Bool
index_fits (Value.int c) = ltb c (2 ^ 31) || leb (2 ^ 64 - 2 ^ 31) c
index_fits (Value.local x) = true
index_fits (Value.global x) = true
index_fits (Value.zero z) = true
index_fits Value.other = true

module _ (m : ℕ) where
  -- a name of the book
  abbrev pub name : ℕ → Option ℕ
  name w = when (ltb w m) w

  -- name + 1, or 0
  abbrev pub maybe_name : ℕ → Option (Option ℕ)
  maybe_name w = pick (eqb w 0) (some none) (when (leb w m) (some (w - 1)))

  -- a type by its tag and word, its parts by `part`
  unfoldable pub type_as : Reader Ty → ℕ → Option TyTag → Reader Ty
  type_as part w none es = bad
  type_as part w (some TyTag.void) es = taking 0 (when (eqb w 0) Ty.void)
  type_as part w (some TyTag.int) es = taking 0 (when (width_ok w) (Ty.int w))
  type_as part w (some TyTag.ptr) es = taking 0 (when (eqb w 0) Ty.ptr)
  type_as part w (some (TyTag.array p)) es = and_then (part es) (λ t n. got (Ty.array p w t) n)
  type_as part w (some TyTag.named) es = taking 0 (when (ltb w m) (Ty.named_struct w))
  type_as part w (some (TyTag.struct p)) es = choose (eqb w 0) (and_then (many part es) (λ ts n. got (Ty.struct p (tys ts)) n)) bad
  type_as part w (some (TyTag.sizeless s)) es = taking 0 (when (eqb w 0) (Ty.sizeless s))

  -- "A type is read from its first entry, parts within parts, to 64 levels"
  unfoldable pub type_to : ℕ → Reader Ty
  type_to zero es = bad
  type_to (suc l) [] = bad
  type_to (suc l) (e ∷ es) = behind 1 (type_as (type_to l) e.word (ty_tag e.kind) es)

  abbrev pub type : Reader Ty
  type = type_to 64

  -- ---- values
  unfoldable pub value_as : ℕ → Option ValTag → Option Value
  value_as w none = none
  value_as w (some ValTag.local) = when (ltb w m) (Value.local w)
  value_as w (some ValTag.global) = when (ltb w m) (Value.global w)
  value_as w (some ValTag.int) = some (Value.int w)
  value_as w (some (ValTag.zero z)) = when (eqb w 0) (Value.zero z)
  value_as w (some ValTag.other) = when (eqb w 0) Value.other

  unfoldable pub value : Reader Value
  value = one (λ e. value_as e.word (val_tag e.kind))

  unfoldable pub typed_val : Reader TypedVal
  typed_val = mapped (λ p. record { ty = p.0; val = p.1 }) (both type value)

  -- ---- fields
  unfoldable pub block : Reader ℕ
  block = word 23 name

  unfoldable pub gep_index : Reader TypedVal
  gep_index = filtered (λ i. index_fits i.val) typed_val

  unfoldable pub incoming : Reader Incoming
  incoming = mapped (λ p. record { val = p.0; label = p.1 }) (both value block)

  -- "A switch case is 32, 23"
  unfoldable pub case : Reader Case
  case = mapped (λ p. record { value = p.0; label = p.1 }) (both (word 32 some) block)

  unfoldable pub param : Reader Param
  param = mapped (λ p. record { ty = p.1; name = p.0 }) (both (word 6 maybe_name) type)

  unfoldable pub item : (i : Item) → Reader (ItemMeaning i)
  item Item.type = type
  item Item.value = value
  item Item.block = block
  item Item.index = index
  item Item.align = align
  item Item.typed = typed_val
  item Item.gep_index = gep_index
  item Item.incoming = incoming
  item Item.case = case
  item Item.param = param

  unfoldable pub field : (f : Field) → Reader (Meaning f)
  field (Field.plain i) = item i
  field (Field.optional i) = optional (item i)
  field (Field.list i) = many (item i)
  field (Field.up_to n i) = list_of n (item i)

  unfoldable pub fields : (fs : List Field) → Reader (Meanings fs)
  fields [] es = got tt 0
  fields (f ∷ fs) es = both (field f) (fields fs) es

  -- ---- instructions and terminators: an entry, its tag by its kind, something by its word, then the tag's fields
  module _ {Tag D : Type 0} (fields_of : Tag → List Field) where
    unfoldable pub tagged_as : Option D → Option Tag → Reader (D × ((t : Tag) × Meanings (fields_of t)))
    tagged_as d none es = bad
    tagged_as none (some t) es = bad
    tagged_as (some d) (some t) es = mapped (λ p. (d, (t, p))) (fields (fields_of t)) es

    unfoldable pub tagged : (ℕ → Option Tag) → (ℕ → Option D) → Reader (D × ((t : Tag) × Meanings (fields_of t)))
    tagged tag rule [] = bad
    tagged tag rule (e ∷ es) = behind 1 (tagged_as (rule e.word) (tag e.kind) es)

  unfoldable pub inst : Reader Inst
  inst = mapped (λ x. record { dest = x.0; kind = inst_of x.1.0 x.1.1 }) (tagged inst_fields inst_tag maybe_name)

  unfoldable pub term : Reader Terminator
  term = mapped (λ x. term_of x.1.0 x.1.1) (tagged term_fields term_tag unmentioned)

  -- "a block ends with its one terminator"
  unfoldable pub body : Reader (List Inst × Terminator)
  body es = until (leb 90) inst term (length es) es

  unfoldable pub basic_block : Reader BasicBlock
  basic_block = mapped (λ p. record { label = p.0; insts = p.1.0; term = p.1.1 }) (both (word 7 name) body)

  unfoldable pub function : Reader Function
  function =
      mapped (λ p. record { name = p.0; ret_ty = p.1.0; params = p.1.1.0; blocks = p.1.1.1 })
      (both (word 5 name) (both type (both (many (item Item.param)) (many basic_block))))

  -- ---- the book
  unfoldable pub mark_as : ℕ → ℕ → Option Mark
  mark_as k w = pick (eqb k 1) (when (ltb w m) (Mark.defined w)) (pick (eqb k 2) (when (ltb w m) (Mark.reserved w)) none)

  unfoldable pub mark : Reader Mark
  mark = one (λ e. mark_as e.kind e.word)

  -- a struct's body: 4 is opaque, else a struct type
  unfoldable pub body_of : Ty → ℕ → Read (Option StructBody)
  body_of (Ty.struct p ts) n = got (some (record { packed = p; fields = ts })) n
  body_of Ty.void n = bad
  body_of Ty.ptr n = bad
  body_of (Ty.sizeless s) n = bad
  body_of (Ty.int w) n = bad
  body_of (Ty.array p l t) n = bad
  body_of (Ty.named_struct x) n = bad

  unfoldable pub struct_body : Reader (Option StructBody)
  struct_body [] = bad
  struct_body (e ∷ es) = choose (eqb e.kind 4) (taking 1 (when (eqb e.word 0) none)) (and_then (type (e ∷ es)) body_of)

  unfoldable pub struct_type : Reader StructType
  struct_type = mapped (λ p. record { name = p.0; body = p.1 }) (both (word 3 name) struct_body)

  -- document 02, card 1: "one or more, .. closed by kind 0"
  unfoldable pub functions : Reader (List Function)
  functions = filtered (λ fs. leb 1 (length fs)) (many function)

  -- marks, then structs, then the functions
  unfoldable pub structs_and_functions : Reader (List StructType × List Function)
  structs_and_functions es = until (leb 4) struct_type functions (length es) es

  unfoldable pub parts : Reader (List Mark × (List StructType × List Function))
  parts es = until (leb 3) mark structs_and_functions (length es) es

-- no number twice
unfoldable pub member : ℕ → List ℕ → Bool
member x [] = false
member x (y ∷ ys) = eqb x y || member x ys

unfoldable pub distinct : List ℕ → Bool
distinct [] = true
distinct (x ∷ xs) = not (member x xs) && distinct xs

abbrev pub mark_name : Mark → ℕ
mark_name (Mark.defined x) = x
mark_name (Mark.reserved x) = x

abbrev pub function_names : Book → List ℕ
function_names b = map (λ f. f.name) b.functions

abbrev pub book_of : List Mark × (List StructType × List Function) → Book
book_of p = record { marks = p.0; structs = p.1.0; functions = p.1.1 }

-- "Each name has at most one such mark", "each name once" of structs and, by card 1, of functions
unfoldable pub once_each : Book → Bool
once_each b = distinct (map mark_name b.marks) && (distinct (map (λ s. s.name) b.structs) && distinct (function_names b))

-- nothing after the entry that closes the functions
abbrev pub whole : List Entry → Read Book → Option Book
whole es (got b n) = when (eqb n (length es) && once_each b) b
whole es bad = none

unfoldable pub decode : ℕ → List Entry → Option Book
decode m es = whole es (mapped book_of (parts m) es)

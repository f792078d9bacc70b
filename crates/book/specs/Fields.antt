-- "Fields follow in ast.rs order, without op, pred, inbounds, fn_ty": what follows the entry of an instruction or terminator.
use Rattle.std.specs.Prelude.{ℕ, List, [], ◌∷◌}
use Rattle.std.proofs.Math.Option.{Option}
use Rattle.book.specs.Ast.{Ty, Value, TypedVal, Incoming, Case, Param, InstKind, Terminator}
use Rattle.book.specs.Kinds.{InstTag, TermTag}

-- what may stand in a field or a list; a stated align or an index is a number
pub data Item : Type 0 where
  type value block index align typed gep_index incoming case param : Item

-- a field is an item, an item or None, or a list of items, of so many at most
pub data Field : Type 0 where
  plain optional list : Item → Field
  up_to : ℕ → Item → Field

abbrev pub ItemMeaning : Item → Type 0
ItemMeaning type = Ty
ItemMeaning value = Value
ItemMeaning block = ℕ
ItemMeaning index = ℕ
ItemMeaning align = ℕ
ItemMeaning typed = TypedVal
ItemMeaning gep_index = TypedVal
ItemMeaning incoming = Incoming
ItemMeaning case = Case
ItemMeaning param = Param

-- what a field holds
abbrev pub Meaning : Field → Type 0
Meaning (plain i) = ItemMeaning i
Meaning (optional i) = Option (ItemMeaning i)
Meaning (list i) = List (ItemMeaning i)
Meaning (up_to n i) = List (ItemMeaning i)

abbrev pub Meanings : List Field → Type 0
Meanings [] = Unit {0}
Meanings (f ∷ fs) = Meaning f × Meanings fs

abbrev pub inst_fields : InstTag → List Field
inst_fields (InstTag.bin op) = plain type ∷ plain value ∷ plain value ∷ []
inst_fields (InstTag.conv op) = plain type ∷ plain value ∷ plain type ∷ []
inst_fields (InstTag.icmp p) = plain type ∷ plain value ∷ plain value ∷ []
inst_fields InstTag.select = plain value ∷ plain type ∷ plain value ∷ plain value ∷ []
inst_fields InstTag.load = plain type ∷ plain value ∷ optional align ∷ []
inst_fields InstTag.store = plain type ∷ plain value ∷ plain value ∷ optional align ∷ []
inst_fields InstTag.alloca = plain type ∷ optional typed ∷ optional align ∷ []
inst_fields InstTag.get_element_ptr = plain type ∷ plain value ∷ up_to 32 gep_index ∷ []
inst_fields InstTag.phi = plain type ∷ list incoming ∷ []
inst_fields InstTag.call = plain type ∷ plain value ∷ list typed ∷ []
inst_fields InstTag.freeze = plain type ∷ plain value ∷ []
inst_fields InstTag.atomic_load = plain type ∷ plain value ∷ []
inst_fields InstTag.atomic_store = plain type ∷ plain value ∷ plain value ∷ []
inst_fields InstTag.cmpxchg = plain type ∷ plain value ∷ plain value ∷ plain value ∷ []
inst_fields InstTag.extract_value = plain value ∷ plain index ∷ []
inst_fields InstTag.fence = []

abbrev pub term_fields : TermTag → List Field
term_fields TermTag.ret = optional typed ∷ []
term_fields TermTag.br = optional value ∷ plain block ∷ optional block ∷ []
term_fields TermTag.switch = plain type ∷ plain value ∷ plain block ∷ list case ∷ []
term_fields TermTag.unreachable = []

-- the instruction of a tag and its fields
abbrev pub inst_of : (t : InstTag) → Meanings (inst_fields t) → InstKind
inst_of (InstTag.bin op) p = InstKind.bin op p.0 p.1.0 p.1.1.0
inst_of (InstTag.conv op) p = InstKind.conv op p.0 p.1.0 p.1.1.0
inst_of (InstTag.icmp c) p = InstKind.icmp c p.0 p.1.0 p.1.1.0
inst_of InstTag.select p = InstKind.select p.0 p.1.0 p.1.1.0 p.1.1.1.0
inst_of InstTag.load p = InstKind.load p.0 p.1.0 p.1.1.0
inst_of InstTag.store p = InstKind.store p.0 p.1.0 p.1.1.0 p.1.1.1.0
inst_of InstTag.alloca p = InstKind.alloca p.0 p.1.0 p.1.1.0
inst_of InstTag.get_element_ptr p = InstKind.get_element_ptr p.0 p.1.0 p.1.1.0
inst_of InstTag.phi p = InstKind.phi p.0 p.1.0
inst_of InstTag.call p = InstKind.call p.0 p.1.0 p.1.1.0
inst_of InstTag.freeze p = InstKind.freeze p.0 p.1.0
inst_of InstTag.atomic_load p = InstKind.atomic_load p.0 p.1.0
inst_of InstTag.atomic_store p = InstKind.atomic_store p.0 p.1.0 p.1.1.0
inst_of InstTag.cmpxchg p = InstKind.cmpxchg p.0 p.1.0 p.1.1.0 p.1.1.1.0
inst_of InstTag.extract_value p = InstKind.extract_value p.0 p.1.0
inst_of InstTag.fence p = InstKind.fence

abbrev pub term_of : (t : TermTag) → Meanings (term_fields t) → Terminator
term_of TermTag.ret p = Terminator.ret p.0
term_of TermTag.br p = Terminator.br p.0 p.1.0 p.1.1.0
term_of TermTag.switch p = Terminator.switch p.0 p.1.0 p.1.1.0 p.1.1.1.0
term_of TermTag.unreachable p = Terminator.unreachable

-- and the other way round
abbrev pub inst_tag_of : InstKind → InstTag
inst_tag_of (InstKind.bin op t l r) = InstTag.bin op
inst_tag_of (InstKind.conv op t v u) = InstTag.conv op
inst_tag_of (InstKind.icmp p t l r) = InstTag.icmp p
inst_tag_of (InstKind.select c t l r) = InstTag.select
inst_tag_of (InstKind.load t p a) = InstTag.load
inst_tag_of (InstKind.store t v p a) = InstTag.store
inst_tag_of (InstKind.alloca t n a) = InstTag.alloca
inst_tag_of (InstKind.get_element_ptr t p is) = InstTag.get_element_ptr
inst_tag_of (InstKind.phi t vs) = InstTag.phi
inst_tag_of (InstKind.call t f vs) = InstTag.call
inst_tag_of (InstKind.freeze t v) = InstTag.freeze
inst_tag_of (InstKind.atomic_load t p) = InstTag.atomic_load
inst_tag_of (InstKind.atomic_store t v p) = InstTag.atomic_store
inst_tag_of (InstKind.cmpxchg t p c v) = InstTag.cmpxchg
inst_tag_of (InstKind.extract_value v i) = InstTag.extract_value
inst_tag_of InstKind.fence = InstTag.fence

abbrev pub inst_args : (k : InstKind) → Meanings (inst_fields (inst_tag_of k))
inst_args (InstKind.bin op t l r) = (t, (l, (r, tt)))
inst_args (InstKind.conv op t v u) = (t, (v, (u, tt)))
inst_args (InstKind.icmp p t l r) = (t, (l, (r, tt)))
inst_args (InstKind.select c t l r) = (c, (t, (l, (r, tt))))
inst_args (InstKind.load t p a) = (t, (p, (a, tt)))
inst_args (InstKind.store t v p a) = (t, (v, (p, (a, tt))))
inst_args (InstKind.alloca t n a) = (t, (n, (a, tt)))
inst_args (InstKind.get_element_ptr t p is) = (t, (p, (is, tt)))
inst_args (InstKind.phi t vs) = (t, (vs, tt))
inst_args (InstKind.call t f vs) = (t, (f, (vs, tt)))
inst_args (InstKind.freeze t v) = (t, (v, tt))
inst_args (InstKind.atomic_load t p) = (t, (p, tt))
inst_args (InstKind.atomic_store t v p) = (t, (v, (p, tt)))
inst_args (InstKind.cmpxchg t p c v) = (t, (p, (c, (v, tt))))
inst_args (InstKind.extract_value v i) = (v, (i, tt))
inst_args InstKind.fence = tt

abbrev pub term_tag_of : Terminator → TermTag
term_tag_of (Terminator.ret v) = TermTag.ret
term_tag_of (Terminator.br c t f) = TermTag.br
term_tag_of (Terminator.switch t v d cs) = TermTag.switch
term_tag_of Terminator.unreachable = TermTag.unreachable

abbrev pub term_args : (t : Terminator) → Meanings (term_fields (term_tag_of t))
term_args (Terminator.ret v) = (v, tt)
term_args (Terminator.br c t f) = (c, (t, (f, tt)))
term_args (Terminator.switch t v d cs) = (t, (v, (d, (cs, tt))))
term_args Terminator.unreachable = tt

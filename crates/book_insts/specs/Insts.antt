-- The groups of instructions and terminators, and the fields of each.
use Rattle.std.specs.Prelude.{ℕ, zero, suc, ◌/◌, ◌%◌, Bool, true, false, List, [], ◌∷◌, get_or, eqb, leb}
use Rattle.std.proofs.Math.Option.{Option, none, some}
use Rattle.std.specs.Prelude as code
use Rattle.std.specs.Prelude.{map}
use Rattle.book_insts.specs.declared.Field.{Field}
use Rattle.book_insts.specs.declared.Field.TheVariants as field
use Rattle.std.specs.Prelude.{Some, None}
use Rattle.book.specs.Rule.{pick}
use Rattle.book.specs.Kinds.{InstTag, TermTag, inst_tag, term_tag}
use Rattle.book.specs.Ast.{BinOp, ConvOp, ICmpPred}
use Rattle.book.specs.Fields as book
use Rattle.book.specs.Ops.{bin_is, conv_is, icmp_is}
use Rattle.book_insts.specs.declared.InstGroup.{InstGroup}
use Rattle.book_insts.specs.declared.InstGroup.TheVariants as inst
use Rattle.book_insts.specs.declared.TermGroup.{TermGroup}
use Rattle.book_insts.specs.declared.TermGroup.TheVariants as term

abbrev pub inst_group_of : Option InstTag → InstGroup
inst_group_of none = inst.Other
inst_group_of (some (InstTag.bin op)) = inst.Bin (bin_is op)
inst_group_of (some (InstTag.conv op)) = inst.Conv (conv_is op)
inst_group_of (some (InstTag.icmp p)) = inst.ICmp (icmp_is p)
inst_group_of (some InstTag.select) = inst.Select
inst_group_of (some InstTag.load) = inst.Load
inst_group_of (some InstTag.store) = inst.Store
inst_group_of (some InstTag.alloca) = inst.Alloca
inst_group_of (some InstTag.get_element_ptr) = inst.GetElementPtr
inst_group_of (some InstTag.phi) = inst.Phi
inst_group_of (some InstTag.call) = inst.Call
inst_group_of (some InstTag.freeze) = inst.Freeze
inst_group_of (some InstTag.atomic_load) = inst.AtomicLoad
inst_group_of (some InstTag.atomic_store) = inst.AtomicStore
inst_group_of (some InstTag.cmpxchg) = inst.Cmpxchg
inst_group_of (some InstTag.extract_value) = inst.ExtractValue
inst_group_of (some InstTag.fence) = inst.Fence

-- the kinds that are a group of their own; other for the rest
abbrev pub single_of : Option InstTag → InstGroup
single_of none = inst.Other
single_of (some (InstTag.bin op)) = inst.Other
single_of (some (InstTag.conv op)) = inst.Other
single_of (some (InstTag.icmp p)) = inst.Other
single_of (some InstTag.select) = inst.Select
single_of (some InstTag.load) = inst.Load
single_of (some InstTag.store) = inst.Store
single_of (some InstTag.alloca) = inst.Alloca
single_of (some InstTag.get_element_ptr) = inst.GetElementPtr
single_of (some InstTag.phi) = inst.Phi
single_of (some InstTag.call) = inst.Call
single_of (some InstTag.freeze) = inst.Freeze
single_of (some InstTag.atomic_load) = inst.AtomicLoad
single_of (some InstTag.atomic_store) = inst.AtomicStore
single_of (some InstTag.cmpxchg) = inst.Cmpxchg
single_of (some InstTag.extract_value) = inst.ExtractValue
single_of (some InstTag.fence) = inst.Fence

abbrev pub term_group_of : Option TermTag → TermGroup
term_group_of none = term.Other
term_group_of (some TermTag.ret) = term.Ret
term_group_of (some TermTag.br) = term.Br
term_group_of (some TermTag.switch) = term.Switch
term_group_of (some TermTag.unreachable) = term.Unreachable

-- the fields by their numbers, from 0 on; any other number is a type's
unfoldable pub digit_fields : List book.Field
digit_fields =
    book.Field.plain book.Item.type
    ∷ book.Field.plain book.Item.type
    ∷ book.Field.plain book.Item.value
    ∷ book.Field.plain book.Item.block
    ∷ book.Field.plain book.Item.index
    ∷ book.Field.optional book.Item.align
    ∷ book.Field.optional book.Item.typed
    ∷ book.Field.optional book.Item.value
    ∷ book.Field.optional book.Item.block
    ∷ book.Field.up_to 32 book.Item.gep_index
    ∷ book.Field.list book.Item.incoming
    ∷ book.Field.list book.Item.typed
    ∷ book.Field.list book.Item.case
    ∷ []

abbrev pub field_of : ℕ → book.Field
field_of d = get_or digit_fields d (book.Field.plain book.Item.type)

-- the number of a field
abbrev pub digit_of : Field → ℕ
digit_of field.Type = 1
digit_of field.Value = 2
digit_of field.Block = 3
digit_of field.Index = 4
digit_of field.Align = 5
digit_of field.SomeTyped = 6
digit_of field.SomeValue = 7
digit_of field.SomeBlock = 8
digit_of field.GepIndices = 9
digit_of field.Incoming = 10
digit_of field.Arguments = 11
digit_of field.Cases = 12

-- the field that it is
abbrev pub field_by : Field → book.Field
field_by field.Type = book.Field.plain book.Item.type
field_by field.Value = book.Field.plain book.Item.value
field_by field.Block = book.Field.plain book.Item.block
field_by field.Index = book.Field.plain book.Item.index
field_by field.Align = book.Field.optional book.Item.align
field_by field.SomeTyped = book.Field.optional book.Item.typed
field_by field.SomeValue = book.Field.optional book.Item.value
field_by field.SomeBlock = book.Field.optional book.Item.block
field_by field.GepIndices = book.Field.up_to 32 book.Item.gep_index
field_by field.Incoming = book.Field.list book.Item.incoming
field_by field.Arguments = book.Field.list book.Item.typed
field_by field.Cases = book.Field.list book.Item.case

-- the fields that a kind has
abbrev pub shape_fields : code.Option (List Field) → Option (List book.Field)
shape_fields (Some c) = some (map field_by c)
shape_fields None = none

-- the fields of a group are those of its tags
abbrev pub inst_shape : InstGroup → Option (List book.Field)
inst_shape (inst.Bin n) = some (book.inst_fields (InstTag.bin BinOp.add))
inst_shape (inst.Conv n) = some (book.inst_fields (InstTag.conv ConvOp.trunc))
inst_shape (inst.ICmp n) = some (book.inst_fields (InstTag.icmp ICmpPred.eq))
inst_shape inst.Select = some (book.inst_fields InstTag.select)
inst_shape inst.Load = some (book.inst_fields InstTag.load)
inst_shape inst.Store = some (book.inst_fields InstTag.store)
inst_shape inst.Alloca = some (book.inst_fields InstTag.alloca)
inst_shape inst.GetElementPtr = some (book.inst_fields InstTag.get_element_ptr)
inst_shape inst.Phi = some (book.inst_fields InstTag.phi)
inst_shape inst.Call = some (book.inst_fields InstTag.call)
inst_shape inst.Freeze = some (book.inst_fields InstTag.freeze)
inst_shape inst.AtomicLoad = some (book.inst_fields InstTag.atomic_load)
inst_shape inst.AtomicStore = some (book.inst_fields InstTag.atomic_store)
inst_shape inst.Cmpxchg = some (book.inst_fields InstTag.cmpxchg)
inst_shape inst.ExtractValue = some (book.inst_fields InstTag.extract_value)
inst_shape inst.Fence = some (book.inst_fields InstTag.fence)
inst_shape inst.Other = none

abbrev pub term_shape : TermGroup → Option (List book.Field)
term_shape term.Ret = some (book.term_fields TermTag.ret)
term_shape term.Br = some (book.term_fields TermTag.br)
term_shape term.Switch = some (book.term_fields TermTag.switch)
term_shape term.Unreachable = some (book.term_fields TermTag.unreachable)
term_shape term.Other = none

-- the fields of a tag
abbrev pub tag_fields : {Tag : Type 0} → (Tag → List book.Field) → Option Tag → Option (List book.Field)
tag_fields fields_of none = none
tag_fields fields_of (some t) = some (fields_of t)

-- the fields behind an entry in a block: a terminator's from kind 90 on, whose word is 0, else an instruction's, whose word is a name + 1 or 0
abbrev pub fields_behind : ℕ → ℕ → ℕ → Option (List book.Field)
fields_behind m k w = pick (leb 90 k) (pick (eqb w 0) (tag_fields book.term_fields (term_tag k)) none) (pick (leb w m) (tag_fields book.inst_fields (inst_tag k)) none)

-- "The book": the kinds of entries. One table for each group; a kind is looked up in it.
use Rattle.std.specs.Prelude.{ℕ, Bool, true, false, List, [], ◌∷◌}
use Rattle.std.proofs.Math.Option.{Option}
use Rattle.book.specs.Rule.{find}
use Rattle.book.specs.Ast.{Sizeless, Zero, BinOp, ConvOp, ICmpPred}

-- 10 to 20: what the entry of a type begins
pub data TyTag : Type 0 where
  void int ptr : TyTag
  array : (packed : Bool) → TyTag
  named : TyTag
  struct : (packed : Bool) → TyTag
  sizeless : Sizeless → TyTag

abbrev pub ty_kind : TyTag → ℕ
ty_kind void = 10
ty_kind int = 11
ty_kind ptr = 12
ty_kind (array false) = 13
ty_kind (array true) = 14
ty_kind named = 15
ty_kind (struct false) = 16
ty_kind (struct true) = 17
ty_kind (sizeless Sizeless.func) = 18
ty_kind (sizeless Sizeless.label) = 19
ty_kind (sizeless Sizeless.metadata) = 20

unfoldable pub ty_tags : List TyTag
ty_tags = void ∷ int ∷ ptr ∷ array false ∷ array true ∷ named ∷ struct false ∷ struct true ∷ sizeless Sizeless.func ∷ sizeless Sizeless.label ∷ sizeless Sizeless.metadata ∷ []

-- 30 to 37: values
pub data ValTag : Type 0 where
  local global int : ValTag
  zero : Zero → ValTag
  other : ValTag

abbrev pub val_kind : ValTag → ℕ
val_kind local = 30
val_kind global = 31
val_kind int = 32
val_kind (zero Zero.null) = 33
val_kind (zero Zero.undef) = 34
val_kind (zero Zero.poison) = 35
val_kind (zero Zero.zero_init) = 36
val_kind other = 37

unfoldable pub val_tags : List ValTag
val_tags = local ∷ global ∷ int ∷ zero Zero.null ∷ zero Zero.undef ∷ zero Zero.poison ∷ zero Zero.zero_init ∷ other ∷ []

-- 40 to 82: instructions
pub data InstTag : Type 0 where
  bin : BinOp → InstTag
  conv : ConvOp → InstTag
  icmp : ICmpPred → InstTag
  select load store alloca get_element_ptr phi call freeze atomic_load atomic_store cmpxchg extract_value fence : InstTag

abbrev pub inst_kind : InstTag → ℕ
inst_kind (bin BinOp.add) = 40
inst_kind (bin BinOp.sub) = 41
inst_kind (bin BinOp.mul) = 42
inst_kind (bin BinOp.udiv) = 43
inst_kind (bin BinOp.sdiv) = 44
inst_kind (bin BinOp.urem) = 45
inst_kind (bin BinOp.srem) = 46
inst_kind (bin BinOp.and) = 47
inst_kind (bin BinOp.or) = 48
inst_kind (bin BinOp.xor) = 49
inst_kind (bin BinOp.shl) = 50
inst_kind (bin BinOp.lshr) = 51
inst_kind (bin BinOp.ashr) = 52
inst_kind (conv ConvOp.trunc) = 53
inst_kind (conv ConvOp.zext) = 54
inst_kind (conv ConvOp.sext) = 55
inst_kind (conv ConvOp.ptr_to_int) = 56
inst_kind (conv ConvOp.int_to_ptr) = 57
inst_kind (conv ConvOp.bit_cast) = 58
inst_kind (icmp ICmpPred.eq) = 60
inst_kind (icmp ICmpPred.ne) = 61
inst_kind (icmp ICmpPred.ugt) = 62
inst_kind (icmp ICmpPred.uge) = 63
inst_kind (icmp ICmpPred.ult) = 64
inst_kind (icmp ICmpPred.ule) = 65
inst_kind (icmp ICmpPred.sgt) = 66
inst_kind (icmp ICmpPred.sge) = 67
inst_kind (icmp ICmpPred.slt) = 68
inst_kind (icmp ICmpPred.sle) = 69
inst_kind select = 70
inst_kind load = 71
inst_kind store = 72
inst_kind alloca = 73
inst_kind get_element_ptr = 74
inst_kind phi = 75
inst_kind call = 76
inst_kind freeze = 77
inst_kind atomic_load = 78
inst_kind atomic_store = 79
inst_kind cmpxchg = 80
inst_kind extract_value = 81
inst_kind fence = 82

unfoldable pub inst_tags : List InstTag
inst_tags =
    bin BinOp.add ∷ bin BinOp.sub ∷ bin BinOp.mul ∷ bin BinOp.udiv ∷ bin BinOp.sdiv ∷ bin BinOp.urem ∷ bin BinOp.srem
    ∷ bin BinOp.and ∷ bin BinOp.or ∷ bin BinOp.xor ∷ bin BinOp.shl ∷ bin BinOp.lshr ∷ bin BinOp.ashr
    ∷ conv ConvOp.trunc ∷ conv ConvOp.zext ∷ conv ConvOp.sext ∷ conv ConvOp.ptr_to_int ∷ conv ConvOp.int_to_ptr ∷ conv ConvOp.bit_cast
    ∷ icmp ICmpPred.eq ∷ icmp ICmpPred.ne ∷ icmp ICmpPred.ugt ∷ icmp ICmpPred.uge ∷ icmp ICmpPred.ult ∷ icmp ICmpPred.ule
    ∷ icmp ICmpPred.sgt ∷ icmp ICmpPred.sge ∷ icmp ICmpPred.slt ∷ icmp ICmpPred.sle
    ∷ select ∷ load ∷ store ∷ alloca ∷ get_element_ptr ∷ phi ∷ call ∷ freeze ∷ atomic_load ∷ atomic_store ∷ cmpxchg ∷ extract_value ∷ fence ∷ []

-- 90 to 93: terminators
pub data TermTag : Type 0 where
  ret br switch unreachable : TermTag

abbrev pub term_kind : TermTag → ℕ
term_kind ret = 90
term_kind br = 91
term_kind switch = 92
term_kind unreachable = 93

unfoldable pub term_tags : List TermTag
term_tags = ret ∷ br ∷ switch ∷ unreachable ∷ []

unfoldable pub ty_tag : ℕ → Option TyTag
ty_tag k = find ty_kind k ty_tags

unfoldable pub val_tag : ℕ → Option ValTag
val_tag k = find val_kind k val_tags

unfoldable pub inst_tag : ℕ → Option InstTag
inst_tag k = find inst_kind k inst_tags

unfoldable pub term_tag : ℕ → Option TermTag
term_tag k = find term_kind k term_tags

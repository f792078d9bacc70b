-- Fields, instructions and terminators: their kinds in the tables, and what an encoding begins with. That decoder and encoder agree
-- stands in proofs/AgreeInst.
use Prim.Native.Nat.{ℕ, ◌≤◌}
use Rattle.std.specs.Prelude.{◌≡◌, Bool, false}
use Rattle.std.proofs.Math.Path.{refl}
use Rattle.std.proofs.Common.{sym, arith, ne_eqb}
use Rattle.std.proofs.Math.Option.{some}
use mathlib.Core.List.{List, ◌++◌, append_assoc}
use Rattle.book.specs.Entry.{Entry}
use Rattle.book.specs.Ast.{TypedVal, BinOp, ConvOp, ICmpPred}
use Rattle.book.specs.Rule.{find}
use Rattle.book.specs.Kinds.{InstTag, TermTag, inst_kind, term_kind, inst_tags, term_tags, inst_tag, term_tag}
use Rattle.book.specs.Fields.{Item, ItemMeaning}
use Rattle.book.specs.Read.{stops, is_closing}
use Rattle.book.specs.Encode.{enc_ty, enc_value, enc_typed, enc_block, enc_param, enc_item}
use Rattle.book.specs.Agree.{is_absent}
use Rattle.book.specs.AgreeTy.{find_is, ty_head, val_head}

typed_head : (stop : ℕ → Bool) → ((k : ℕ) → 10 ≤ k → k ≤ 20 → stop k ≡ false) → (v : TypedVal) (rest : List Entry) → stops stop (enc_typed v ++ rest) ≡ false
typed_head stop h v rest = rw (append_assoc (enc_ty v.ty) (enc_value v.val) rest) (ty_head stop h v.ty (enc_value v.val ++ rest))

-- an item begins with a kind that is neither 0 nor 21, so neither with a closing entry nor with an absent one
pub item_head : (stop : ℕ → Bool) → ((k : ℕ) → 1 ≤ k → (k ≡ 21 → ⊥) → stop k ≡ false) → (i : Item) (a : ItemMeaning i) (rest : List Entry) → stops stop (enc_item i a ++ rest) ≡ false
unfolding stops enc_param
item_head stop h Item.type t rest = ty_head stop (λ k p q. h k (omega arith) (λ z. omega arith)) t rest
item_head stop h Item.value v rest = val_head stop (λ k p q. h k (omega arith) (λ z. omega arith)) v rest
item_head stop h Item.block x rest = h 23 (omega arith) (λ z. omega arith)
item_head stop h Item.index x rest = h 22 (omega arith) (λ z. omega arith)
item_head stop h Item.align x rest = h 22 (omega arith) (λ z. omega arith)
item_head stop h Item.typed v rest = typed_head stop (λ k p q. h k (omega arith) (λ z. omega arith)) v rest
item_head stop h Item.gep_index v rest = typed_head stop (λ k p q. h k (omega arith) (λ z. omega arith)) v rest
item_head stop h Item.incoming i rest = val_head stop (λ k p q. h k (omega arith) (λ z. omega arith)) i.val (enc_block i.label ++ rest)
item_head stop h Item.case c rest = h 32 (omega arith) (λ z. omega arith)
item_head stop h Item.param p rest = h 6 (omega arith) (λ z. omega arith)

pub not_closing : (k : ℕ) → 1 ≤ k → (k ≡ 21 → ⊥) → is_closing k ≡ false
not_closing k p q = ne_eqb k 0 (λ z. omega arith)

pub not_absent : (k : ℕ) → 1 ≤ k → (k ≡ 21 → ⊥) → is_absent k ≡ false
not_absent k p q = ne_eqb k 21 q

-- ---- instructions
pub inst_is : (k : ℕ) (t : InstTag) → inst_tag k ≡ some t → k ≡ inst_kind t
unfolding inst_tag
inst_is k t e = sym (find_is inst_kind k inst_tags t e)

bin_found : (op : BinOp) → inst_tag (inst_kind (InstTag.bin op)) ≡ some (InstTag.bin op)
unfolding inst_tag inst_tags find
bin_found BinOp.add = refl
bin_found BinOp.sub = refl
bin_found BinOp.mul = refl
bin_found BinOp.udiv = refl
bin_found BinOp.sdiv = refl
bin_found BinOp.urem = refl
bin_found BinOp.srem = refl
bin_found BinOp.and = refl
bin_found BinOp.or = refl
bin_found BinOp.xor = refl
bin_found BinOp.shl = refl
bin_found BinOp.lshr = refl
bin_found BinOp.ashr = refl

conv_found : (op : ConvOp) → inst_tag (inst_kind (InstTag.conv op)) ≡ some (InstTag.conv op)
unfolding inst_tag inst_tags find
conv_found ConvOp.trunc = refl
conv_found ConvOp.zext = refl
conv_found ConvOp.sext = refl
conv_found ConvOp.ptr_to_int = refl
conv_found ConvOp.int_to_ptr = refl
conv_found ConvOp.bit_cast = refl

icmp_found : (p : ICmpPred) → inst_tag (inst_kind (InstTag.icmp p)) ≡ some (InstTag.icmp p)
unfolding inst_tag inst_tags find
icmp_found ICmpPred.eq = refl
icmp_found ICmpPred.ne = refl
icmp_found ICmpPred.ugt = refl
icmp_found ICmpPred.uge = refl
icmp_found ICmpPred.ult = refl
icmp_found ICmpPred.ule = refl
icmp_found ICmpPred.sgt = refl
icmp_found ICmpPred.sge = refl
icmp_found ICmpPred.slt = refl
icmp_found ICmpPred.sle = refl

pub inst_found : (t : InstTag) → inst_tag (inst_kind t) ≡ some t
unfolding inst_tag inst_tags find
inst_found (InstTag.bin op) = bin_found op
inst_found (InstTag.conv op) = conv_found op
inst_found (InstTag.icmp p) = icmp_found p
inst_found InstTag.select = refl
inst_found InstTag.load = refl
inst_found InstTag.store = refl
inst_found InstTag.alloca = refl
inst_found InstTag.get_element_ptr = refl
inst_found InstTag.phi = refl
inst_found InstTag.call = refl
inst_found InstTag.freeze = refl
inst_found InstTag.atomic_load = refl
inst_found InstTag.atomic_store = refl
inst_found InstTag.cmpxchg = refl
inst_found InstTag.extract_value = refl
inst_found InstTag.fence = refl

-- ---- terminators
pub term_is : (k : ℕ) (t : TermTag) → term_tag k ≡ some t → k ≡ term_kind t
unfolding term_tag
term_is k t e = sym (find_is term_kind k term_tags t e)

pub term_found : (t : TermTag) → term_tag (term_kind t) ≡ some t
unfolding term_tag term_tags find
term_found TermTag.ret = refl
term_found TermTag.br = refl
term_found TermTag.switch = refl
term_found TermTag.unreachable = refl

-- An instruction's lines but for the result's slot, where `gen_inst` stores one behind them.
use Rattle.std.specs.Prelude.{ℕ, ◌<◌, ◌≤◌, ◌≡◌, refl, Bool, true, false, List}
use Rattle.std.proofs.Common.{sym, ap, subst, ◌∙◌, arith}
use Rattle.std.proofs.Math.Option.{Option, some}
use Rattle.book.specs.Ast.{BinOp, ConvOp, ICmpPred, InstKind}
use Rattle.book.specs.Encode.{dest_word}
use Rattle.book.specs.Fields.{inst_tag_of}
use Rattle.book.specs.Kinds.{InstTag, inst_kind}
use Rattle.book_insts.specs.Insts.{inst_group_of}
use Rattle.book_insts.specs.declared.InstGroup.{InstGroup}
use Rattle.book_insts.specs.declared.InstGroup.TheVariants as group
use Rattle.lowering.specs.Gen.{Gen, skip, ◌>>◌}
use Rattle.lowering.specs.Context.{FnCtx}
use Rattle.lowering.specs.Operand.{store_dest}
use Rattle.lowering.specs.Arith.{gen_bin, gen_icmp, gen_conv, gen_select, gen_freeze}
use Rattle.lowering.specs.Memory.{gen_load, gen_store, gen_alloca, require_atomic_width, gen_atomic_load, gen_atomic_store, gen_cmpxchg, gen_extract_value}
use Rattle.lowering.specs.Gep.{gen_gep}
use Rattle.lowering.specs.Call.{gen_call}
use Rattle.lowering.specs.Inst.{gen_kind}
use Rattle.gen_lines.specs.declared.Reached.{Reached}
use Rattle.gen_lines.specs.Puts.{Puts, then_puts}
use Rattle.gen_values.specs.Values.{dest_of, dest_is}

unfoldable pub body_gen : FnCtx → Option ℕ → InstKind → Gen
body_gen c d (InstKind.bin op ty l r) = gen_bin c op ty l r
body_gen c d (InstKind.conv op from v to) = gen_conv c op from v to
body_gen c d (InstKind.icmp p ty l r) = gen_icmp c p ty l r
body_gen c d (InstKind.select t ty l r) = gen_select c t ty l r
body_gen c d (InstKind.load t p a) = gen_load c t p
body_gen c d (InstKind.store t v p a) = gen_store c t v p
body_gen c d (InstKind.alloca t n a) = gen_alloca c d t n a
body_gen c d (InstKind.get_element_ptr t p is) = gen_gep c t p is
body_gen c d (InstKind.phi t vs) = skip
body_gen c d (InstKind.call t f vs) = gen_call c d t f vs
body_gen c d (InstKind.freeze t v) = gen_freeze c t v
body_gen c d (InstKind.atomic_load t p) = gen_atomic_load c t p
body_gen c d (InstKind.atomic_store t v p) = gen_atomic_store c t v p
body_gen c d (InstKind.cmpxchg t p x v) = require_atomic_width c t >> gen_cmpxchg c p x v d
body_gen c d (InstKind.extract_value v i) = gen_extract_value c v i d
body_gen c d InstKind.fence = skip

-- whether the result's slot is set behind them
abbrev pub stores_of : InstGroup → Bool
stores_of (group.Bin op) = true
stores_of (group.Conv op) = true
stores_of (group.ICmp op) = true
stores_of group.Select = true
stores_of group.Load = true
stores_of group.GetElementPtr = true
stores_of group.Freeze = true
stores_of group.AtomicLoad = true
stores_of group.Store = false
stores_of group.Alloca = false
stores_of group.Phi = false
stores_of group.Call = false
stores_of group.AtomicStore = false
stores_of group.Cmpxchg = false
stores_of group.ExtractValue = false
stores_of group.Fence = false
stores_of group.Other = false

-- the result is stored behind the value
pub result : (c : FnCtx) {t u : Reached} {ks os ks' os' : List ℕ} (dest : ℕ) (d : Option ℕ) → dest ≡ dest_word d → Puts (store_dest c (dest_of dest)) t u ks os ks' os'
    → Puts (store_dest c d) t u ks os ks' os'
result c {t} {u} {ks} {os} {ks'} {os'} dest d named p = subst (λ (o : Option ℕ). Puts (store_dest c o) t u ks os ks' os') (ap dest_of named ∙ dest_is d) p

-- a group that stores is none that does not
differs : {g j : InstGroup} {a b : Bool} → g ≡ j → stores_of j ≡ a → stores_of g ≡ b → a ≡ b
differs e p q = sym p ∙ ap stores_of (sym e) ∙ q

-- the kinds of operations, conversions and comparisons
pub bin_range : (o : BinOp) → (40 ≤ inst_kind (InstTag.bin o)) × (inst_kind (InstTag.bin o) < 60)
bin_range BinOp.add = (omega arith, omega arith)
bin_range BinOp.sub = (omega arith, omega arith)
bin_range BinOp.mul = (omega arith, omega arith)
bin_range BinOp.udiv = (omega arith, omega arith)
bin_range BinOp.sdiv = (omega arith, omega arith)
bin_range BinOp.urem = (omega arith, omega arith)
bin_range BinOp.srem = (omega arith, omega arith)
bin_range BinOp.and = (omega arith, omega arith)
bin_range BinOp.or = (omega arith, omega arith)
bin_range BinOp.xor = (omega arith, omega arith)
bin_range BinOp.shl = (omega arith, omega arith)
bin_range BinOp.lshr = (omega arith, omega arith)
bin_range BinOp.ashr = (omega arith, omega arith)

pub conv_range : (o : ConvOp) → (40 ≤ inst_kind (InstTag.conv o)) × (inst_kind (InstTag.conv o) < 60)
conv_range ConvOp.trunc = (omega arith, omega arith)
conv_range ConvOp.zext = (omega arith, omega arith)
conv_range ConvOp.sext = (omega arith, omega arith)
conv_range ConvOp.ptr_to_int = (omega arith, omega arith)
conv_range ConvOp.int_to_ptr = (omega arith, omega arith)
conv_range ConvOp.bit_cast = (omega arith, omega arith)

pub icmp_range : (o : ICmpPred) → (40 ≤ inst_kind (InstTag.icmp o)) × (inst_kind (InstTag.icmp o) < 70)
icmp_range ICmpPred.eq = (omega arith, omega arith)
icmp_range ICmpPred.ne = (omega arith, omega arith)
icmp_range ICmpPred.ugt = (omega arith, omega arith)
icmp_range ICmpPred.uge = (omega arith, omega arith)
icmp_range ICmpPred.ult = (omega arith, omega arith)
icmp_range ICmpPred.ule = (omega arith, omega arith)
icmp_range ICmpPred.sgt = (omega arith, omega arith)
icmp_range ICmpPred.sge = (omega arith, omega arith)
icmp_range ICmpPred.slt = (omega arith, omega arith)
icmp_range ICmpPred.sle = (omega arith, omega arith)

pub kind_from : (k : InstKind) → 40 ≤ inst_kind (inst_tag_of k)
kind_from (InstKind.bin op ty l r) = (bin_range op).0
kind_from (InstKind.conv op a v b) = (conv_range op).0
kind_from (InstKind.icmp p ty l r) = (icmp_range p).0
kind_from (InstKind.select t ty l r) = omega arith
kind_from (InstKind.load t p a) = omega arith
kind_from (InstKind.store t v p a) = omega arith
kind_from (InstKind.alloca t n a) = omega arith
kind_from (InstKind.get_element_ptr t p is) = omega arith
kind_from (InstKind.phi t vs) = omega arith
kind_from (InstKind.call t f vs) = omega arith
kind_from (InstKind.freeze t v) = omega arith
kind_from (InstKind.atomic_load t p) = omega arith
kind_from (InstKind.atomic_store t v p) = omega arith
kind_from (InstKind.cmpxchg t p x v) = omega arith
kind_from (InstKind.extract_value v i) = omega arith
kind_from InstKind.fence = omega arith

no : false ≡ true → ⊥
no e = cc

module _ (c : FnCtx) (d : Option ℕ) {g : InstGroup} where
  pub stored_puts : (k : InstKind) {s t u : Reached} {k₀ o₀ k₁ o₁ k₂ o₂ : List ℕ} → g ≡ inst_group_of (some (inst_tag_of k)) → stores_of g ≡ true
      → Puts (body_gen c d k) s t k₀ o₀ k₁ o₁ → Puts (store_dest c d) t u k₁ o₁ k₂ o₂ → Puts (gen_kind c d k) s u k₀ o₀ k₂ o₂
  unfolding gen_kind body_gen
  stored_puts (InstKind.bin op ty l r) e b p q = then_puts p q
  stored_puts (InstKind.conv op from v to) e b p q = then_puts p q
  stored_puts (InstKind.icmp o ty l r) e b p q = then_puts p q
  stored_puts (InstKind.select t ty l r) e b p q = then_puts p q
  stored_puts (InstKind.load t v a) e b p q = then_puts p q
  stored_puts (InstKind.store t v w a) e b p q = absurd (no (differs e refl b))
  stored_puts (InstKind.alloca t n a) e b p q = absurd (no (differs e refl b))
  stored_puts (InstKind.get_element_ptr t v is) e b p q = then_puts p q
  stored_puts (InstKind.phi t vs) e b p q = absurd (no (differs e refl b))
  stored_puts (InstKind.call t f vs) e b p q = absurd (no (differs e refl b))
  stored_puts (InstKind.freeze t v) e b p q = then_puts p q
  stored_puts (InstKind.atomic_load t v) e b p q = then_puts p q
  stored_puts (InstKind.atomic_store t v w) e b p q = absurd (no (differs e refl b))
  stored_puts (InstKind.cmpxchg t v w x) e b p q = absurd (no (differs e refl b))
  stored_puts (InstKind.extract_value v i) e b p q = absurd (no (differs e refl b))
  stored_puts InstKind.fence e b p q = absurd (no (differs e refl b))

  pub unstored_puts : (k : InstKind) {s t : Reached} {ks os ks' os' : List ℕ} → g ≡ inst_group_of (some (inst_tag_of k)) → stores_of g ≡ false
      → Puts (body_gen c d k) s t ks os ks' os' → Puts (gen_kind c d k) s t ks os ks' os'
  unfolding gen_kind body_gen
  unstored_puts (InstKind.bin op ty l r) e b p = absurd (no (sym (differs e refl b)))
  unstored_puts (InstKind.conv op from v to) e b p = absurd (no (sym (differs e refl b)))
  unstored_puts (InstKind.icmp o ty l r) e b p = absurd (no (sym (differs e refl b)))
  unstored_puts (InstKind.select t ty l r) e b p = absurd (no (sym (differs e refl b)))
  unstored_puts (InstKind.load t v a) e b p = absurd (no (sym (differs e refl b)))
  unstored_puts (InstKind.store t v w a) e b p = p
  unstored_puts (InstKind.alloca t n a) e b p = p
  unstored_puts (InstKind.get_element_ptr t v is) e b p = absurd (no (sym (differs e refl b)))
  unstored_puts (InstKind.phi t vs) e b p = p
  unstored_puts (InstKind.call t f vs) e b p = p
  unstored_puts (InstKind.freeze t v) e b p = absurd (no (sym (differs e refl b)))
  unstored_puts (InstKind.atomic_load t v) e b p = absurd (no (sym (differs e refl b)))
  unstored_puts (InstKind.atomic_store t v w) e b p = p
  unstored_puts (InstKind.cmpxchg t v w x) e b p = p
  unstored_puts (InstKind.extract_value v i) e b p = p
  unstored_puts InstKind.fence e b p = p

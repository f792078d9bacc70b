-- The group of a kind, from the operation that the kind is, or from its being none.
use Rattle.std.specs.Prelude.{◌≡◌, ℕ, ◌≤◌, ◌<◌}
use Rattle.std.proofs.Math.Path.{refl, sym, ap}
use Rattle.std.proofs.Common.{◌∙◌, arith}
use Rattle.std.proofs.Math.Option.{Option, none, some}
use Rattle.book.specs.Ast as ast
use Rattle.book.specs.Kinds.{InstTag, inst_kind, inst_tag}
use Rattle.book.specs.AgreeInst.{inst_is, inst_found}
use Rattle.book.specs.Ops.{bin_of, conv_of, icmp_of, same_bin, same_conv, same_icmp}
use Rattle.book_types.specs.Tables.{in_range_lem}
use Rattle.book.specs.declared.ops.BinOp.{BinOp}
use Rattle.book.specs.declared.ops.ConvOp.{ConvOp}
use Rattle.book.specs.declared.ops.ICmpPred.{ICmpPred}
use Rattle.book_insts.specs.declared.InstGroup.TheVariants as inst
use Rattle.book_insts.specs.Insts.{inst_group_of, single_of}

pub bin_group : (k : ℕ) (op : BinOp) → k ≡ inst_kind (InstTag.bin (bin_of op)) → inst.Bin op ≡ inst_group_of (inst_tag k)
bin_group k op e = sym (ap (λ n. inst_group_of (inst_tag n)) e ∙ ap inst_group_of (inst_found (InstTag.bin (bin_of op))) ∙ ap inst.Bin (same_bin op))

pub conv_group : (k : ℕ) (op : ConvOp) → k ≡ inst_kind (InstTag.conv (conv_of op)) → inst.Conv op ≡ inst_group_of (inst_tag k)
conv_group k op e = sym (ap (λ n. inst_group_of (inst_tag n)) e ∙ ap inst_group_of (inst_found (InstTag.conv (conv_of op))) ∙ ap inst.Conv (same_conv op))

pub icmp_group : (k : ℕ) (op : ICmpPred) → k ≡ inst_kind (InstTag.icmp (icmp_of op)) → inst.ICmp op ≡ inst_group_of (inst_tag k)
icmp_group k op e = sym (ap (λ n. inst_group_of (inst_tag n)) e ∙ ap inst_group_of (inst_found (InstTag.icmp (icmp_of op))) ∙ ap inst.ICmp (same_icmp op))

module _ (k : ℕ) where
  -- none of the three
  pub single_group : ((op : ast.BinOp) → k ≡ inst_kind (InstTag.bin op) → ⊥) → ((op : ast.ConvOp) → k ≡ inst_kind (InstTag.conv op) → ⊥)
      → ((op : ast.ICmpPred) → k ≡ inst_kind (InstTag.icmp op) → ⊥) → single_of (inst_tag k) ≡ inst_group_of (inst_tag k)
  single_group no_bin no_conv no_icmp = at (inst_tag k) refl
    where
      at : (t : Option InstTag) → inst_tag k ≡ t → single_of t ≡ inst_group_of t
      at none e = refl
      at (some (InstTag.bin op)) e = absurd (no_bin op (inst_is k _ e))
      at (some (InstTag.conv op)) e = absurd (no_conv op (inst_is k _ e))
      at (some (InstTag.icmp op)) e = absurd (no_icmp op (inst_is k _ e))
      at (some InstTag.select) e = refl
      at (some InstTag.load) e = refl
      at (some InstTag.store) e = refl
      at (some InstTag.alloca) e = refl
      at (some InstTag.get_element_ptr) e = refl
      at (some InstTag.phi) e = refl
      at (some InstTag.call) e = refl
      at (some InstTag.freeze) e = refl
      at (some InstTag.atomic_load) e = refl
      at (some InstTag.atomic_store) e = refl
      at (some InstTag.cmpxchg) e = refl
      at (some InstTag.extract_value) e = refl
      at (some InstTag.fence) e = refl

  -- none that is a group of its own
  pub no_group : (70 ≤ k → 82 < k) → inst.Other ≡ single_of (inst_tag k)
  no_group high = at (inst_tag k) refl
    where
      out : (t : InstTag) → inst_tag k ≡ some t → 70 ≤ inst_kind t → inst_kind t ≤ 82 → ⊥
      out t e a b = let i : k ≡ inst_kind t = inst_is k t e in omega (arith, high (omega arith))

      at : (t : Option InstTag) → inst_tag k ≡ t → inst.Other ≡ single_of t
      at none e = refl
      at (some (InstTag.bin op)) e = refl
      at (some (InstTag.conv op)) e = refl
      at (some (InstTag.icmp op)) e = refl
      at (some InstTag.select) e = absurd (out _ e (omega arith) (omega arith))
      at (some InstTag.load) e = absurd (out _ e (omega arith) (omega arith))
      at (some InstTag.store) e = absurd (out _ e (omega arith) (omega arith))
      at (some InstTag.alloca) e = absurd (out _ e (omega arith) (omega arith))
      at (some InstTag.get_element_ptr) e = absurd (out _ e (omega arith) (omega arith))
      at (some InstTag.phi) e = absurd (out _ e (omega arith) (omega arith))
      at (some InstTag.call) e = absurd (out _ e (omega arith) (omega arith))
      at (some InstTag.freeze) e = absurd (out _ e (omega arith) (omega arith))
      at (some InstTag.atomic_load) e = absurd (out _ e (omega arith) (omega arith))
      at (some InstTag.atomic_store) e = absurd (out _ e (omega arith) (omega arith))
      at (some InstTag.cmpxchg) e = absurd (out _ e (omega arith) (omega arith))
      at (some InstTag.extract_value) e = absurd (out _ e (omega arith) (omega arith))
      at (some InstTag.fence) e = absurd (out _ e (omega arith) (omega arith))

-- ---- the ranges of kinds
-- each kind from 40 to 52 is an operation's, and no other one is
pub some_bin : (k : ℕ) → 40 ≤ k → k ≤ 52 → ((op : ast.BinOp) → k ≡ inst_kind (InstTag.bin op) → ⊥) → ⊥
some_bin k p q =
    in_range_lem (λ k. ((op : ast.BinOp) → k ≡ inst_kind (InstTag.bin op) → ⊥) → ⊥) 40 13
    (λ r. r ast.BinOp.add refl, (λ r. r ast.BinOp.sub refl, (λ r. r ast.BinOp.mul refl, (λ r. r ast.BinOp.udiv refl, (λ r. r ast.BinOp.sdiv refl, (λ r. r ast.BinOp.urem refl, (λ r. r ast.BinOp.srem refl, (λ r. r ast.BinOp.and refl, (λ r. r ast.BinOp.or refl, (λ r. r ast.BinOp.xor refl, (λ r. r ast.BinOp.shl refl, (λ r. r ast.BinOp.lshr refl, (λ r. r ast.BinOp.ashr refl, tt)))))))))))))
    k p (omega arith)

bin_range : (op : ast.BinOp) → (40 ≤ inst_kind (InstTag.bin op)) × (inst_kind (InstTag.bin op) ≤ 52)
bin_range ast.BinOp.add = omega arith
bin_range ast.BinOp.sub = omega arith
bin_range ast.BinOp.mul = omega arith
bin_range ast.BinOp.udiv = omega arith
bin_range ast.BinOp.sdiv = omega arith
bin_range ast.BinOp.urem = omega arith
bin_range ast.BinOp.srem = omega arith
bin_range ast.BinOp.and = omega arith
bin_range ast.BinOp.or = omega arith
bin_range ast.BinOp.xor = omega arith
bin_range ast.BinOp.shl = omega arith
bin_range ast.BinOp.lshr = omega arith
bin_range ast.BinOp.ashr = omega arith

-- each kind from 53 to 58 is a conversion's, and no other one is
pub some_conv : (k : ℕ) → 53 ≤ k → k ≤ 58 → ((op : ast.ConvOp) → k ≡ inst_kind (InstTag.conv op) → ⊥) → ⊥
some_conv k p q =
    in_range_lem (λ k. ((op : ast.ConvOp) → k ≡ inst_kind (InstTag.conv op) → ⊥) → ⊥) 53 6
    (λ r. r ast.ConvOp.trunc refl, (λ r. r ast.ConvOp.zext refl, (λ r. r ast.ConvOp.sext refl, (λ r. r ast.ConvOp.ptr_to_int refl, (λ r. r ast.ConvOp.int_to_ptr refl, (λ r. r ast.ConvOp.bit_cast refl, tt))))))
    k p (omega arith)

conv_range : (op : ast.ConvOp) → (53 ≤ inst_kind (InstTag.conv op)) × (inst_kind (InstTag.conv op) ≤ 58)
conv_range ast.ConvOp.trunc = omega arith
conv_range ast.ConvOp.zext = omega arith
conv_range ast.ConvOp.sext = omega arith
conv_range ast.ConvOp.ptr_to_int = omega arith
conv_range ast.ConvOp.int_to_ptr = omega arith
conv_range ast.ConvOp.bit_cast = omega arith

-- each kind from 60 to 69 is a predicate's, and no other one is
pub some_icmp : (k : ℕ) → 60 ≤ k → k ≤ 69 → ((op : ast.ICmpPred) → k ≡ inst_kind (InstTag.icmp op) → ⊥) → ⊥
some_icmp k p q =
    in_range_lem (λ k. ((op : ast.ICmpPred) → k ≡ inst_kind (InstTag.icmp op) → ⊥) → ⊥) 60 10
    (λ r. r ast.ICmpPred.eq refl, (λ r. r ast.ICmpPred.ne refl, (λ r. r ast.ICmpPred.ugt refl, (λ r. r ast.ICmpPred.uge refl, (λ r. r ast.ICmpPred.ult refl, (λ r. r ast.ICmpPred.ule refl, (λ r. r ast.ICmpPred.sgt refl, (λ r. r ast.ICmpPred.sge refl, (λ r. r ast.ICmpPred.slt refl, (λ r. r ast.ICmpPred.sle refl, tt))))))))))
    k p (omega arith)

icmp_range : (op : ast.ICmpPred) → (60 ≤ inst_kind (InstTag.icmp op)) × (inst_kind (InstTag.icmp op) ≤ 69)
icmp_range ast.ICmpPred.eq = omega arith
icmp_range ast.ICmpPred.ne = omega arith
icmp_range ast.ICmpPred.ugt = omega arith
icmp_range ast.ICmpPred.uge = omega arith
icmp_range ast.ICmpPred.ult = omega arith
icmp_range ast.ICmpPred.ule = omega arith
icmp_range ast.ICmpPred.sgt = omega arith
icmp_range ast.ICmpPred.sge = omega arith
icmp_range ast.ICmpPred.slt = omega arith
icmp_range ast.ICmpPred.sle = omega arith

module _ (k : ℕ) where
  -- outside these ranges
  pub outside_ranges : (40 ≤ k → k ≤ 58 → ⊥) → (60 ≤ k → k ≤ 69 → ⊥) → single_of (inst_tag k) ≡ inst_group_of (inst_tag k)
  outside_ranges low high =
      single_group k (λ op e. let r = bin_range op in low (omega arith) (omega arith)) (λ op e. let r = conv_range op in low (omega arith) (omega arith))
      (λ op e. let r = icmp_range op in high (omega arith) (omega arith))

-- The operations, conversions and predicates of the code are those of ast.rs, and a kind is decoded to the one that has it.
use Rattle.std.specs.Prelude.{◌≡◌, ◌≢◌, ℕ, Result, MatchResult}
use Rattle.std.proofs.Math.Path.{refl}
use Rattle.book.specs.Ast as ast
use Rattle.book.specs.Kinds.{InstTag, inst_kind}
use Rattle.book.specs.declared.ops.UnknownKind.{UnknownKind}
use Rattle.book.specs.declared.ops.BinOp.{BinOp}
use Rattle.book.specs.declared.ops.BinOp.TheVariants as binop
use Rattle.book.specs.declared.ops.ConvOp.{ConvOp}
use Rattle.book.specs.declared.ops.ConvOp.TheVariants as convop
use Rattle.book.specs.declared.ops.ICmpPred.{ICmpPred}
use Rattle.book.specs.declared.ops.ICmpPred.TheVariants as icmppred

abbrev pub bin_of : BinOp → ast.BinOp
bin_of binop.Add = ast.BinOp.add
bin_of binop.Sub = ast.BinOp.sub
bin_of binop.Mul = ast.BinOp.mul
bin_of binop.UDiv = ast.BinOp.udiv
bin_of binop.SDiv = ast.BinOp.sdiv
bin_of binop.URem = ast.BinOp.urem
bin_of binop.SRem = ast.BinOp.srem
bin_of binop.And = ast.BinOp.and
bin_of binop.Or = ast.BinOp.or
bin_of binop.Xor = ast.BinOp.xor
bin_of binop.Shl = ast.BinOp.shl
bin_of binop.LShr = ast.BinOp.lshr
bin_of binop.AShr = ast.BinOp.ashr

abbrev pub bin_is : ast.BinOp → BinOp
bin_is ast.BinOp.add = binop.Add
bin_is ast.BinOp.sub = binop.Sub
bin_is ast.BinOp.mul = binop.Mul
bin_is ast.BinOp.udiv = binop.UDiv
bin_is ast.BinOp.sdiv = binop.SDiv
bin_is ast.BinOp.urem = binop.URem
bin_is ast.BinOp.srem = binop.SRem
bin_is ast.BinOp.and = binop.And
bin_is ast.BinOp.or = binop.Or
bin_is ast.BinOp.xor = binop.Xor
bin_is ast.BinOp.shl = binop.Shl
bin_is ast.BinOp.lshr = binop.LShr
bin_is ast.BinOp.ashr = binop.AShr

pub bin_same : (op : ast.BinOp) → bin_of (bin_is op) ≡ op
bin_same ast.BinOp.add = refl
bin_same ast.BinOp.sub = refl
bin_same ast.BinOp.mul = refl
bin_same ast.BinOp.udiv = refl
bin_same ast.BinOp.sdiv = refl
bin_same ast.BinOp.urem = refl
bin_same ast.BinOp.srem = refl
bin_same ast.BinOp.and = refl
bin_same ast.BinOp.or = refl
bin_same ast.BinOp.xor = refl
bin_same ast.BinOp.shl = refl
bin_same ast.BinOp.lshr = refl
bin_same ast.BinOp.ashr = refl

pub same_bin : (op : BinOp) → bin_is (bin_of op) ≡ op
same_bin binop.Add = refl
same_bin binop.Sub = refl
same_bin binop.Mul = refl
same_bin binop.UDiv = refl
same_bin binop.SDiv = refl
same_bin binop.URem = refl
same_bin binop.SRem = refl
same_bin binop.And = refl
same_bin binop.Or = refl
same_bin binop.Xor = refl
same_bin binop.Shl = refl
same_bin binop.LShr = refl
same_bin binop.AShr = refl

abbrev pub DecodesBin : ℕ → Result BinOp UnknownKind → Type 0
DecodesBin k r = MatchResult r (λ op. k ≡ inst_kind (InstTag.bin (bin_of op))) (λ e. (e.0 ≡ k) × ((op : ast.BinOp) → k ≢ inst_kind (InstTag.bin op)))

abbrev pub conv_of : ConvOp → ast.ConvOp
conv_of convop.Trunc = ast.ConvOp.trunc
conv_of convop.ZExt = ast.ConvOp.zext
conv_of convop.SExt = ast.ConvOp.sext
conv_of convop.PtrToInt = ast.ConvOp.ptr_to_int
conv_of convop.IntToPtr = ast.ConvOp.int_to_ptr
conv_of convop.BitCast = ast.ConvOp.bit_cast

abbrev pub conv_is : ast.ConvOp → ConvOp
conv_is ast.ConvOp.trunc = convop.Trunc
conv_is ast.ConvOp.zext = convop.ZExt
conv_is ast.ConvOp.sext = convop.SExt
conv_is ast.ConvOp.ptr_to_int = convop.PtrToInt
conv_is ast.ConvOp.int_to_ptr = convop.IntToPtr
conv_is ast.ConvOp.bit_cast = convop.BitCast

pub conv_same : (op : ast.ConvOp) → conv_of (conv_is op) ≡ op
conv_same ast.ConvOp.trunc = refl
conv_same ast.ConvOp.zext = refl
conv_same ast.ConvOp.sext = refl
conv_same ast.ConvOp.ptr_to_int = refl
conv_same ast.ConvOp.int_to_ptr = refl
conv_same ast.ConvOp.bit_cast = refl

pub same_conv : (op : ConvOp) → conv_is (conv_of op) ≡ op
same_conv convop.Trunc = refl
same_conv convop.ZExt = refl
same_conv convop.SExt = refl
same_conv convop.PtrToInt = refl
same_conv convop.IntToPtr = refl
same_conv convop.BitCast = refl

abbrev pub DecodesConv : ℕ → Result ConvOp UnknownKind → Type 0
DecodesConv k r = MatchResult r (λ op. k ≡ inst_kind (InstTag.conv (conv_of op))) (λ e. (e.0 ≡ k) × ((op : ast.ConvOp) → k ≢ inst_kind (InstTag.conv op)))

abbrev pub icmp_of : ICmpPred → ast.ICmpPred
icmp_of icmppred.Eq = ast.ICmpPred.eq
icmp_of icmppred.Ne = ast.ICmpPred.ne
icmp_of icmppred.Ugt = ast.ICmpPred.ugt
icmp_of icmppred.Uge = ast.ICmpPred.uge
icmp_of icmppred.Ult = ast.ICmpPred.ult
icmp_of icmppred.Ule = ast.ICmpPred.ule
icmp_of icmppred.Sgt = ast.ICmpPred.sgt
icmp_of icmppred.Sge = ast.ICmpPred.sge
icmp_of icmppred.Slt = ast.ICmpPred.slt
icmp_of icmppred.Sle = ast.ICmpPred.sle

abbrev pub icmp_is : ast.ICmpPred → ICmpPred
icmp_is ast.ICmpPred.eq = icmppred.Eq
icmp_is ast.ICmpPred.ne = icmppred.Ne
icmp_is ast.ICmpPred.ugt = icmppred.Ugt
icmp_is ast.ICmpPred.uge = icmppred.Uge
icmp_is ast.ICmpPred.ult = icmppred.Ult
icmp_is ast.ICmpPred.ule = icmppred.Ule
icmp_is ast.ICmpPred.sgt = icmppred.Sgt
icmp_is ast.ICmpPred.sge = icmppred.Sge
icmp_is ast.ICmpPred.slt = icmppred.Slt
icmp_is ast.ICmpPred.sle = icmppred.Sle

pub icmp_same : (op : ast.ICmpPred) → icmp_of (icmp_is op) ≡ op
icmp_same ast.ICmpPred.eq = refl
icmp_same ast.ICmpPred.ne = refl
icmp_same ast.ICmpPred.ugt = refl
icmp_same ast.ICmpPred.uge = refl
icmp_same ast.ICmpPred.ult = refl
icmp_same ast.ICmpPred.ule = refl
icmp_same ast.ICmpPred.sgt = refl
icmp_same ast.ICmpPred.sge = refl
icmp_same ast.ICmpPred.slt = refl
icmp_same ast.ICmpPred.sle = refl

pub same_icmp : (op : ICmpPred) → icmp_is (icmp_of op) ≡ op
same_icmp icmppred.Eq = refl
same_icmp icmppred.Ne = refl
same_icmp icmppred.Ugt = refl
same_icmp icmppred.Uge = refl
same_icmp icmppred.Ult = refl
same_icmp icmppred.Ule = refl
same_icmp icmppred.Sgt = refl
same_icmp icmppred.Sge = refl
same_icmp icmppred.Slt = refl
same_icmp icmppred.Sle = refl

abbrev pub DecodesICmp : ℕ → Result ICmpPred UnknownKind → Type 0
DecodesICmp k r = MatchResult r (λ op. k ≡ inst_kind (InstTag.icmp (icmp_of op))) (λ e. (e.0 ≡ k) × ((op : ast.ICmpPred) → k ≢ inst_kind (InstTag.icmp op)))

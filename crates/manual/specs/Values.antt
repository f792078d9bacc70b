-- The values of operations on integers of w bits, any w from 1 to 64, after the LLVM Language Reference Manual. A value is the unsigned number of its bits.
use Rattle.std.specs.Prelude.{ℕ, ◌+◌, ◌-◌, ◌*◌, ◌/◌, ◌%◌, ◌^◌, Bool, not, ◌||◌, eqb, ltb, leb}
use Rattle.std.specs.Int.Signed.{quot_z, rem_z, shr_z, mag, lt_z, le_z}
use Rattle.std.specs.Int.Bits.{bit_and, bit_or, bit_xor}
use Rattle.book.specs.Ast.{BinOp, ConvOp, ICmpPred}
use Rattle.book.specs.Result.{Result, ok, bind as ◌>>=◌}
use Rattle.machine.specs.Signed.{signed, unsigned, nonzero}
use Rattle.manual.specs.Stop.{Stop, need}

-- "Binary Operations", "Bitwise Binary Operations"
unfoldable pub bin_value : BinOp → (w : ℕ) → (x y : ℕ) → Result ℕ
-- "the result returned is the mathematical result modulo 2^n, where n is the bit width of the result"
bin_value BinOp.add w x y = ok ((x + y) % 2 ^ w)
bin_value BinOp.sub w x y = ok ((x + 2 ^ w - y) % 2 ^ w)
bin_value BinOp.mul w x y = ok (x * y % 2 ^ w)
-- "Division by zero is undefined behavior"
bin_value BinOp.udiv w x y = do
  _ ← need (ltb 0 y) Stop.undefined
  ok (x / y)
-- "Taking the remainder of a division by zero is undefined behavior"
bin_value BinOp.urem w x y = do
  _ ← need (ltb 0 y) Stop.undefined
  ok (x % y)
-- "the signed integer quotient of the two operands rounded towards zero. Division by zero is undefined behavior. Overflow also leads to undefined behavior"
bin_value BinOp.sdiv w x y = do
  _ ← need (nonzero (signed w y)) Stop.undefined
  _ ← need (ltb (mag (quot_z (signed w x) (signed w y))) (2 ^ (w - 1))) Stop.undefined
  ok (unsigned w (quot_z (signed w x) (signed w y)))
-- "the remainder of a division (where the result is either zero or has the same sign as the dividend)": undefined where the division is
bin_value BinOp.srem w x y = do
  _ ← need (nonzero (signed w y)) Stop.undefined
  _ ← need (ltb (mag (quot_z (signed w x) (signed w y))) (2 ^ (w - 1))) Stop.undefined
  ok (unsigned w (rem_z (signed w x) (signed w y)))
bin_value BinOp.and w x y = ok (bit_and x y)
bin_value BinOp.or w x y = ok (bit_or x y)
bin_value BinOp.xor w x y = ok (bit_xor x y)
-- "If op2 is .. equal to or larger than the number of bits in op1, this instruction returns a poison value"
-- "op1 * 2^op2 mod 2^n"
bin_value BinOp.shl w x y = do
  _ ← need (ltb y w) Stop.undefined
  ok (x * 2 ^ y % 2 ^ w)
-- "shifted to the right a specified number of bits with zero fill"
bin_value BinOp.lshr w x y = do
  _ ← need (ltb y w) Stop.undefined
  ok (x / 2 ^ y)
-- ".. filled with the sign bit of op1": the signed value, rounded down
bin_value BinOp.ashr w x y = do
  _ ← need (ltb y w) Stop.undefined
  ok (unsigned w (shr_z (signed w x) (2 ^ y)))

-- "'icmp' Instruction"
unfoldable pub icmp_value : ICmpPred → (w : ℕ) → (x y : ℕ) → Bool
icmp_value ICmpPred.eq w x y = eqb x y
icmp_value ICmpPred.ne w x y = not (eqb x y)
icmp_value ICmpPred.ugt w x y = ltb y x
icmp_value ICmpPred.uge w x y = leb y x
icmp_value ICmpPred.ult w x y = ltb x y
icmp_value ICmpPred.ule w x y = leb x y
icmp_value ICmpPred.sgt w x y = lt_z (signed w y) (signed w x)
icmp_value ICmpPred.sge w x y = le_z (signed w y) (signed w x)
icmp_value ICmpPred.slt w x y = lt_z (signed w x) (signed w y)
icmp_value ICmpPred.sle w x y = le_z (signed w x) (signed w y)

-- "Conversion Operations", from fw bits to tw; a pointer has 64
unfoldable pub conv_value : ConvOp → (fw tw : ℕ) → ℕ → ℕ
conv_value ConvOp.trunc fw tw x = x % 2 ^ tw
conv_value ConvOp.zext fw tw x = x
conv_value ConvOp.sext fw tw x = unsigned tw (signed fw x)
-- "either truncating or zero extending that value to the size of the integer type"
conv_value ConvOp.ptr_to_int fw tw x = x % 2 ^ tw
conv_value ConvOp.int_to_ptr fw tw x = x % 2 ^ tw
-- "no bits change with this conversion"
conv_value ConvOp.bit_cast fw tw x = x

-- the widths that a conversion may have: "The bit size of the value must be larger than the bit size of the destination type", smaller for the extensions;
-- "The bit sizes of value and the destination type .. must be identical"
unfoldable pub conv_widths : ConvOp → (fw tw : ℕ) → Bool
conv_widths ConvOp.trunc fw tw = ltb tw fw
conv_widths ConvOp.zext fw tw = ltb fw tw
conv_widths ConvOp.sext fw tw = ltb fw tw
conv_widths ConvOp.ptr_to_int fw tw = eqb fw 64
conv_widths ConvOp.int_to_ptr fw tw = eqb tw 64
conv_widths ConvOp.bit_cast fw tw = eqb fw tw

-- a constant's word, in the signed or the unsigned range of w bits
unfoldable pub in_range : (w : ℕ) → ℕ → Bool
in_range w v = ltb v (2 ^ w) || leb (2 ^ 64 - 2 ^ (w - 1)) v

-- in the signed range alone
unfoldable pub in_signed_range : (w : ℕ) → ℕ → Bool
in_signed_range w v = ltb v (2 ^ (w - 1)) || leb (2 ^ 64 - 2 ^ (w - 1)) v

unfoldable pub constant : (w : ℕ) → ℕ → Result ℕ
constant w v = do
  _ ← need (in_range w v) Stop.integer_range
  ok (v % 2 ^ w)

-- opens every definition of this file, for an example that computes
unfoldable pub open_values : Unit {0}
unfolding bin_value icmp_value conv_value conv_widths in_range in_signed_range constant
open_values = tt

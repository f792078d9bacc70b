-- The values of the machine's operations on words of w bits, w being 32 or 64: "A zero divisor, an overflowing signed division or remainder, a shift by the
-- width or more .. fails", which is none here. Signed operations work on signed values.
use Rattle.std.specs.Prelude.{ℕ, ◌+◌, ◌-◌, ◌*◌, ◌/◌, ◌%◌, ◌^◌, Bool, ◌&&◌, not, cond, eqb, ltb, leb, ℤ}
use Rattle.std.proofs.Math.Option.{Option, some}
use Rattle.std.specs.Int.Signed.{quot_z, rem_z, shr_z, mag, lt_z, le_z}
use Rattle.std.specs.Int.Bits.{bit_and, bit_or, bit_xor}
use Rattle.book.specs.Ast.{BinOp, ICmpPred}
use Rattle.book.specs.Rule.{when}
use Rattle.machine.specs.Signed.{signed, unsigned, nonzero}

-- a divisor other than 0, and a quotient that is a signed number of w bits
unfoldable pub divides : (w : ℕ) → (divisor quotient : ℤ) → Bool
divides w b q = nonzero b && ltb (mag q) (2 ^ (w - 1))

unfoldable pub word_op : BinOp → (w : ℕ) → (a b : ℕ) → Option ℕ
word_op BinOp.add w a b = some ((a + b) % 2 ^ w)
word_op BinOp.sub w a b = some ((a + (2 ^ w - b)) % 2 ^ w)
word_op BinOp.mul w a b = some (a * b % 2 ^ w)
word_op BinOp.udiv w a b = when (ltb 0 b) (a / b)
word_op BinOp.urem w a b = when (ltb 0 b) (a % b)
word_op BinOp.sdiv w a b = when (divides w (signed w b) (quot_z (signed w a) (signed w b))) (unsigned w (quot_z (signed w a) (signed w b)))
word_op BinOp.srem w a b = when (divides w (signed w b) (quot_z (signed w a) (signed w b))) (unsigned w (rem_z (signed w a) (signed w b)))
word_op BinOp.and w a b = some (bit_and a b)
word_op BinOp.or w a b = some (bit_or a b)
word_op BinOp.xor w a b = some (bit_xor a b)
word_op BinOp.shl w a b = when (ltb b w) (a * 2 ^ b % 2 ^ w)
word_op BinOp.lshr w a b = when (ltb b w) (a / 2 ^ b)
word_op BinOp.ashr w a b = when (ltb b w) (unsigned w (shr_z (signed w a) (2 ^ b)))

unfoldable pub word_test : ICmpPred → (w : ℕ) → (a b : ℕ) → Bool
word_test ICmpPred.eq w a b = eqb a b
word_test ICmpPred.ne w a b = not (eqb a b)
word_test ICmpPred.ugt w a b = ltb b a
word_test ICmpPred.uge w a b = leb b a
word_test ICmpPred.ult w a b = ltb a b
word_test ICmpPred.ule w a b = leb a b
word_test ICmpPred.sgt w a b = lt_z (signed w b) (signed w a)
word_test ICmpPred.sge w a b = le_z (signed w b) (signed w a)
word_test ICmpPred.slt w a b = lt_z (signed w a) (signed w b)
word_test ICmpPred.sle w a b = le_z (signed w a) (signed w b)

-- the low n bits, signed, as a word of w bits
unfoldable pub extended : (n w : ℕ) → ℕ → ℕ
extended n w x = unsigned w (signed n (x % 2 ^ n))

-- a test as a cell
unfoldable pub flag : Bool → ℕ
flag t = cond t 1 0

-- opens every definition of this file, for an example that computes
unfoldable pub open_values : Unit {0}
unfolding divides word_op word_test extended flag
open_values = tt

-- `set_bit` meets its contract: a one shifted to the bit's place, in a bitwise or, sets that digit of the word. Assumes nothing.
use Rattle.std.proofs.Common.{◌≡◌, ℕ, ◌*◌, ◌/◌, ◌%◌, ◌^◌, List, get_or, set, arith}
use lib.Bits.{bit_or}
use Rattle.numbers.specs.Bits.{set_bit_at, with_or}
use Rattle.numbers.proofs.Shift.{one_shifted}
use Rattle.numbers.proofs.bits.set_bit.Goals as goal

stored : (m : List ℕ) (i : ℕ) → set m (i / 64) (bit_or (get_or m (i / 64) 0) (1 * 2 ^ (i % 64) % 2 ^ 64)) ≡ set_bit_at m i
unfolding set_bit_at
stored m i = rw (one_shifted (i % 64) (omega arith), with_or (get_or m (i / 64) 0) (i % 64))

pub returns : goal.returns
returns c = stored _ _

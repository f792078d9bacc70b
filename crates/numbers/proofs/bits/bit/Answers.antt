-- `bit` meets its contract. Assumes nothing.
use Rattle.std.proofs.Common.{sym, rules}
use Rattle.numbers.specs.Bits.{bit_at, digit_at, bit_past}
use Rattle.numbers.proofs.bits.bit.Goals as goal

pub returns-in-Some : goal.returns-in-Some
unfolding bit_at digit_at
returns-in-Some c = rw (c.in-Some.ensures.lookup.3.1 0)

pub returns-in-None : goal.returns-in-None
returns-in-None c = sym (bit_past _ _ (search rules))

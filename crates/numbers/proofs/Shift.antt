-- A one shifted left by less than a word's width, as the code has it. Assumes nothing.
use Rattle.std.proofs.Common.{◌≡◌, ℕ, ◌*◌, ◌%◌, ◌^◌, ◌<◌, ◌≤◌, mod-eq_of_lt, one-mul, pow_pos}
use lib.Pow.{pow-lt}

pub one_shifted : (k : ℕ) → k < 64 → 1 * 2 ^ k % 2 ^ 64 ≡ 2 ^ k
one_shifted k h = rw (one-mul (2 ^ k)) (mod-eq_of_lt (pow-lt h))

-- so one can be taken from it
pub one_below : (k : ℕ) → k < 64 → 1 ≤ 1 * 2 ^ k % 2 ^ 64
one_below k h = rw (one_shifted k h) (pow_pos k)

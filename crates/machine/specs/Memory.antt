-- "memory (2^64 bytes, wrapping, little-endian)".
use Rattle.std.specs.Prelude.{ℕ, zero, suc, ◌+◌, ◌*◌, ◌/◌, ◌%◌, ◌^◌, ◌<◌, cond, eqb}
use Rattle.std.proofs.Common.{arith, mul-suc, pow-add}

-- a byte for each address; addresses count modulo 2^64, and of what is stored the low 8 bits
abbrev pub Memory : Type 0
Memory = ℕ → ℕ

-- the number in the n bytes from an address on
unfoldable pub peek : (n : ℕ) → Memory → (address : ℕ) → ℕ
peek zero m a = 0
peek (suc n) m a = m (a % 2 ^ 64) % 256 + 256 * peek n m (suc a)

-- the low n bytes of a number put there
unfoldable pub poke : (n : ℕ) → Memory → (address value : ℕ) → Memory
poke zero m a v = m
poke (suc n) m a v = poke n (λ x. cond (eqb x (a % 2 ^ 64)) (v % 256) (m x)) (suc a) (v / 256)

-- opens every definition of this file, for an example that computes
unfoldable pub open_memory : Unit {0}
unfolding peek poke
open_memory = tt

-- n bytes hold a number of 8n bits
pub peek_lt : (n : ℕ) (m : Memory) (a : ℕ) → peek n m a < 2 ^ (8 * n)
unfolding peek
peek_lt zero m a = omega arith
peek_lt (suc n) m a = rw (mul-suc, pow-add) (let h = peek_lt n m (suc a) in omega arith)

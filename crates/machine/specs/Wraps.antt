-- "memory (2^64 bytes, wrapping, little-endian)": loads and stores of each size at every address around 2^64; compare-and-swap on two neighbouring cells.
use Rattle.std.specs.Prelude.{ℕ, ◌+◌, ◌-◌, ◌*◌, ◌%◌, ◌^◌, refl, cond, List, [], ◌∷◌, ◌++◌, map, ltb, replicate}
use Rattle.std.proofs.Math.Option.{Option, some}
use Rattle.assembly.specs.Line.{Line, Mem}
use Rattle.machine.specs.Memory.{Memory}
use Rattle.machine.specs.Line.{Effect}
use Rattle.machine.specs.Open.{open_machine}
use Rattle.machine.specs.Sweep.{OnAll, down_from, up_to, pairs, little, open_sweep}
use Rattle.machine.specs.Alone.{on_memory, left, frame_after, open_alone}

-- a size, its load and its store
pub record Access : Type 0 where
  pub size : ℕ
  pub load : Line
  pub store : Line

unfoldable pub accesses : List Access
accesses =
    record { size = 1; load = Line.load Mem.m8; store = Line.store Mem.m8 } ∷
    record { size = 2; load = Line.load Mem.m16; store = Line.store Mem.m16 } ∷
    record { size = 4; load = Line.load Mem.m32; store = Line.store Mem.m32 } ∷
    record { size = 8; load = Line.load Mem.m64; store = Line.store Mem.m64 } ∷
    record { size = 8; load = Line.atomic_load; store = Line.atomic_store } ∷
    []

-- 2^64 - 9 to 2^64 - 1, 0, and 1 to 9
unfoldable pub addresses : List ℕ
unfolding down_from
addresses = map (λ (k : ℕ). 2 ^ 64 - k) (down_from 9) ++ 0 ∷ down_from 9

unfoldable pub tries : List (Access × ℕ)
unfolding pairs accesses addresses
tries = pairs accesses addresses

-- the n addresses from a on
unfoldable pub places : (n a : ℕ) → List ℕ
places n a = map (λ (k : ℕ). (a + k - 1) % 2 ^ 64) (up_to n)

-- at each address stands a byte of its own, with what does not count above it; from 2^64 on there is nothing
unfoldable pub background : Memory
background a = cond (ltb a (2 ^ 64)) ((3 * a + 1) % 256 + 512) 0

-- ---- a load gives the bytes in order, the lowest first
unfoldable pub byte_at : ℕ → ℕ
byte_at a = (3 * a + 1) % 256

pub loads_wrap : OnAll tries
    (λ (t : Access × ℕ). left (on_memory background t.0.load (t.1 ∷ [])))
    (λ (t : Access × ℕ). some (little (map byte_at (places t.0.size t.1)) ∷ []))
unfolding open_machine open_alone open_sweep tries places background byte_at
loads_wrap = refl

-- ---- a store sets these bytes to 129, 130, .., and neither of the bytes beside them
unfoldable pub stored : List ℕ
stored = 129 ∷ 130 ∷ 131 ∷ 132 ∷ 133 ∷ 134 ∷ 135 ∷ 136 ∷ []

unfoldable pub first_of : ℕ → List ℕ
first_of n = map (λ (k : ℕ). 128 + k) (up_to n)

-- one byte before, the n bytes, one behind
unfoldable pub around : (n a : ℕ) → List ℕ
around n a = places (n + 2) (a + 2 ^ 64 - 1)

pub stores_wrap : OnAll tries
    (λ (t : Access × ℕ). map (frame_after (on_memory background t.0.store (little stored ∷ t.1 ∷ []))).memory (around t.0.size t.1))
    (λ (t : Access × ℕ). (background ((t.1 + 2 ^ 64 - 1) % 2 ^ 64) ∷ first_of t.0.size) ++ (background ((t.1 + t.0.size) % 2 ^ 64) ∷ []))
unfolding open_machine open_alone open_sweep tries places background stored first_of around
stores_wrap = refl

-- ---- compare-and-swap: the cell found; the cell and its two neighbours afterwards
unfoldable pub cells : (m : Memory) → (a : ℕ) → List ℕ
cells m a = map (λ (b : ℕ). little (map (λ (p : ℕ). m p % 256) (places 8 b))) ((a + 2 ^ 64 - 8) ∷ a ∷ (a + 8) ∷ [])

unfoldable pub after : Effect → (a : ℕ) → Option (List ℕ) × List ℕ
after f a = (left f, cells (frame_after f).memory a)

-- what stands in the cell at an address
unfoldable pub standing : ℕ → ℕ
unfolding places byte_at
standing a = little (map byte_at (places 8 a))

unfoldable pub swap : (address compared new : ℕ) → Option (List ℕ) × List ℕ
unfolding on_memory background after
swap a c n = after (on_memory background Line.atomic_cas (n ∷ c ∷ a ∷ [])) a

-- with the cell found it stores the new one
pub equal_swaps : OnAll addresses
    (λ (a : ℕ). swap a (standing a) 9)
    (λ (a : ℕ). (some (standing a ∷ []), standing (a + 2 ^ 64 - 8) ∷ 9 ∷ standing (a + 8) ∷ []))
unfolding open_machine open_alone open_sweep addresses places background byte_at cells after standing swap
equal_swaps = refl

-- with one that differs in the lowest byte alone, or in the highest, it stores nothing
pub other_keeps : OnAll addresses
    (λ (a : ℕ). swap a (standing a + 1) 9 ∷ swap a ((standing a + 2 ^ 56) % 2 ^ 64) 9 ∷ [])
    (λ (a : ℕ). replicate 2 (some (standing a ∷ []), standing (a + 2 ^ 64 - 8) ∷ standing a ∷ standing (a + 8) ∷ []))
unfolding open_machine open_alone open_sweep addresses places background byte_at cells after standing swap
other_keeps = refl

-- A rule of a table, proved at all of its entries by one test that is computed.
use Rattle.std.specs.Prelude.{ℕ, zero, suc, ◌+◌, ◌<◌, ◌≡◌, Bool, true, ◌&&◌, List, [], ◌∷◌, length, get_or}
use Rattle.std.proofs.Common.{arith}
use Rattle.names.specs.Tests.{both}

-- the test passes at each place, counted from i, and the entry there
abbrev pub every : (ℕ → ℕ → Bool) → ℕ → List ℕ → Bool
every f i [] = true
every f i (x ∷ xs) = f i x && every f (suc i) xs

from : (f : ℕ → ℕ → Bool) (xs : List ℕ) (i : ℕ) → every f i xs ≡ true → (k : ℕ) → k < length xs → f (i + k) (get_or xs k 0) ≡ true
from f [] i t k h = absurd (omega arith)
from f (x ∷ xs) i t zero h =
    let z : i + 0 ≡ i = omega arith in
    rw z (both (f i x) (every f (suc i) xs) t).0
from f (x ∷ xs) i t (suc k) h =
    let z : i + suc k ≡ suc i + k = omega arith in
    rw z (from f xs (suc i) (both (f i x) (every f (suc i) xs) t).1 k (omega arith))

pub holds : (f : ℕ → ℕ → Bool) (xs : List ℕ) → every f 0 xs ≡ true → (k : ℕ) → k < length xs → f k (get_or xs k 0) ≡ true
holds f xs t k h = let z : 0 + k ≡ k = omega arith in rw z at (from f xs 0 t k h)

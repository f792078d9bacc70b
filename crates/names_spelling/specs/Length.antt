-- How long a character is, as the code answers it: where the definition says 0 there is none.
use Rattle.std.specs.Prelude.{ℕ, zero, suc, ◌+◌, ◌<◌, ◌≡◌, refl, Some, None}
use Rattle.std.proofs.Common.{arith, add-one}
use Rattle.std.specs.declared.option.Option.{Option}

abbrev pub some_length : ℕ → Option ℕ
some_length zero = None
some_length (suc n) = Some (suc n)

-- what is answered for a number
pub none_answered : (n : ℕ) → n ≡ 0 → None ≡ some_length n
none_answered n e = rw e

pub some_answered : (n m : ℕ) → n ≡ m + 1 → Some (m + 1) ≡ some_length n
some_answered n m e = rw (e, add-one)

-- and what an answer says of it
pub no_length : (n : ℕ) → None ≡ some_length n → n ≡ 0
no_length zero e = refl
no_length (suc n) e = absurd (let z : ◌≡◌ {A = ℕ} 0 1 = cc in omega arith)

pub a_length : (n m : ℕ) → Some m ≡ some_length n → (m ≡ n) × (0 < m)
a_length zero m e = absurd (let z : ◌≡◌ {A = ℕ} 0 1 = cc in omega arith)
a_length (suc n) m e = let q : m ≡ suc n = cc in (q, omega arith)

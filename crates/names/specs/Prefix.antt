-- The numbers of the names that start with a prefix, such as the `llvm.` of document 01's refusal 3. Names ascend ("The book"), so these
-- numbers are a range: from `firstWith` up to and without `pastWith`. Where no name starts so, both are the number of names.
use Rattle.std.specs.Prelude.{ℕ, suc, ◌≡◌, cond, List, [], ◌∷◌}
use Rattle.names.specs.Text.{starts}

-- how many names stand before the first that starts with p
unfoldable pub first_with : List ℕ → List (List ℕ) → ℕ
first_with p [] = 0
first_with p (n ∷ ns) = cond (starts p n) 0 (suc (first_with p ns))

-- how many names at the front start with p
unfoldable pub run_with : List ℕ → List (List ℕ) → ℕ
run_with p [] = 0
run_with p (n ∷ ns) = cond (starts p n) (suc (run_with p ns)) 0

-- how many names stand up to the end of the first run of those that start with p
unfoldable pub past_with : List ℕ → List (List ℕ) → ℕ
past_with p [] = 0
past_with p (n ∷ ns) = suc (cond (starts p n) (run_with p ns) (past_with p ns))

-- the range of the names that start with p: its first number, and the number after its last
pub record PrefixRange (p : List ℕ) (ns : List (List ℕ)) (from to : ℕ) : Type 0 where
  pub first : from ≡ first_with p ns
  pub past : to ≡ past_with p ns

-- opens every definition of this file, for an example that computes
unfoldable pub open_prefix : Unit {0}
unfolding first_with run_with past_with
open_prefix = tt

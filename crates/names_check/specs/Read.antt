-- The answer of the pass over a slice of names.
use Rattle.std.specs.Prelude.{ℕ, ◌≡◌, refl, Bool, true, false, Some, None}
use Rattle.std.proofs.Common.{ap, sym, arith}
use Rattle.std.specs.Bool.{then_some}
use Rattle.std.specs.declared.option.Option.{Option}
use Rattle.std.specs.declared.ops.Range.{Range}

-- a list of names, with the range of those that start with a prefix; or no such list
abbrev pub Names : Type 0
Names = Option (Range ℕ)

abbrev pub Sorted : ℕ → ℕ → Names
Sorted from to = Some (record { start = from; end = to })

abbrev pub Bad : Names
Bad = None

-- where the slice is a list of names: the range of those that start with a prefix
abbrev pub names_read : Bool → ℕ → ℕ → Names
names_read true from to = Sorted from to
names_read false from to = Bad

pub some_read : (t : Bool) (from to : ℕ) → then_some t (record { start = from; end = to }) ≡ names_read t from to
some_read true from to = refl
some_read false from to = refl

range_in : Names → Range ℕ
range_in (Some r) = r
range_in None = record { start = 0; end = 0 }

-- which of the two it is
pub sorted_read : (t : Bool) (f p from to : ℕ) → names_read t f p ≡ Sorted from to → (t ≡ true) × ((from ≡ f) × (to ≡ p))
unfolding range_in
sorted_read true f p from to e = (refl, (ap (λ (n : Names). (range_in n).start) (sym e), ap (λ (n : Names). (range_in n).end) (sym e)))
sorted_read false f p from to e = absurd (let z : ◌≡◌ {A = ℕ} 0 1 = cc in omega arith)

pub bad_read : (t : Bool) (f p : ℕ) → names_read t f p ≡ Bad → t ≡ false
bad_read true f p e = absurd (let z : ◌≡◌ {A = ℕ} 0 1 = cc in omega arith)
bad_read false f p e = refl

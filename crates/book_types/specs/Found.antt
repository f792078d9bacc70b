-- The answers of the readers that look for what is forbidden, from what is read and a test of it.
use Rattle.std.specs.Prelude.{ℕ, ◌+◌, Bool, false, ◌||◌, Option, Some, None, List, drop}
use Rattle.std.specs.Bool.{then_some}
use Rattle.book.specs.Entry.{Entry}
use Rattle.book.specs.Read.{Read, got, bad}
use Rattle.book.specs.Forbidden.{any}
use Rattle.book_types.specs.declared.Found.{Found}

-- so many entries, and whether something in them is forbidden
abbrev pub found : ℕ → Bool → Found
found n b = record { entries = n; barred = b }

-- entries in which nothing is forbidden
abbrev pub plain : ℕ → Found
plain n = found n false

-- two parts one after the other
abbrev pub after : Found → Found → Found
after f g = found (f.entries + g.entries) (f.barred || g.barred)

-- the number of entries, and whether what was read passes the test
abbrev pub found_of : {A : Type 0} → (A → Bool) → Read A → Option Found
found_of t (got a n) = Some (found n (t a))
found_of t bad = None

-- with n entries more in front, of which the test says b
abbrev pub joined : ℕ → Bool → Option Found → Option Found
joined n b (Some f) = Some (after (found n b) f)
joined n b None = None

-- a part at the front of the entries, then what is read behind it
abbrev pub followed_by : Option Found → (List Entry → Option Found) → List Entry → Option Found
followed_by (Some f) k es = joined f.entries f.barred (k (drop f.entries es))
followed_by None k es = None

-- one entry or none
abbrev pub one_if : Bool → Bool → Option Found
one_if b x = then_some b (found 1 x)

-- of items and their end
abbrev pub all_test : {A B : Type 0} → (A → Bool) → (B → Bool) → List A × B → Bool
all_test ta tb r = any ta r.0 || tb r.1

-- of two parts
abbrev pub pair_test : {A B : Type 0} → (A → Bool) → (B → Bool) → A × B → Bool
pair_test ta tb r = ta r.0 || tb r.1

abbrev pub never : {A : Type 0} → A → Bool
never a = false

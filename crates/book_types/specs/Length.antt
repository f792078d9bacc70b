-- The answers of the readers, from what is read.
use Rattle.std.specs.Prelude.{ℕ, ◌+◌, Option, Some, None, List, [], ◌∷◌}
use Rattle.book.specs.Entry.{Entry}
use Rattle.book.specs.Read.{Read, got, bad}

-- the number of entries
abbrev pub len_of : {A : Type 0} → Read A → Option ℕ
len_of (got a n) = Some n
len_of bad = None

-- with n entries more in front
abbrev pub further : ℕ → Option ℕ → Option ℕ
further n (Some k) = Some (n + k)
further n None = None

-- the kind and the word of the entry in front
unfoldable pub front_of : List Entry → Option (ℕ × ℕ)
front_of [] = None
front_of (e ∷ es) = Some (e.kind, e.word)

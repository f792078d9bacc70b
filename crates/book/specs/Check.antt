-- "Order: 1, 2, 3, 4 over the whole book": what the lent book, names, counter and work length are before a translation.
use Rattle.std.specs.Prelude.{ℕ, ◌+◌, ◌*◌, ◌^◌, not, List, leb}
use Rattle.book.specs.Ast.{Book}
use Rattle.book.specs.Result.{Result, ok, err, bind as ◌>>=◌, ok_or, given, require}
use Rattle.book.specs.Input.{book_in, names_in}
use Rattle.book.specs.Forbidden.{forbidden}

-- a sound book, with its names in order
pub record Sound : Type 0 where
  pub names : List (List ℕ)
  pub book : Book

-- "a u64 work slice of at least 8 × names + 64"
abbrev pub work_for : ℕ → ℕ
work_for m = 8 * m + 64

unfoldable pub checked : (book names : List ℕ) → (counter workLen : ℕ) → Result Sound
checked book names counter workLen = do
  b ← ok_or 1 (book_in book)
  _ ← require (leb counter (2 ^ 32)) 1
  ns ← ok_or 2 (names_in b.count names)
  _ ← require (not (forbidden ns b.book)) 3
  given (leb (work_for b.count) workLen) 4 (record { names = ns; book = b.book })

-- the number of the refusal, 0 for a sound book
unfoldable pub refusal_of : {A : Type 0} → Result A → ℕ
refusal_of (ok a) = 0
refusal_of (err e) = e

-- opens every definition of this file, for an example that computes
unfoldable pub open_check : Unit {0}
unfolding checked refusal_of
open_check = tt

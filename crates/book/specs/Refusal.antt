-- The refusals by document 01's numbers.
use Rattle.std.specs.Prelude.{ℕ, ◌≡◌, ◌<◌, ◌⊎◌, Result, MatchResult}
use Rattle.std.proofs.Common.{arith}
use Rattle.book.specs.declared.refusal.Refusal.{Refusal}
use Rattle.book.specs.declared.refusal.UnknownRefusal.{UnknownRefusal}
use Rattle.book.specs.declared.refusal.Refusal.TheVariants as refusal

abbrev pub number_of : Refusal → ℕ
number_of refusal.Book = 1
number_of refusal.Names = 2
number_of refusal.Forbidden = 3
number_of refusal.Work = 4
number_of refusal.NoResultName = 5
number_of refusal.NoSize = 6
number_of refusal.TooLarge = 7
number_of refusal.TooManySlots = 8
number_of refusal.NotInteger = 9
number_of refusal.UnknownLocal = 10
number_of refusal.AccessSize = 11
number_of refusal.AtomicSize = 12
number_of refusal.SignExtension = 13
number_of refusal.GepStep = 14
number_of refusal.Call = 15
number_of refusal.ExtractValue = 16
number_of refusal.UnknownBlock = 17
number_of refusal.PhiLacksPredecessor = 18
number_of refusal.NoFalseTarget = 19
number_of refusal.NoRoom = 20
number_of refusal.BadLine = 21

-- none is 0
pub number_positive : (e : Refusal) → 0 < number_of e
number_positive refusal.Book = omega arith
number_positive refusal.Names = omega arith
number_positive refusal.Forbidden = omega arith
number_positive refusal.Work = omega arith
number_positive refusal.NoResultName = omega arith
number_positive refusal.NoSize = omega arith
number_positive refusal.TooLarge = omega arith
number_positive refusal.TooManySlots = omega arith
number_positive refusal.NotInteger = omega arith
number_positive refusal.UnknownLocal = omega arith
number_positive refusal.AccessSize = omega arith
number_positive refusal.AtomicSize = omega arith
number_positive refusal.SignExtension = omega arith
number_positive refusal.GepStep = omega arith
number_positive refusal.Call = omega arith
number_positive refusal.ExtractValue = omega arith
number_positive refusal.UnknownBlock = omega arith
number_positive refusal.PhiLacksPredecessor = omega arith
number_positive refusal.NoFalseTarget = omega arith
number_positive refusal.NoRoom = omega arith
number_positive refusal.BadLine = omega arith

-- no refusal has this number
abbrev pub Unnumbered : ℕ → Type 0
Unnumbered n = (n ≡ 0) ⊎ (21 < n)

-- the refusal that has this number, or an error with a number that none has
abbrev pub Numbered : ℕ → Result Refusal UnknownRefusal → Type 0
Numbered n r = MatchResult r (λ e. number_of e ≡ n) (λ u. (u.0 ≡ n) × Unnumbered n)

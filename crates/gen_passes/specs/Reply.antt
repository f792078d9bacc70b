-- Document 01's number and values of an answer.
use Rattle.std.specs.Prelude.{ℕ, ◌≡◌, refl, Bool, true, false, eqb, Result, Ok, Err}
use Rattle.std.proofs.Common.{arith, ne_eqb}
use Rattle.book.specs.Refusal as refusal
use Rattle.book.specs.declared.refusal.Refusal.{Refusal}
use Rattle.lowering.specs.Numbers.{is_refusal, refusal_range}
use Rattle.gen_passes.specs.declared.Translation.{Translation}

abbrev pub Reply : Type 0
Reply = Result Translation Refusal

-- the refusal's number, 0 for none
abbrev pub number_of : Reply → ℕ
number_of (Ok t) = 0
number_of (Err e) = refusal.number_of e

-- how many lines there are, 0 where it is refused
abbrev pub lines_of : Reply → ℕ
lines_of (Ok t) = t.lines
lines_of (Err e) = 0

-- the next counter, the given one where it is refused
abbrev pub counter_of : (given : ℕ) → Reply → ℕ
counter_of given (Ok t) = t.counter
counter_of given (Err e) = given

-- whether it is accepted
abbrev pub is_accepted : Reply → Bool
is_accepted (Ok t) = true
is_accepted (Err e) = false

-- a refusal is one of 1 to 20
abbrev pub Numbered : Reply → Type 0
Numbered (Ok t) = Unit {0}
Numbered (Err e) = is_refusal (refusal.number_of e) ≡ true

-- so the number is 0 exactly where the answer is accepted
pub zero_accepted : (r : Reply) → Numbered r → eqb (number_of r) 0 ≡ is_accepted r
zero_accepted (Ok t) h = refl
zero_accepted (Err e) h = let l = refusal_range (refusal.number_of e) h in ne_eqb (refusal.number_of e) 0 (λ z. omega arith)

-- a count, or a refusal by its number
abbrev pub by_number : Result ℕ Refusal → Result ℕ ℕ
by_number (Ok n) = Ok n
by_number (Err e) = Err (refusal.number_of e)

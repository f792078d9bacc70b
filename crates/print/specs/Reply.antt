-- Document 01's number and values of the printer's answer.
use Rattle.std.specs.Prelude.{ℕ, ◌≡◌, refl, Bool, true, false, List, Result, Ok, Err, eqb}
use Rattle.std.proofs.Common.{sym, ne_eqb}
use Rattle.assembly.specs.Numbers.{is_refusal, refusal_some, print_numbered}
use Rattle.assembly.specs.Numbers as law
use Rattle.assembly.specs.Printer.{Printing, printed_number, printed_bytes, print}
use Rattle.assembly.specs.Printer as definition
use Rattle.book.specs.declared.refusal.Refusal.{Refusal}
use Rattle.book.specs.Refusal.{number_of as refusal_number}

-- the refusal's number, 0 for none
abbrev pub number_of : Result ℕ Refusal → ℕ
number_of (Ok n) = 0
number_of (Err e) = refusal_number e

-- how many bytes were put, 0 where it is refused
abbrev pub bytes_of : Result ℕ Refusal → ℕ
bytes_of (Ok n) = n
bytes_of (Err e) = 0

-- whether it is accepted
abbrev pub is_accepted : Result ℕ Refusal → Bool
is_accepted (Ok n) = true
is_accepted (Err e) = false

-- a refusal is one of 1, 2, 20 and 21
abbrev pub Numbered : Result ℕ Refusal → Type 0
Numbered (Ok n) = Unit {0}
Numbered (Err e) = is_refusal (refusal_number e) ≡ true

-- so the number is 0 exactly where the answer is accepted
pub zero_accepted : (r : Result ℕ Refusal) → Numbered r → eqb (number_of r) 0 ≡ is_accepted r
zero_accepted (Ok n) h = refl
zero_accepted (Err e) h = ne_eqb (refusal_number e) 0 (refusal_some (refusal_number e) h)

-- the refusal's number, 0 for none; how many bytes, 0 where refused; and the text slice after the call: each is what the definition of the whole call says
pub record PrintAnswers (p : Printing) (e n : ℕ) (t : List ℕ) : Type 0 where
  pub number : e ≡ printed_number p.reply
  pub bytes : n ≡ printed_bytes p.reply
  pub text : t ≡ p.text

-- those of the code's answer
abbrev pub PrintAnswer : Printing → Result ℕ Refusal → List ℕ → Type 0
PrintAnswer p r t = PrintAnswers p (number_of r) (bytes_of r) t

-- ---- the same case by case, for the functions that the call is made of
abbrev pub Replied : definition.Printed → Result ℕ Refusal → Type 0
Replied (definition.Printed.accepted n) (Ok m) = m ≡ n
Replied (definition.Printed.accepted n) (Err e) = ⊥
Replied (definition.Printed.refused x) (Ok m) = ⊥
Replied (definition.Printed.refused x) (Err e) = refusal_number e ≡ x

pub record Prints (p : Printing) (r : Result ℕ Refusal) (t : List ℕ) : Type 0 where
  pub reply : Replied p.reply r
  pub text : t ≡ p.text

module _ {p : Printing} {r : Result ℕ Refusal} {t : List ℕ} where
  pub prints_answer : Prints p r t → PrintAnswer p r t
  unfolding printed_number printed_bytes
  prints_answer h = let q = go p.reply r h.reply in record { number = q.0; bytes = q.1; text = h.text }
    where
      go : (d : definition.Printed) (r : Result ℕ Refusal) → Replied d r → (number_of r ≡ printed_number d) × (bytes_of r ≡ printed_bytes d)
      go (definition.Printed.accepted n) (Ok m) e = (refl, e)
      go (definition.Printed.accepted n) (Err k) e = absurd e
      go (definition.Printed.refused x) (Ok m) e = absurd e
      go (definition.Printed.refused x) (Err k) e = (e, refl)

  pub prints_numbered : law.Numbered p.reply → Prints p r t → Numbered r
  prints_numbered l h = go p.reply r l h.reply
    where
      go : (d : definition.Printed) (r : Result ℕ Refusal) → law.Numbered d → Replied d r → Numbered r
      go (definition.Printed.accepted n) (Ok m) l e = tt
      go (definition.Printed.accepted n) (Err k) l e = absurd e
      go (definition.Printed.refused x) (Ok m) l e = tt
      go (definition.Printed.refused x) (Err k) l e = rw e l

-- an answer to the whole call
module _ (book names kinds operands text : List ℕ) {r : Result ℕ Refusal} {t : List ℕ} where
  pub prints_both : Prints (print book names kinds operands text) r t → PrintAnswer (print book names kinds operands text) r t × Numbered r
  prints_both h = (prints_answer h, prints_numbered (print_numbered book names kinds operands text) h)

  pub answer_prints : PrintAnswer (print book names kinds operands text) r t → Numbered r → Prints (print book names kinds operands text) r t
  unfolding printed_number printed_bytes
  answer_prints a s = record { reply = go (print book names kinds operands text).reply (print_numbered book names kinds operands text) r s a.number a.bytes; text = a.text }
    where
      go : (d : definition.Printed) → law.Numbered d → (r : Result ℕ Refusal) → Numbered r → number_of r ≡ printed_number d → bytes_of r ≡ printed_bytes d → Replied d r
      go (definition.Printed.accepted n) l (Ok m) s i j = j
      go (definition.Printed.accepted n) l (Err e) s i j = absurd (refusal_some (refusal_number e) s i)
      go (definition.Printed.refused x) l (Ok m) s i j = absurd (refusal_some x l (sym i))
      go (definition.Printed.refused x) l (Err e) s i j = i

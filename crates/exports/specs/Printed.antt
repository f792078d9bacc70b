-- The printer's answer in numbers.
use Rattle.std.specs.Prelude.{ℕ, ◌≡◌, List, Result, Ok, Err}
use Rattle.std.proofs.Common.{subst}
use Rattle.assembly.specs.Printer.{Printing}
use Rattle.print.specs.Reply.{PrintAnswers, PrintAnswer}
use Rattle.book.specs.declared.refusal.Refusal.{Refusal}
use Rattle.book.specs.Refusal.{number_of as refusal_number}

module _ (p : Printing) (r : Result ℕ Refusal) (t : List ℕ) (a : PrintAnswer p r t) where
  pub accepted_is : (n : ℕ) → r ≡ Ok n → PrintAnswers p 0 n t
  accepted_is n h = subst (λ (q : Result ℕ Refusal). PrintAnswer p q t) h a

  pub refused_is : (e : Refusal) → r ≡ Err e → PrintAnswers p (refusal_number e) 0 t
  refused_is e h = subst (λ (q : Result ℕ Refusal). PrintAnswer p q t) h a

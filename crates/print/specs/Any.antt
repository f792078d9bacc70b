-- Any slice: it is a sound book's, or it is refused with 1.
use Rattle.std.specs.Prelude.{ℕ, ◌≡◌, Bool, true, List, Err}
use Rattle.std.proofs.Math.Path.{refl}
use Rattle.std.proofs.Common.{sym, ◌∙◌}
use Rattle.std.proofs.Math.Bool.{false}
use Rattle.std.proofs.lemmas.Bool.{false≢true}
use Rattle.std.proofs.Math.Option.{Option, none, some}
use Rattle.book.specs.Input.{Counted, book_in, names_in}
use Rattle.book_check.specs.Whole as whole
use Rattle.assembly.specs.Printer.{refusing, needed, print_lines, print}
use Rattle.print_forms.specs.Allowed.{is_some}
use Rattle.print.specs.Reply.{Prints}
use Rattle.print.specs.Book.{Booked}
use Rattle.book.specs.declared.refusal.Refusal.TheVariants as refusal

module _ (book : List ℕ) (t : Bool) (e : t ≡ whole.there (book_in book)) where
  pub is_booked : t ≡ true → Booked book
  is_booked f = record { some = go (book_in book) (sym e ∙ f) }
    where
      go : (o : Option Counted) → whole.there o ≡ true → is_some o ≡ true
      go none h = h
      go (some b) h = refl

  pub no_book : (bs kinds operands text : List ℕ) → t ≡ false → Prints (print book bs kinds operands text) (Err refusal.Book) text
  unfolding print needed refusing
  no_book bs kinds operands text f = go (book_in book) (sym e ∙ f)
    where
      go : (o : Option Counted) → whole.there o ≡ false
          → Prints (needed 1 text o (λ b. needed 2 text (names_in b.count bs) (λ ns. print_lines ns b.book kinds operands text))) (Err refusal.Book) text
      go none h = record { reply = refl; text = refl }
      go (some b) h = absurd (false≢true (sym h))

-- The text of a line, in the parts that the code puts.
use Rattle.std.specs.Prelude.{ℕ, ◌+◌, ◌/◌, ◌%◌, ◌≤◌, ◌<◌, ◌≡◌, Bool, length, drop, eqb, leb, ltb}
use Rattle.std.proofs.Math.Path.{refl, sym}
use Rattle.std.proofs.Common.{ap, ◌∙◌, arith}
use Rattle.std.proofs.Math.Logic.{⊎_elim}
use Rattle.std.proofs.Math.Bool.{true, false}
use borrow.Author.Tests.{le-leb, lt-leb, ne_eqb}
use mathlib.Core.List.{List, [], ◌++◌}
use Rattle.numbers.specs.Digits.{decimal}
use Rattle.numbers.specs.Tests.{lt_or_le}
use Rattle.names.specs.Text.{bytes}
use Rattle.names.specs.Name.{name_at}
use Rattle.names.specs.Spelling.{sanitize}
use Rattle.print_forms.specs.Forms.{form_of, number_form, name_form, pick_form}
use Rattle.print_words.specs.Ends.{ending, params_text}
use Rattle.print_pen.specs.Pen.{pick_bytes}
use Rattle.print_words.specs.Words.{word}
use Rattle.print_words.specs.Plain.{plain_text, plain_bare, plain_number}
use Rattle.print_forms.specs.declared.Form.{Form}
use Rattle.print_forms.specs.declared.Form.TheVariants as form

module _ (ns : List (List ℕ)) (fname : List ℕ) where
  abbrev pub operand_text : Form → ℕ → List ℕ
  operand_text form.Comment x = []
  operand_text form.Name x = sanitize (name_at ns x)
  operand_text form.Block x = sanitize fname ++ (bytes "__" ++ sanitize (name_at ns x))
  operand_text form.Call x = sanitize (name_at ns (x / 256)) ++ (bytes ", " ++ decimal (x % 256))
  operand_text form.Syscall x = drop 6 (name_at ns x)
  operand_text form.Count x = decimal x
  operand_text form.Any x = decimal x
  operand_text form.Slot x = decimal x
  operand_text form.Args x = decimal x
  operand_text form.Bare x = []
  operand_text form.Unknown x = []

  unfoldable pub parts_text : ℕ → ℕ → List ℕ
  parts_text k x = word k ++ (operand_text (form_of k) x ++ ending k)

-- a function's opening comment, from its name, the text of its return type and the number of its parameters
unfoldable pub comment : (fname ty : List ℕ) → ℕ → List ℕ
comment fname ty n = bytes "# " ++ (ty ++ (bytes " @" ++ (fname ++ params_text n)))

-- a line of kind k and operand x
unfoldable pub printed : List (List ℕ) → (fname ty : List ℕ) → (params k x : ℕ) → List ℕ
printed ns fname ty n k x = pick_bytes (leb 21 k) (word k) (pick_bytes (eqb k 0) (comment fname ty n) (parts_text ns fname k x))

-- ---- a line whose operand is a number or none
module _ (ns : List (List ℕ)) (fname : List ℕ) (k x : ℕ) where
  number_text : 7 ≤ k → k < 21 → decimal x ≡ operand_text ns fname (form_of k) x
  unfolding form_of number_form
  number_text h g = rw (lt-leb 21 k g) (go (leb 13 k))
    where
      slot : (t : Bool) → decimal x ≡ operand_text ns fname (pick_form t form.Slot form.Args) x
      slot true = refl
      slot false = refl

      any : (t : Bool) → decimal x ≡ operand_text ns fname (pick_form t form.Any (pick_form (ltb k 12) form.Slot form.Args)) x
      any true = refl
      any false = slot (ltb k 12)

      count : (t : Bool) → decimal x ≡ operand_text ns fname (pick_form t form.Count (pick_form (ltb k 10) form.Any (pick_form (ltb k 12) form.Slot form.Args))) x
      count true = refl
      count false = any (ltb k 10)

      go : (t : Bool) → decimal x ≡ operand_text ns fname (pick_form t form.Any (pick_form (leb 7 k) (number_form k) (name_form k))) x
      go true = refl
      go false = rw (le-leb 7 k h) (count (eqb k 7))

  pub plain_printed : (ty : List ℕ) (n : ℕ) → 7 ≤ k → plain_text k x ≡ printed ns fname ty n k x
  unfolding printed parts_text
  plain_printed ty n h =
      ⊎_elim (λ g. sym (plain_number k x g) ∙ rw (lt-leb 21 k g, ne_eqb k 0 (λ z. omega arith)) (ap (λ (l : List ℕ). word k ++ (l ++ ending k)) (number_text h g)))
      (λ g. sym (plain_bare k x g) ∙ rw (le-leb 21 k g))
      (lt_or_le k 21)

  pub plain_fits : (ty : List ℕ) (n at end : ℕ) → at + length (printed ns fname ty n k x) ≤ end → 7 ≤ k → at + length (plain_text k x) ≤ end
  plain_fits ty n at end h g = rw (plain_printed ty n g) h

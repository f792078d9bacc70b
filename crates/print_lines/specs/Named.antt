-- How many bytes a line of kind 1 to 6 has: those of the name that it names, and those around it.
use Rattle.std.specs.Prelude.{ℕ, ◌+◌, ◌-◌, ◌/◌, ◌%◌, ◌≤◌, ◌<◌, ◌≡◌, refl, Bool, true, false, cond, ◌&&◌, List, ◌++◌, eqb, leb, length}
use native.Mathlib.Omega.{arith}
use borrow.Author.Tests.{lt-leb, ne_eqb}
use Rattle.std.proofs.Math.ListN.{length-append, length-drop}
use Rattle.numbers.specs.Digits.{decimal}
use Rattle.names.specs.Text.{bytes}
use Rattle.names.specs.Name.{name_at}
use Rattle.names.specs.Spelling.{sanitize}
use Rattle.book_types.specs.Tables.{From, in_range_lem}
use Rattle.print_forms.specs.Forms.{form_of, name_form}
use Rattle.print_forms.specs.All.{Ready}
use Rattle.print_words.specs.Ends.{ending}
use Rattle.print_words.specs.Words.{word}
use Rattle.print_words.specs.Plain.{end_long}
use Rattle.print_lines.specs.Lines.{operand_text, parts_text, printed}

-- the number of the name
unfoldable pub named_by : (k x : ℕ) → ℕ
named_by k x = cond (eqb k 5) (x / 256) x

-- how many bytes it has in the line: a syscall's all but the first six, the others' as a label spells them
unfoldable pub spelled : (k : ℕ) (n : List ℕ) → ℕ
spelled k n = cond (eqb k 6) (length n - 6) (length (sanitize n))

-- the bytes around it, where the function's label has f
unfoldable pub around : (f k x : ℕ) → ℕ
around f k x = length (word k) + cond (leb 2 k && leb k 3) (f + 2) 0 + cond (eqb k 5) (length (decimal (cond (eqb k 5) (x % 256) 0)) + 2) 0 + 2

two : length (bytes "__") ≡ 2
unfolding bytes
two = refl

comma : length (bytes ", ") ≡ 2
unfolding bytes
comma = refl

module _ (ns : List (List ℕ)) (fname : List ℕ) (x : ℕ) where
  abbrev Long : ℕ → Type 0
  Long k = length (parts_text ns fname k x) ≡ spelled k (name_at ns (named_by k x)) + around (length (sanitize fname)) k x

  parts_long : (k : ℕ) → length (parts_text ns fname k x) ≡ length (word k) + length (operand_text ns fname (form_of k) x) + 2
  unfolding parts_text
  parts_long k =
      omega (
        arith,
        length-append (word k) (operand_text ns fname (form_of k) x ++ ending k),
        length-append (operand_text ns fname (form_of k) x) (ending k),
        end_long k,
      )

  block_long : (n : List ℕ) → length (sanitize fname ++ (bytes "__" ++ sanitize n)) ≡ length (sanitize fname) + 2 + length (sanitize n)
  block_long n =
      omega (
        arith,
        length-append (sanitize fname) (bytes "__" ++ sanitize n),
        length-append (bytes "__") (sanitize n),
        two,
      )

  call_long : (n : List ℕ) (a : ℕ) → length (sanitize n ++ (bytes ", " ++ decimal a)) ≡ length (sanitize n) + 2 + length (decimal a)
  call_long n a =
      omega (
        arith,
        length-append (sanitize n) (bytes ", " ++ decimal a),
        length-append (bytes ", ") (decimal a),
        comma,
      )

  kinds_long : From Long 1 6
  unfolding form_of name_form named_by spelled around
  kinds_long = (
    omega (arith, parts_long 1),
    (
      omega (arith, parts_long 2, block_long (name_at ns x)),
      (
        omega (arith, parts_long 3, block_long (name_at ns x)),
        (
          omega (arith, parts_long 4),
          (
            omega (arith, parts_long 5, call_long (name_at ns (x / 256)) (x % 256)),
            (omega (arith, parts_long 6, length-drop 6 (name_at ns x)), tt),
          ),
        ),
      ),
    ),
  )

  pub named_long : (k : ℕ) → 1 ≤ k → k < 7 → Long k
  named_long k h g = in_range_lem Long 1 6 kinds_long k h g

  -- it is the line's text
  pub named_printed : (ty : List ℕ) (params k : ℕ) → 1 ≤ k → k < 7 → parts_text ns fname k x ≡ printed ns fname ty params k x
  unfolding printed
  named_printed ty params k h g =
      let low : k < 21 = omega arith in
      rw (lt-leb 21 k low, ne_eqb k 0 (λ z. omega arith))

-- the name is there
module _ (ns : List (List ℕ)) (x : ℕ) where
  abbrev There : ℕ → Type 0
  There k = Ready (form_of k) ns x → named_by k x < length ns

  kinds_there : From There 1 6
  unfolding form_of name_form named_by
  kinds_there = (λ r. r, (λ r. r, (λ r. r, (λ r. r, (λ r. r, (λ r. r.0, tt))))))

  named_there : (k : ℕ) → 1 ≤ k → k < 7 → There k
  named_there k h g = in_range_lem There 1 6 kinds_there k h g

  -- a syscall's has the bytes that are left out
  syscall_there : Ready (form_of 6) ns x → 6 ≤ length (name_at ns (named_by 6 x))
  unfolding form_of name_form named_by
  syscall_there r = r.1

-- ---- as the code finds it
pub pick_most : (t : Bool) (a : ℕ) → cond t a 0 ≤ a
pick_most true a = omega arith
pick_most false a = omega arith

-- the name of number y
module _ (ns : List (List ℕ)) (k x : ℕ) (h : 1 ≤ k) (g : k < 7) (y : ℕ) (e : y ≡ cond (eqb k 5) (x / 256) x) where
  pub name_inside : Ready (form_of k) ns x → y < length ns
  unfolding named_by
  name_inside r = rw e (named_there ns x k h g r)

  module _ (name : List ℕ) (f : name ≡ name_at ns y) where
    pub skip_fits : Ready (form_of k) ns x → k ≡ 6 → 6 ≤ length name
    unfolding named_by
    skip_fits r z = rw (f, e, z) (syscall_there ns x (rw z at r))

    -- its bytes and those around it
    pub line_long : (fname : List ℕ) (label s rest : ℕ) → label ≡ length (sanitize fname) → s ≡ spelled k name → rest ≡ around label k x
        → length (parts_text ns fname k x) ≡ s + rest
    unfolding named_by
    line_long fname label s rest l d i = rw (d, i, l, f, e) (named_long ns fname x k h g)

-- The forms of kinds, and which lines may stand: of kind 0, the comment; of kind 1 to 6, which name something; of kind 7 or more, whose operand is a number or none.
use Rattle.std.specs.Prelude.{ℕ, ◌/◌, ◌≤◌, ◌<◌, ◌≡◌, refl, true, false, cond, ◌&&◌, ◌||◌, eqb, leb, ltb}
use Rattle.std.proofs.Math.Logic.{⊎_elim}
use Rattle.std.proofs.lemmas.Bool.{false≢true}
use native.Mathlib.Omega.{arith}
use borrow.Author.Tests.{eqb-true, leb-true, eq-eqb, ne_eqb, le-leb, lt-ltb, le-ltb}
use Rattle.numbers.specs.Tests.{lt_or_le}
use Rattle.names.specs.Tests.{agree}
use Rattle.book_types.specs.Tables.{From, in_range_lem}
use Rattle.print_forms.specs.Forms.{number_form, name_form, form_of, allowed_by, most_of}
use Rattle.print_forms.specs.declared.Form.TheVariants as form

pub bare_form : (k : ℕ) → 21 ≤ k → k < 94 → form_of k ≡ form.Bare
unfolding form_of
bare_form k h g = rw (le-leb 21 k h, lt-ltb k 94 g)

comment_form : (k : ℕ) → k < 1 → form_of k ≡ form.Comment
unfolding form_of name_form
comment_form k h = let z : k ≡ 0 = omega arith in rw z

pub unknown_form : (k : ℕ) → 94 ≤ k → form_of k ≡ form.Unknown
unfolding form_of
unknown_form k h = let z : 21 ≤ k = omega arith in rw (le-leb 21 k z, le-ltb k 94 h)

-- a line that may stand is of a known kind
pub known_form : (k x m function from to : ℕ) → allowed_by (form_of k) x m function from to ≡ true → k < 94
known_form k x m function from to h = ⊎_elim (λ g. g) (λ g. absurd (false≢true (rw (unknown_form k g) at h))) (lt_or_le k 94)

-- ---- a line of kind 0
module _ (k x m function from to : ℕ) (h : k < 1) where
  pub comment_stands : x ≡ function → allowed_by (form_of k) x m function from to ≡ true
  comment_stands e = rw (comment_form k h) (eq-eqb x function e)

  pub comment_barred : (x ≡ function → ⊥) → allowed_by (form_of k) x m function from to ≡ false
  comment_barred e = rw (comment_form k h) (ne_eqb x function e)

-- ---- a line of kind 1 to 6
module _ (x names function from to : ℕ) where
  abbrev Name : ℕ → Type 0
  Name k = (leb (cond (eqb k 6) from 0) (cond (eqb k 5) (x / 256) x) && ltb (cond (eqb k 5) (x / 256) x) (cond (eqb k 6) to names)) ≡ allowed_by (form_of k) x names function from to

  any_name : (y : ℕ) → (leb 0 y && ltb y names) ≡ ltb y names
  any_name y = rw (le-leb 0 y (omega arith))

  names_named : From Name 1 6
  unfolding form_of name_form
  names_named = (any_name x, (any_name x, (any_name x, (any_name x, (any_name (x / 256), (refl, tt))))))

  pub name_test : (k : ℕ) → 1 ≤ k → k < 7 → Name k
  name_test k h g = in_range_lem Name 1 6 names_named k h g

-- ---- a line of kind 7 or more
zero_test : (x : ℕ) → leb x 0 ≡ eqb x 0
zero_test x = agree (leb x 0) (eqb x 0) (λ h. eq-eqb x 0 (omega (arith, leb-true x 0 h))) (λ h. le-leb x 0 (omega (arith, eqb-true x 0 h)))

module _ (x names function from to : ℕ) (word : x < 18446744073709551616) where
  abbrev Number : ℕ → Type 0
  Number k = ((ltb k 94 && (leb 8 k || leb 1 x)) && leb x (most_of k)) ≡ allowed_by (form_of k) x names function from to

  any : leb x 18446744073709551615 ≡ true
  any = le-leb x 18446744073709551615 (omega arith)

  low_numbers : From Number 7 14
  unfolding form_of number_form most_of
  low_numbers = (refl, (any, (any, (refl, (refl, (refl, (any, (any, (any, (any, (any, (any, (any, (any, tt))))))))))))))

  pub number_test : (k : ℕ) → 7 ≤ k → Number k
  unfolding most_of
  number_test k h =
      ⊎_elim (λ g. in_range_lem Number 7 14 low_numbers k h (omega arith))
      (λ g. let low : 8 ≤ k = omega arith in
      ⊎_elim (λ l. rw (bare_form k g l, lt-ltb k 94 l, le-leb 8 k low, le-leb 21 k g) (zero_test x)) (λ l. rw (unknown_form k l, le-ltb k 94 l)) (lt_or_le k 94))
      (lt_or_le k 21)

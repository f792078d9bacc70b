-- `form_of` meets its contract: at each kind, or at all that an arm takes.
use Rattle.std.proofs.Common.{◌≡◌, ℕ, ◌≤◌, ◌<◌, refl, sym, inl, inr, arith}
use Rattle.book_types.specs.Tables.{in_range_lem}
use Rattle.print_forms.specs.Forms.{form_of, name_form, number_form}
use Rattle.print_forms.specs.Kinds.{bare_form, unknown_form}
use Rattle.print_forms.specs.declared.Form.TheVariants as form
use Rattle.print_forms.proofs.form_of.Goals as goal

abbrev Block : ℕ → Type 0
Block k = form.Block ≡ form_of k

block : (k : ℕ) → 2 ≤ k → k < 4 → Block k
unfolding form_of name_form
block k h g = in_range_lem Block 2 2 (refl, (refl, tt)) k h g

abbrev Any : ℕ → Type 0
Any k = form.Any ≡ form_of k

low : (k : ℕ) → 8 ≤ k → k < 10 → Any k
unfolding form_of number_form
low k h g = in_range_lem Any 8 2 (refl, (refl, tt)) k h g

high : (k : ℕ) → 13 ≤ k → k < 21 → Any k
unfolding form_of number_form
high k h g = in_range_lem Any 13 8 (refl, (refl, (refl, (refl, (refl, (refl, (refl, (refl, tt)))))))) k h g

abbrev Slot : ℕ → Type 0
Slot k = form.Slot ≡ form_of k

slot : (k : ℕ) → 10 ≤ k → k < 12 → Slot k
unfolding form_of number_form
slot k h g = in_range_lem Slot 10 2 (refl, (refl, tt)) k h g

pub returns-in-0 : goal.returns-in-0
unfolding form_of name_form
returns-in-0 c = rw c.in-0.is

pub returns-in-1 : goal.returns-in-1
unfolding form_of name_form
returns-in-1 c = elim c.in-1.is [ inl e ↦ rw e | inr e ↦ rw e ]

pub returns-in-5 : goal.returns-in-5
unfolding form_of name_form
returns-in-5 c = rw c.in-5.is

pub returns-in-6 : goal.returns-in-6
unfolding form_of name_form
returns-in-6 c = rw c.in-6.is

pub returns-in-7 : goal.returns-in-7
unfolding form_of number_form
returns-in-7 c = rw c.in-7.is

pub returns-in-12 : goal.returns-in-12
unfolding form_of number_form
returns-in-12 c = rw c.in-12.is

pub returns-in-2 : goal.returns-in-2
returns-in-2 c =
    let one : c.args.kind ≡ 1 → ⊥ = λ e. c.in-2.in_default-own.rest.0.0.0.0.1 (inl e) in
    block c.args.kind (omega arith) (omega arith)

pub returns-in-10 : goal.returns-in-10
returns-in-10 c = slot c.args.kind (omega arith) (omega arith)

pub returns-in-8 : goal.returns-in-8
returns-in-8 c =
    let four : c.args.kind ≡ 4 → ⊥ = λ e. c.in-8.in_default-own.rest.0.0.0.0.1 (inr e) in
    low c.args.kind (omega arith) (omega arith)

pub returns-in-8-2 : goal.returns-in-8-2
returns-in-8-2 c = high c.args.kind (omega arith) (omega arith)

pub returns-in-21-to-93 : goal.returns-in-21-to-93
returns-in-21-to-93 c = sym (bare_form c.args.kind (omega arith) (omega arith))

pub returns-in_default : goal.returns-in_default
returns-in_default c = sym (unknown_form c.args.kind (omega arith))

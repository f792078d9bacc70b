-- The form of a line's kind, and what it allows and ends with.
use Rattle.std.specs.Prelude.{ℕ, ◌/◌, Bool, true, false, cond, ◌&&◌, ◌||◌, eqb, leb, ltb}
use Rattle.print_forms.specs.declared.Form.{Form}
use Rattle.print_forms.specs.declared.Form.TheVariants as form

abbrev pub pick_form : Bool → Form → Form → Form
pick_form true a b = a
pick_form false a b = b

-- kinds 7 to 12
unfoldable pub number_form : ℕ → Form
number_form k = pick_form (eqb k 7) form.Count (pick_form (ltb k 10) form.Any (pick_form (ltb k 12) form.Slot form.Args))

-- kinds 0 to 6
unfoldable pub name_form : ℕ → Form
name_form k =
    pick_form (eqb k 0) form.Comment
    (pick_form (eqb k 5) form.Call
    (pick_form (eqb k 6) form.Syscall
    (pick_form (eqb k 1) form.Name
    (pick_form (eqb k 4) form.Name form.Block))))

unfoldable pub form_of : ℕ → Form
form_of k =
    pick_form (leb 21 k) (pick_form (ltb k 94) form.Bare form.Unknown)
    (pick_form (leb 13 k) form.Any
    (pick_form (leb 7 k) (number_form k) (name_form k)))

-- the operands that a form allows
abbrev pub allowed_by : Form → (x names function from to : ℕ) → Bool
allowed_by form.Comment x names function from to = eqb x function
allowed_by form.Name x names function from to = ltb x names
allowed_by form.Block x names function from to = ltb x names
allowed_by form.Call x names function from to = ltb (x / 256) names
allowed_by form.Syscall x names function from to = leb from x && ltb x to
allowed_by form.Count x names function from to = leb 1 x && leb x 65535
allowed_by form.Any x names function from to = true
allowed_by form.Slot x names function from to = leb x 65535
allowed_by form.Args x names function from to = leb x 255
allowed_by form.Bare x names function from to = eqb x 0
allowed_by form.Unknown x names function from to = false

-- the largest operand of a line of kind 7 or more, whose operand is a number or none
unfoldable pub most_of : ℕ → ℕ
most_of k = cond (leb 21 k) 0 (cond (eqb k 12) 255 (cond ((eqb k 7 || eqb k 10) || eqb k 11) 65535 18446744073709551615))

-- What is said of an instruction: its lines lead to a frame that is related to the source's next state.
use Rattle.std.specs.Prelude.{ℕ, ◌≤◌, ◌≡◌, refl, true, List}
use Rattle.std.proofs.Common.{sym}
use Rattle.std.proofs.Math.Option.{Option}
use Rattle.numbers.specs.Width.{width_ok}
use Rattle.book.specs.Ast.{Ty}
use Rattle.book.specs.Result.{Result, ok, err, bind, err_no_ok}
use Rattle.assembly.specs.Line.{Line}
use Rattle.machine.specs.State.{Frame}
use Rattle.lowering.specs.Gen.{Gen, ◌>>◌}
use Rattle.lowering.specs.Operand.{int_width, store_dest}
use Rattle.manual.specs.State.{Source, put}
use Rattle.manual.specs.Operand.{width_of, integer_width}
use Rattle.agreement.specs.Holds.{Holds, H-ok, H-err, H-bind}
use Rattle.agreement.specs.Gives.{Gives, G-then, G-map, G-self}
use Rattle.agreement.specs.Setup.{Setup, ctx}
use Rattle.agreement.specs.Relation.{Rel, Apart}
use Rattle.agreement.specs.Operand.{H-width, at_most, Sound, Ends, then_ends, dest_ok}
use Rattle.agreement.specs.Arith.{Computes}

-- ---- a type without a width: the source stops
module _ {B : Type 0} {Q : B → Type 0} where
  pub H-no-width : (ty : Ty) (n : ℕ) (f : ℕ → Result B) → int_width ty ≡ err n → Holds (bind (width_of ty) f) Q
  unfolding width_of int_width bind
  H-no-width (Ty.int v) n f e = err_no_ok n v (sym e)
  H-no-width Ty.ptr n f e = err_no_ok n 64 (sym e)
  H-no-width Ty.void n f e = H-err _
  H-no-width (Ty.sizeless k) n f e = H-err _
  H-no-width (Ty.array p m t) n f e = H-err _
  H-no-width (Ty.named_struct x) n f e = H-err _
  H-no-width (Ty.struct p ts) n f e = H-err _

  pub H-no-integer : (ty : Ty) (n : ℕ) (f : ℕ → Result B) → int_width ty ≡ err n → Holds (bind (integer_width ty) f) Q
  unfolding integer_width int_width bind
  H-no-integer (Ty.int v) n f e = err_no_ok n v (sym e)
  H-no-integer Ty.ptr n f e = H-err _
  H-no-integer Ty.void n f e = H-err _
  H-no-integer (Ty.sizeless k) n f e = H-err _
  H-no-integer (Ty.array p m t) n f e = H-err _
  H-no-integer (Ty.named_struct x) n f e = H-err _
  H-no-integer (Ty.struct p ts) n f e = H-err _

-- what holds at the width of a type
pub H-typed : {B : Type 0} {Q : B → Type 0} (ty : Ty) → Sound ty → (f : ℕ → Result B) → ((w : ℕ) → w ≤ 64 → Holds (f w) Q) → Holds (bind (width_of ty) f) Q
H-typed {Q} ty sound f h = go (int_width ty) refl
  where
    go : (r : Result ℕ) → int_width ty ≡ r → Holds (bind (width_of ty) f) Q
    go (ok w) e = H-width ty f e (h w (at_most w (sound.width w e)))
    go (err n) e = H-no-width ty n f e

-- by the width of a type, or by its having none
pub G-width : {g : Gen} {R : List Line → Type 0} (ty : Ty) → Sound ty → ((w : ℕ) → int_width ty ≡ ok w → width_ok w ≡ true → Gives g R)
    → ((n : ℕ) → int_width ty ≡ err n → (L : List Line) → R L) → Gives g R
G-width {g} {R} ty sound h k = go (int_width ty) refl
  where
    go : (r : Result ℕ) → int_width ty ≡ r → Gives g R
    go (ok w) e = h w e (sound.width w e)
    go (err n) e = G-map (G-self g) (λ L m. k n e L)

module _ (s : Setup) where
  -- from a state to the next
  abbrev pub StepOk : (Source → Result Source) → List Line → Type 0
  StepOk f L = (σ : Source) (e : Frame) (o : List ℕ) → Rel s σ e → Holds (f σ) (λ τ. Ends s L e o τ o)

  -- a value computed, and set
  pub put_ok : Apart s → {g : Gen} (dest : Option ℕ) (w : ℕ) (f : Source → Result ℕ) → Gives g (Computes s w f)
      → Gives (g >> store_dest (ctx s) dest) (StepOk (λ σ. bind (f σ) (λ v. ok (put dest w v σ))))
  put_ok ap' dest w f h = G-then _ h λ A pa. G-map (dest_ok s ap' dest) λ B d σ e o r.
      H-bind _ (pa σ e r) λ n p. H-ok _ (then_ends s (p.pushes o) (d σ e r w n o p.fits))

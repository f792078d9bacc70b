-- `push_value` pushes the value that the source reads, `store_dest` sets the name that the source sets.
use Rattle.std.specs.Prelude.{ℕ, ◌%◌, ◌^◌, ◌<◌, ◌≤◌, ◌≡◌, List, [], ◌∷◌, ◌++◌, eqb, length, set}
use Rattle.std.proofs.Math.Path.{refl}
use Rattle.std.proofs.Common.{sym, subst, mod-lt}
use Rattle.std.proofs.Math.Bool.{true}
use Rattle.std.proofs.Math.Option.{Option, none, some}
use Rattle.std.proofs.Math.Dec.{ltb}
use Rattle.std.proofs.Math.Pow.{pow_pos}
use borrow.Author.Tests.{eqb-true, lt-ltb}
use Rattle.numbers.specs.Width.{width_ok, mask_low, width_bounds}
use Rattle.book.specs.Ast.{Ty, Value}
use Rattle.book.specs.Result.{Result, ok, bind, ok_or, err_no_ok}
use Rattle.assembly.specs.Line.{Line}
use Rattle.machine.specs.State.{Frame, set_slots, global_at}
use Rattle.machine.specs.Line.{goes, does}
use Rattle.lowering.specs.Gen.{◌>>=◌}
use Rattle.lowering.specs.Context.{named, slot_of}
use Rattle.lowering.specs.Operand.{int_width, push_int, local_line, push_value, store_dest}
use Rattle.manual.specs.Stop.{Stop}
use Rattle.manual.specs.Values.{in_range, constant}
use Rattle.manual.specs.State.{Cell, Source, put}
use Rattle.manual.specs.Operand.{width_of, integer_width, scalar, value}
pub use Rattle.manual.specs.Going.{ok_or_some}
use Rattle.agreement.specs.Holds.{ok_same, Holds, H-ok, H-err, H-eq, H-need}
use Rattle.agreement.specs.Gives.{Gives, G-line, G-refuse, G-bind}
use Rattle.agreement.specs.Setup.{Setup, ctx}
use Rattle.agreement.specs.Reach.{Runs, run_line, seq, doing}
use Rattle.agreement.specs.Relation.{arg_of, slot_of_name, Held, Rel, Apart, slot_owner, owned_in, rel_put}
use Rattle.agreement.specs.Where.{read_at}
use Rattle.book.specs.Map.{lookup}

pub fits_mod : (n w : ℕ) → n % 2 ^ w < 2 ^ w
fits_mod n w = mod-lt n (pow_pos w)

-- whatever is answered where there is none
pub ok_or_any : {A : Type 0} (n m : ℕ) (r : Option A) (a : A) → ok_or n r ≡ ok a → ok_or m r ≡ ok a
unfolding ok_or
ok_or_any n m r a e = rw (ok_or_some n r a e) refl

-- ---- types: the width of the source is that of the generator
module _ {B : Type 0} {Q : B → Type 0} where
  pub H-width : (ty : Ty) {w : ℕ} (f : ℕ → Result B) → int_width ty ≡ ok w → Holds (f w) Q → Holds (bind (width_of ty) f) Q
  unfolding width_of int_width bind
  H-width (Ty.int v) f e h = rw (ok_same e) h
  H-width Ty.ptr f e h = rw (ok_same e) h
  H-width Ty.void f e h = H-err _
  H-width (Ty.sizeless k) f e h = H-err _
  H-width (Ty.array p n t) f e h = H-err _
  H-width (Ty.named_struct x) f e h = H-err _
  H-width (Ty.struct p ts) f e h = H-err _

  pub H-integer : (ty : Ty) {w : ℕ} (f : ℕ → Result B) → int_width ty ≡ ok w → Holds (f w) Q → Holds (bind (integer_width ty) f) Q
  unfolding integer_width int_width bind
  H-integer (Ty.int v) f e h = rw (ok_same e) h
  H-integer Ty.ptr f e h = H-err _
  H-integer Ty.void f e h = H-err _
  H-integer (Ty.sizeless k) f e h = H-err _
  H-integer (Ty.array p n t) f e h = H-err _
  H-integer (Ty.named_struct x) f e h = H-err _
  H-integer (Ty.struct p ts) f e h = H-err _

-- a type of the book: its width is one of a book's
pub record Sound (ty : Ty) : Type 0 where
  pub width : (w : ℕ) → int_width ty ≡ ok w → width_ok w ≡ true

pub at_most : (w : ℕ) → width_ok w ≡ true → w ≤ 64
at_most w h = let b = width_bounds w h in b.1

module _ (s : Setup) where
  -- lines that push a value of a width
  pub record Pushes (L : List Line) (e : Frame) (w n : ℕ) : Type 0 where
    pub pushes : (o : List ℕ) → Runs s L e o e (n ∷ o)
    pub fits : n < 2 ^ w

  abbrev pub ValueOk : (w : ℕ) → Value → List Line → Type 0
  ValueOk w v L = (σ : Source) (e : Frame) → Rel s σ e → Holds (value s.world σ.env w v) (Pushes L e w)

  get_does : (a b : Option ℕ) (l : Line) (e : Frame) (o : List ℕ) (n : ℕ) → local_line a b ≡ ok l → read_at a b e.args e.slots ≡ some n → doing s l e o ≡ goes e (n ∷ o)
  unfolding local_line read_at does
  get_does (some i) b l e o n h c = rw (← ok_same h, c) refl
  get_does none (some i) l e o n h c = rw (← ok_same h, c) refl
  get_does none none l e o n h c = err_no_ok 10 l h

  scalar_ok : (w : ℕ) (c : Cell) (e : Frame) (x : ℕ) (l : Line) → local_line (arg_of s x) (slot_of_name s x) ≡ ok l → Held s e x c → Holds (scalar w c) (Pushes (l ∷ []) e w)
  unfolding scalar
  scalar_ok w (Cell.one v n) e x l h q = H-need (eqb v w) Stop.other_width _ (λ t. H-ok _ (record {
    pushes = λ o. run_line s (get_does (arg_of s x) (slot_of_name s x) l e o n h q.cell);
    fits = rw (← eqb-true v w t) q.fits;
  }))
  scalar_ok w (Cell.two v a b) e x l h q = H-err _

  -- `push_value`
  pub value_ok_lem : (w : ℕ) (v : Value) → w ≤ 64 → Gives (push_value (ctx s) v w) (ValueOk w v)
  unfolding push_value push_int value constant does global_at
  value_ok_lem w (Value.local x) h = G-bind _ _ λ l hl. G-line l λ σ e r. H-eq (ok_or _ (σ.env x)) _ λ c hc. scalar_ok w c e x l hl (r.held x c (ok_or_some _ (σ.env x) c hc))
  value_ok_lem w (Value.int v) h = G-line _ λ σ e r. H-need (in_range w v) Stop.integer_range _ λ t.
      H-ok _ (record { pushes = λ o. run_line s (rw (mask_low v w h) refl); fits = fits_mod v w })
  value_ok_lem w (Value.zero z) h = G-line _ λ σ e r. H-ok _ (record { pushes = λ o. run_line s refl; fits = pow_pos w })
  value_ok_lem w (Value.global x) h = G-line _ λ σ e r. H-need (eqb w 64) Stop.ill_formed _ λ t.
      H-ok _ (record { pushes = λ o. run_line s refl; fits = rw (eqb-true w 64 t) (fits_mod (s.world.globals x) 64) })
  value_ok_lem w Value.other h = G-refuse 3

  -- lines that lead from a frame to one that is related to a state
  pub record Ends (L : List Line) (e : Frame) (o : List ℕ) (τ : Source) (o' : List ℕ) : Type 0 where
    pub frame : Frame
    pub runs : Runs s L e o frame o'
    pub rel : Rel s τ frame

  pub then_ends : {L M : List Line} {e e₁ : Frame} {o o₁ o₂ : List ℕ} {τ : Source} → Runs s L e o e₁ o₁ → Ends M e₁ o₁ τ o₂ → Ends (L ++ M) e o τ o₂
  then_ends a b = record { frame = b.frame; runs = seq s a b.runs; rel = b.rel }

  -- the value on top is set, or dropped
  abbrev pub DestOk : Option ℕ → List Line → Type 0
  DestOk dest L = (σ : Source) (e : Frame) → Rel s σ e → (w n : ℕ) (o : List ℕ) → n < 2 ^ w → Ends L e (n ∷ o) (put dest w n σ) o

  module _ (ap' : Apart s) where
    pub set_ok : (x i : ℕ) → slot_of_name s x ≡ some i → DestOk (some x) (Line.set_local i ∷ [])
    unfolding does
    set_ok x i h σ e r w n o l =
        let t : ltb i (length e.slots) ≡ true = lt-ltb i (length e.slots) (owned_in s x i r.stack (slot_owner s x i h)) in
        record { frame = set_slots e (set e.slots i n); runs = run_line s (rw t refl); rel = rel_put s ap' x i n w r h l }

    -- a slot that a result has
    pub slot_known : (dest : Option ℕ) (i : ℕ) → slot_of (ctx s) dest ≡ ok i → (x : ℕ) × (dest ≡ some x) × (slot_of_name s x ≡ some i)
    unfolding slot_of named ok_or
    slot_known none i e = err_no_ok 5 i e
    slot_known (some x) i e = (x, refl, ok_or_some 5 (lookup x (ctx s).slots) i e)

    -- `store_dest`
    pub dest_ok : (dest : Option ℕ) → Gives (store_dest (ctx s) dest) (DestOk dest)
    unfolding store_dest
    dest_ok dest = G-bind _ _ λ i h. let (x, e, k) = slot_known dest i h in G-line _ (subst (λ d. DestOk d (Line.set_local i ∷ [])) (sym e) (set_ok x i k))

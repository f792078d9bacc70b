-- Laws of maps, slots and fixed places: a name's latest entry is found; a named result has a slot below their number; fixed places lie within the frame.
use Rattle.std.specs.Prelude.{ℕ, ◌+◌, ◌*◌, ◌^◌, ◌≤◌, ◌<◌, ◌≡◌, ◌⊎◌, Bool, cond, leb}
use Rattle.std.proofs.Math.Path.{refl, subst}
use Rattle.std.proofs.Common.{sym, eqb-true, eq-eqb, ne_eqb, leb-true}
use Rattle.std.proofs.Math.Logic.{inl, inr, ⊎_elim}
use Rattle.std.proofs.Math.Bool.{true, false}
use Rattle.std.proofs.Math.Option.{Option, none, some}
use mathlib.Core.List.{List, [], ◌∷◌, ◌++◌}
use Rattle.std.proofs.Math.Dec.{eqb}
use native.Mathlib.Omega.{arith}
use Rattle.numbers.specs.Align.{align_up, align_le}
use Rattle.names.specs.Name.{name_at}
use Rattle.names.specs.Spelling.{has_overflow}
use Rattle.book.specs.Ast.{Ty, Value, Inst, StructType}
use Rattle.book.specs.Rule.{pick}
use Rattle.book.specs.Result.{ok, bind, ok_or, bind_ok, given_ok}
use Rattle.layout.specs.Layout.{align_of, size_of, frame_limit}
use Rattle.book.specs.Shape.{Shape, shape}
use Rattle.lowering.specs.Context.{Slots, call_slots, slots_for, slot_step, slot_map, no_slots}
use Rattle.layout.specs.Frame.{Places, count_of, with_place, with_dynamic, place, frame_step, frame_pass, no_frame}
use Rattle.book.specs.Map.{Map, lookup}

no_entry : {A X : Type 0} (a : A) → none ≡ some a → X
no_entry a h = absurd (let z : ◌≡◌ {A = ℕ} 0 1 = cc in omega arith)

-- ---- maps
module _ {A : Type 0} where
  -- "later duplicates win"
  pub lookup_here : (x : ℕ) (a : A) (m : Map A) → lookup x ((x, a) ∷ m) ≡ some a
  unfolding lookup
  lookup_here x a m = rw (eq-eqb x x refl)

  pub lookup_there : (x y : ℕ) (a : A) (m : Map A) → (x ≡ y → ⊥) → lookup x ((y, a) ∷ m) ≡ lookup x m
  unfolding lookup
  lookup_there x y a m d = rw (ne_eqb x y d)

  -- what is found in front, or behind
  pub lookup_cons : (x y : ℕ) (a b : A) (m : Map A) → lookup x ((y, a) ∷ m) ≡ some b → ((x ≡ y) × (a ≡ b)) ⊎ (lookup x m ≡ some b)
  unfolding lookup
  lookup_cons x y a b m h = go (eqb x y) refl h
    where
      go : (t : Bool) → eqb x y ≡ t → pick t (some a) (lookup x m) ≡ some b → ((x ≡ y) × (a ≡ b)) ⊎ (lookup x m ≡ some b)
      go true e h = inl (eqb-true x y e, cc)
      go false e h = inr h

  pub record Found (x : ℕ) (m : Map A) : Type 0 where
    pub value : A
    pub found : lookup x m ≡ some value

  -- a name that is found stays so
  found_cons : (x y : ℕ) (a : A) (m : Map A) → Found x m → Found x ((y, a) ∷ m)
  unfolding lookup
  found_cons x y a m f = go (eqb x y) refl
    where
      go : (t : Bool) → eqb x y ≡ t → Found x ((y, a) ∷ m)
      go true e = record { value = a; found = rw e }
      go false e = record { value = f.value; found = rw e f.found }

-- ---- slots
-- every slot lies below their number
abbrev pub Below : Slots → Type 0
Below s = (x v : ℕ) → lookup x s.slots ≡ some v → v < s.num

module _ (names : List (List ℕ)) where
  one_or_two : (b : Bool) → 1 ≤ cond b 2 1
  one_or_two true = omega arith
  one_or_two false = omega arith

  call_slots_pos : (v : Value) → 1 ≤ call_slots names v
  unfolding call_slots
  call_slots_pos (Value.global x) = one_or_two (has_overflow (name_at names x))
  call_slots_pos (Value.local x) = omega arith
  call_slots_pos (Value.int v) = omega arith
  call_slots_pos (Value.zero z) = omega arith
  call_slots_pos Value.other = omega arith

  slots_for_pos : (sh : Shape) → 1 ≤ slots_for names sh
  unfolding slots_for
  slots_for_pos Shape.cmpxchg = omega arith
  slots_for_pos (Shape.call callee) = call_slots_pos callee
  slots_for_pos (Shape.alloca ty count) = omega arith
  slots_for_pos (Shape.phi ty incoming) = omega arith
  slots_for_pos Shape.plain = omega arith

  step_below : (dest : Option ℕ) (sh : Shape) (s : Slots) → Below s → Below (slot_step names dest sh s)
  unfolding slot_step
  step_below none sh s b x v h = b x v h
  step_below (some y) sh s b x v h =
      let p = slots_for_pos sh in
      ⊎_elim (λ e. let q = e.1 in omega arith) (λ e. let q = b x v e in omega arith) (lookup_cons x y s.num v s.slots h)

  pub slots_below : (is : List Inst) (s : Slots) → Below s → Below (slot_map names is s)
  unfolding slot_map
  slots_below [] s b = b
  slots_below (i ∷ is) s b = slots_below is (slot_step names i.dest (shape i.kind) s) (step_below i.dest (shape i.kind) s b)

  -- the slots of a function lie below their number
  pub all_below_lem : (is : List Inst) → Below (slot_map names is no_slots)
  unfolding no_slots lookup
  all_below_lem is = slots_below is no_slots (λ x v h. no_entry v h)

  step_found : (x : ℕ) (dest : Option ℕ) (sh : Shape) (s : Slots) → Found x s.slots → Found x (slot_step names dest sh s).slots
  unfolding slot_step
  step_found x none sh s f = f
  step_found x (some y) sh s f = found_cons x y s.num s.slots f

  found_stays : (x : ℕ) (is : List Inst) (s : Slots) → Found x s.slots → Found x (slot_map names is s).slots
  unfolding slot_map
  found_stays x [] s f = f
  found_stays x (i ∷ is) s f = found_stays x is (slot_step names i.dest (shape i.kind) s) (step_found x i.dest (shape i.kind) s f)

  step_own : (x : ℕ) (dest : Option ℕ) (sh : Shape) (s : Slots) → dest ≡ some x → Found x (slot_step names dest sh s).slots
  unfolding slot_step
  step_own x none sh s e = no_entry x e
  step_own x (some y) sh s e =
      let q : y ≡ x = cc in
      subst (λ (z : ℕ). Found x ((z, s.num) ∷ s.slots)) (sym q) (record { value = s.num; found = lookup_here x s.num s.slots })

  -- a named result has a slot
  pub result_slot : (before : List Inst) (i : Inst) (after : List Inst) (x : ℕ) (s : Slots) → i.dest ≡ some x → Found x (slot_map names (before ++ (i ∷ after)) s).slots
  unfolding slot_map
  result_slot [] i after x s e = found_stays x after (slot_step names i.dest (shape i.kind) s) (step_own x i.dest (shape i.kind) s e)
  result_slot (j ∷ before) i after x s e = result_slot before i after x (slot_step names j.dest (shape j.kind) s) e

-- ---- fixed places
-- the frame ends at 2^31 at most, and every place starts within it
pub record Framed (f : Places) : Type 0 where
  pub small : f.off ≤ 2 ^ 31
  pub starts : (x o : ℕ) → lookup x f.offsets ≡ some o → o ≤ f.off

frame_limit_ok : (n : ℕ) {e : ℕ} → frame_limit n ≡ ok e → (n ≡ e) × (e ≤ 2 ^ 31)
unfolding frame_limit
frame_limit_ok n {e} h =
    let g = given_ok (leb n (2 ^ 31)) 7 n e h in
    let l = leb-true n (2 ^ 31) g.0 in
    let q = g.1 in
    (q, omega arith)

same_frame : {f g : Places} → ok f ≡ ok g → f ≡ g
same_frame h = cc

with_place_lem : (name start end : ℕ) (f : Places) → start ≤ end → f.off ≤ start → end ≤ 2 ^ 31 → Framed f → Framed (with_place name start end f)
unfolding with_place
with_place_lem name start end f l m n w = record { small = n; starts = within }
  where
    within : (x o : ℕ) → lookup x ((name, start) ∷ f.offsets) ≡ some o → o ≤ end
    within x o h = ⊎_elim (λ e. let q = e.1 in omega arith) (λ e. let q = w.starts x o e in omega arith) (lookup_cons x name start o f.offsets h)

with_dynamic_lem : (f : Places) → Framed f → Framed (with_dynamic f)
unfolding with_dynamic
with_dynamic_lem f w = record { small = w.small; starts = w.starts }

end_framed : (name a bytes end : ℕ) (f g : Places) → Framed f → frame_limit (align_up f.off a + bytes) ≡ ok end
    → ok (with_place name (align_up f.off a) end f) ≡ ok g → Framed g
end_framed name a bytes end f g w h k =
    let l = frame_limit_ok (align_up f.off a + bytes) h in
    let e = l.0 in
    subst Framed (same_frame k) (with_place_lem name (align_up f.off a) end f (omega arith) (align_le f.off a) l.1 w)

module _ (structs : List StructType) where
  place_framed : (name : ℕ) (ty : Ty) (n : Option ℕ) (f g : Places) → Framed f → place structs name ty n f ≡ ok g → Framed g
  unfolding place
  place_framed name ty none f g w h = subst Framed (same_frame h) (with_dynamic_lem f w)
  place_framed name ty (some n) f g w h =
      let x = bind_ok (align_of structs ty) (λ a. bind (size_of structs ty) (λ s. bind (frame_limit (align_up f.off a + s * n)) (λ end. ok (with_place name (align_up f.off a) end f)))) g h in
      let y = bind_ok (size_of structs ty) (λ s. bind (frame_limit (align_up f.off x.0 + s * n)) (λ end. ok (with_place name (align_up f.off x.0) end f))) g x.2 in
      let z = bind_ok (frame_limit (align_up f.off x.0 + y.0 * n)) (λ end. ok (with_place name (align_up f.off x.0) end f)) g y.2 in
      end_framed name x.0 (y.0 * n) z.0 f g w z.1 z.2

  step_framed : (dest : Option ℕ) (sh : Shape) (f g : Places) → Framed f → frame_step structs dest sh f ≡ ok g → Framed g
  unfolding frame_step
  step_framed dest (Shape.alloca ty count) f g w h =
      let x = bind_ok (ok_or 5 dest) (λ name. place structs name ty (count_of count) f) g h in
      place_framed x.0 ty (count_of count) f g w x.2
  step_framed dest (Shape.phi ty incoming) f g w h = subst Framed (same_frame h) w
  step_framed dest (Shape.call callee) f g w h = subst Framed (same_frame h) w
  step_framed dest Shape.cmpxchg f g w h = subst Framed (same_frame h) w
  step_framed dest Shape.plain f g w h = subst Framed (same_frame h) w

  frame_framed : (is : List Inst) (f g : Places) → Framed f → frame_pass structs is f ≡ ok g → Framed g
  unfolding frame_pass
  frame_framed [] f g w h = subst Framed (same_frame h) w
  frame_framed (i ∷ is) f g w h =
      let x = bind_ok (frame_step structs i.dest (shape i.kind) f) (λ next. frame_pass structs is next) g h in
      frame_framed is x.0 g (step_framed i.dest (shape i.kind) f x.0 w x.1) x.2

  -- a frame ends at 2^31 at most, and every fixed place starts within it
  pub frame_within : (is : List Inst) (g : Places) → frame_pass structs is no_frame ≡ ok g → Framed g
  unfolding no_frame lookup
  frame_within is g h = frame_framed is no_frame g (record { small = omega arith; starts = λ x o e. no_entry o e }) h

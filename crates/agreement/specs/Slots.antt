-- Whose a slot is: each slot has one owner, and a cmpxchg owns two.
use Prim.Native.Nat.{ℕ, zero, suc, ◌+◌, ◌≤◌}
use Rattle.std.specs.Prelude.{◌≡◌, Bool, true, false, cond}
use Rattle.std.proofs.Math.Path.{refl}
use Rattle.std.proofs.Common.{sym, ap, ◌∙◌}
use Rattle.std.proofs.Math.Logic.{⊎_elim}
use Rattle.std.proofs.Math.Option.{Option, none, some}
use mathlib.Core.List.{List, [], ◌∷◌, ◌++◌, append_assoc, append-nil}
use native.Mathlib.Omega.{arith}
use Rattle.std.proofs.Math.ListN.{length, replicate, length-append, length-replicate}
use Rattle.names.specs.Name.{name_at}
use Rattle.names.specs.Spelling.{has_overflow}
use Rattle.book.specs.Ast.{Value, Inst}
use Rattle.book.specs.Shape.{Shape, shape}
use Rattle.machine.specs.State.{cell_at}
use Rattle.lowering.specs.Context.{Slots, call_slots, slots_for, slot_step, slot_map, no_slots}
use Rattle.lowering.specs.Places.{lookup_here, lookup_there, lookup_cons}
use Rattle.agreement.specs.Lists.{some_same, none_some, cell_left, cell_right, In, here, there}
use Rattle.agreement.specs.Names.{Stands, stands_left, stands_right, stands_own, apart, distinct_right}
use Rattle.agreement.specs.Naming.{optional, result_names, Distinct}
use Rattle.book.specs.Map.{lookup}

module _ (names : List (List ℕ)) where
  one_or_two : (b : Bool) → 1 ≤ cond b 2 1
  one_or_two true = omega arith
  one_or_two false = omega arith

  call_pos : (v : Value) → 1 ≤ call_slots names v
  unfolding call_slots
  call_pos (Value.global x) = one_or_two (has_overflow (name_at names x))
  call_pos (Value.local x) = omega arith
  call_pos (Value.int v) = omega arith
  call_pos (Value.zero z) = omega arith
  call_pos Value.other = omega arith

  -- every shape takes a slot
  slots_pos : (sh : Shape) → 1 ≤ slots_for names sh
  unfolding slots_for
  slots_pos Shape.cmpxchg = omega arith
  slots_pos (Shape.call v) = call_pos v
  slots_pos (Shape.alloca ty n) = omega arith
  slots_pos (Shape.phi ty is) = omega arith
  slots_pos Shape.plain = omega arith

  unfoldable pub owners_in : Option ℕ → Shape → List ℕ
  owners_in none sh = []
  owners_in (some x) sh = replicate (slots_for names sh) x

  -- the owner of each slot
  unfoldable pub owners : List Inst → List ℕ
  owners [] = []
  owners (i ∷ is) = owners_in i.dest (shape i.kind) ++ owners is

  pub record Owned (s : Slots) (l : List ℕ) : Type 0 where
    pub number : s.num ≡ length l
    pub owner : (x i : ℕ) → lookup x s.slots ≡ some i → cell_at l i ≡ some x

  first_of : (n x : ℕ) → 1 ≤ n → cell_at (replicate n x) 0 ≡ some x
  unfolding cell_at
  first_of zero x h = absurd (omega arith)
  first_of (suc n) x h = refl

  owned_step : (o : Option ℕ) (sh : Shape) (s : Slots) (l : List ℕ) → 1 ≤ slots_for names sh → Owned s l → Owned (slot_step names o sh s) (l ++ owners_in o sh)
  unfolding slot_step owners_in
  owned_step none sh s l h w = rw append-nil w
  owned_step (some y) sh s l h w = record {
    number = (let e = w.number in omega (arith, length-append l (replicate (slots_for names sh) y), length-replicate (slots_for names sh) y));
    owner = λ x i e. ⊎_elim (own x i) (λ q. cell_left l _ i x (w.owner x i q)) (lookup_cons x y s.num i s.slots e);
  }
    where
      own : (x i : ℕ) → (x ≡ y) × (s.num ≡ i) → cell_at (l ++ replicate (slots_for names sh) y) i ≡ some x
      own x i (e, f) =
          let p : i ≡ length l + 0 = (let n = w.number in omega arith) in
          rw (p, e) (cell_right l (replicate (slots_for names sh) y) 0 (first_of (slots_for names sh) y h))

  owned_all : (is : List Inst) (s : Slots) (l : List ℕ) → Owned s l → Owned (slot_map names is s) (l ++ owners is)
  unfolding slot_map owners
  owned_all [] s l w = rw append-nil w
  owned_all (i ∷ is) s l w =
      rw (← append_assoc l (owners_in i.dest (shape i.kind)) (owners is))
      (owned_all is (slot_step names i.dest (shape i.kind) s) (l ++ owners_in i.dest (shape i.kind)) (owned_step i.dest (shape i.kind) s l (slots_pos (shape i.kind)) w))

  nothing_owned : Owned no_slots []
  unfolding no_slots lookup
  nothing_owned = record { number = refl; owner = λ x i e. none_some i e }

  pub slots_owned : (is : List Inst) → Owned (slot_map names is no_slots) (owners is)
  slots_owned is = owned_all is no_slots [] nothing_owned

  -- ---- the second slot of a name
  abbrev Second : ℕ → Slots → List ℕ → Type 0
  Second x s l = (j : ℕ) → lookup x s.slots ≡ some j → cell_at l (suc j) ≡ some x

  second_keep : (x : ℕ) (o : Option ℕ) (sh : Shape) (s : Slots) (l : List ℕ) → (Stands x (optional o) → ⊥) → Second x s l → Second x (slot_step names o sh s) (l ++ owners_in o sh)
  unfolding slot_step owners_in
  second_keep x none sh s l n h j e = cell_left l [] (suc j) x (h j e)
  second_keep x (some y) sh s l n h j e =
      cell_left l _ (suc j) x (h j (sym (lookup_there x y s.num s.slots (λ q. n (stands_own x (some y) (ap {B = Option ℕ} some (sym q))))) ∙ e))

  second_later : (x : ℕ) (is : List Inst) (s : Slots) (l : List ℕ) → (Stands x (result_names is) → ⊥) → Second x s l → Second x (slot_map names is s) (l ++ owners is)
  unfolding slot_map owners result_names
  second_later x [] s l n h = λ j e. cell_left l [] (suc j) x (h j e)
  second_later x (i ∷ is) s l n h =
      rw (← append_assoc l (owners_in i.dest (shape i.kind)) (owners is))
      (second_later x is (slot_step names i.dest (shape i.kind) s) (l ++ owners_in i.dest (shape i.kind)) (λ q. n (stands_right (optional i.dest) (result_names is) q))
      (second_keep x i.dest (shape i.kind) s l (λ q. n (stands_left (optional i.dest) (result_names is) q)) h))

  second_own : (x : ℕ) (o : Option ℕ) (sh : Shape) (s : Slots) (l : List ℕ) → o ≡ some x → slots_for names sh ≡ 2 → s.num ≡ length l → Second x (slot_step names o sh s) (l ++ owners_in o sh)
  unfolding slot_step owners_in cell_at
  second_own x none sh s l e t n j h = none_some x e
  second_own x (some y) sh s l e t n j h =
      let i : y ≡ x = cc in
      let k : s.num ≡ j = some_same (sym (lookup_here x s.num s.slots) ∙ (rw i at h)) in
      let p : suc j ≡ length l + 1 = omega arith in
      rw (p, t, i) (cell_right l (x ∷ x ∷ []) 1 refl)

  second_all : (x : ℕ) {i : Inst} (is : List Inst) (s : Slots) (l : List ℕ) → Owned s l → In i is → i.dest ≡ some x → slots_for names (shape i.kind) ≡ 2
      → Distinct (result_names is) → Second x (slot_map names is s) (l ++ owners is)
  unfolding slot_map owners result_names
  second_all x {i = i} [] s l w x6 e k d = elim x6 [ ]
  second_all x (i ∷ is) s l w here e k d =
      rw (← append_assoc l (owners_in i.dest (shape i.kind)) (owners is))
      (second_later x is (slot_step names i.dest (shape i.kind) s) (l ++ owners_in i.dest (shape i.kind)) (λ q. apart (optional i.dest) (result_names is) d (stands_own x i.dest e) q)
      (second_own x i.dest (shape i.kind) s l e k w.number))
  second_all x (j ∷ is) s l w (there h) e k d =
      rw (← append_assoc l (owners_in j.dest (shape j.kind)) (owners is))
      (second_all x is (slot_step names j.dest (shape j.kind) s) (l ++ owners_in j.dest (shape j.kind))
      (owned_step j.dest (shape j.kind) s l (slots_pos (shape j.kind)) w) h e k (distinct_right (optional j.dest) (result_names is) d))

  pub second_slot : (x : ℕ) {i : Inst} (is : List Inst) → In i is → i.dest ≡ some x → slots_for names (shape i.kind) ≡ 2
      → Distinct (result_names is) → (j : ℕ) → lookup x (slot_map names is no_slots).slots ≡ some j → cell_at (owners is) (suc j) ≡ some x
  second_slot x is h e k d = second_all x is no_slots [] nothing_owned h e k d

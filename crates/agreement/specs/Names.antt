-- "parameter and result names are all distinct".
use Rattle.std.specs.Prelude.{ℕ, ◌+◌, ◌≡◌, ◌⊎◌, length}
use Rattle.std.proofs.Common.{sym, ap, arith}
use Rattle.std.proofs.Math.Logic.{inl, inr, ⊎_elim}
use Rattle.std.proofs.Math.Option.{Option, none, some}
use mathlib.Core.List.{List, [], ◌∷◌, ◌++◌}
use Rattle.book.specs.Ast.{Inst, Param}
use Rattle.book.specs.Shape.{Shape, shape}
use Rattle.machine.specs.State.{cell_at}
use Rattle.lowering.specs.Context.{param_map, Slots, slot_step, slot_map}
use Rattle.lowering.specs.Places.{lookup_cons}
use Rattle.agreement.specs.Lists.{none_some, cell_lt, cell_left, cell_right, In, here, there}
use Rattle.agreement.specs.Naming.{optional, param_names, result_names, Distinct}
use Rattle.book.specs.Map.{Map, lookup, insert}

-- a name stands somewhere in a list
pub record Stands (x : ℕ) (l : List ℕ) : Type 0 where
  pub place : ℕ
  pub stands : cell_at l place ≡ some x

pub stands_left : {x : ℕ} (a b : List ℕ) → Stands x a → Stands x (a ++ b)
stands_left {x} a b h = record { place = h.place; stands = cell_left a b h.place x h.stands }

pub stands_right : {x : ℕ} (a b : List ℕ) → Stands x b → Stands x (a ++ b)
stands_right a b h = record { place = length a + h.place; stands = cell_right a b h.place h.stands }

pub stands_own : (x : ℕ) (o : Option ℕ) → o ≡ some x → Stands x (optional o)
unfolding optional cell_at
stands_own x none e = none_some x e
stands_own x (some y) e = record { place = 0; stands = e }

-- distinct parts share no name
pub apart : {x : ℕ} (a b : List ℕ) → Distinct (a ++ b) → Stands x a → Stands x b → ⊥
unfolding Distinct stands_left stands_right
apart {x} a b d p q =
    let e : p.place ≡ length a + q.place = d p.place (length a + q.place) x (stands_left a b p).stands (stands_right a b q).stands in
    let l = cell_lt a p.place x p.stands in
    omega arith

pub distinct_right : (a b : List ℕ) → Distinct (a ++ b) → Distinct b
unfolding Distinct
distinct_right a b d i j x p q =
    let h : length a + i ≡ length a + j = d (length a + i) (length a + j) x (cell_right a b i p) (cell_right a b j q) in omega arith

-- an instruction's name stands among the names
pub stands_in : (x : ℕ) {i : Inst} {is : List Inst} → In i is → i.dest ≡ some x → Stands x (result_names is)
unfolding result_names
stands_in x {is = []} x7 e = elim x7 [ ]
stands_in x {is = i ∷ is} here e = stands_left (optional i.dest) (result_names is) (stands_own x i.dest e)
stands_in x {is = j ∷ is} (there h) e = stands_right (optional j.dest) (result_names is) (stands_in x h e)

-- ---- a name that a map has was put there
insert_name : {A : Type 0} (x : ℕ) (o : Option ℕ) (a b : A) (m : Map A) → lookup x (insert o a m) ≡ some b → (Stands x (optional o)) ⊎ (lookup x m ≡ some b)
unfolding insert
insert_name x none a b m h = inr h
insert_name x (some y) a b m h = ⊎_elim (λ e. inl (stands_own x (some y) (ap {B = Option ℕ} some (sym e.0)))) inr (lookup_cons x y a b m h)

pub param_name : (x k i : ℕ) (ps : List Param) (m : Map ℕ) → lookup x (param_map k ps m) ≡ some i → (Stands x (param_names ps)) ⊎ (lookup x m ≡ some i)
unfolding param_map param_names
param_name x k i [] m h = inr h
param_name x k i (p ∷ ps) m h =
    ⊎_elim (λ q. inl (stands_right (optional p.name) (param_names ps) q))
    (λ q. ⊎_elim (λ r. inl (stands_left (optional p.name) (param_names ps) r)) inr (insert_name x p.name k i m q))
    (param_name x (k + 1) i ps (insert p.name k m) h)

module _ (names : List (List ℕ)) where
  step_name : (x i : ℕ) (o : Option ℕ) (sh : Shape) (s : Slots) → lookup x (slot_step names o sh s).slots ≡ some i → (Stands x (optional o)) ⊎ (lookup x s.slots ≡ some i)
  unfolding slot_step
  step_name x i none sh s h = inr h
  step_name x i (some y) sh s h =
      ⊎_elim (λ e. inl (stands_own x (some y) (ap {B = Option ℕ} some (sym e.0)))) inr (lookup_cons x y s.num i s.slots h)

  pub slot_name : (x i : ℕ) (is : List Inst) (s : Slots) → lookup x (slot_map names is s).slots ≡ some i → (Stands x (result_names is)) ⊎ (lookup x s.slots ≡ some i)
  unfolding slot_map result_names
  slot_name x i [] s h = inr h
  slot_name x i (j ∷ is) s h =
      ⊎_elim (λ q. inl (stands_right (optional j.dest) (result_names is) q))
      (λ q. ⊎_elim (λ r. inl (stands_left (optional j.dest) (result_names is) r)) inr (step_name x i j.dest (shape j.kind) s q))
      (slot_name x i is (slot_step names j.dest (shape j.kind) s) h)

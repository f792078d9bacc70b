-- The relation between the source's state and the machine's frame; operands stand outside it.
use Prim.Native.Nat.{ℕ, suc, ◌^◌, ◌<◌}
use Rattle.std.specs.Prelude.{◌≡◌, Bool, List, set}
use Rattle.std.proofs.Math.Path.{refl}
use Rattle.std.proofs.Common.{sym, ◌∙◌, length-set}
use Rattle.std.proofs.Math.Bool.{true, false, cond}
use Rattle.std.proofs.lemmas.Bool.{false≢true}
use Rattle.std.proofs.Math.Option.{Option, none, some}
use native.Mathlib.Omega.{arith}
use Rattle.std.proofs.Math.Dec.{eqb}
use Rattle.std.proofs.Math.ListN.{length}
use borrow.Author.Tests.{eqb-true, eqb-false}
use Rattle.book.specs.Result.{ok}
use Rattle.book.specs.Shape.{all_insts}
use Rattle.machine.specs.Memory.{Memory}
use Rattle.machine.specs.State.{Call, Frame, set_slots, set_memory, set_sp, cell_at}
use Rattle.lowering.specs.Function.{slots_of, total_slots}
use Rattle.manual.specs.State.{Cell, Env, Source, set_env, set_world, set_stack, with, without, assign, put}
use Rattle.agreement.specs.Lists.{none_some, cell_lt, cell_set_same, cell_set_other}
use Rattle.agreement.specs.Setup.{Setup, ctx}
use Rattle.agreement.specs.Slots.{owners, slots_owned, Owned}
use Rattle.agreement.specs.Where.{read_at}
use Rattle.book.specs.Map.{lookup}
use Rattle.layout.specs.Frame.{framed}

module _ (s : Setup) where
  abbrev pub arg_of : ℕ → Option ℕ
  arg_of x = lookup x (ctx s).params

  abbrev pub slot_of_name : ℕ → Option ℕ
  slot_of_name x = lookup x (ctx s).slots

  abbrev pub cell_of : Frame → ℕ → Option ℕ
  cell_of e x = read_at (arg_of x) (slot_of_name x) e.args e.slots

  abbrev pub own : List ℕ
  own = owners s.codegen.names (all_insts s.function.blocks)

  -- a value is in its argument or slot, a cmpxchg's two in its slots
  pub record Held1 (e : Frame) (x w v : ℕ) : Type 0 where
    pub cell : cell_of e x ≡ some v
    pub fits : v < 2 ^ w

  pub record Held2 (e : Frame) (x w v b : ℕ) : Type 0 where
    pub base : ℕ
    pub slot_eq : slot_of_name x ≡ some base
    pub second : cell_at own (suc base) ≡ some x
    pub cell₀ : cell_at e.slots base ≡ some v
    pub cell₁ : cell_at e.slots (suc base) ≡ some b
    pub fits₀ : v < 2 ^ w
    pub fits₁ : b < 2

  abbrev pub Held : Frame → ℕ → Cell → Type 0
  Held e x (Cell.one w v) = Held1 e x w v
  Held e x (Cell.two w v b) = Held2 e x w v b

  -- the stack pointers, and the entry's in the slot behind the named ones
  pub record Stack (sp sp' : ℕ) (l : List ℕ) : Type 0 where
    pub sp_eq : sp' ≡ sp
    pub sp_fits : sp < 2 ^ 64
    pub base_fits : s.base < 2 ^ 64
    pub size : length l ≡ total_slots s.codegen s.function s.frame
    pub kept : framed s.frame ≡ true → cell_at l (ctx s).bp_slot ≡ some s.base
    pub unmoved : framed s.frame ≡ false → sp ≡ s.base

  pub record Rel (σ : Source) (e : Frame) : Type 0 where
    pub args_eq : e.args ≡ s.args
    pub memory_eq : e.memory ≡ σ.memory
    pub calls_eq : e.calls ≡ σ.calls
    pub stack : Stack σ.sp e.sp e.slots
    pub held : (x : ℕ) (c : Cell) → σ.env x ≡ some c → Held e x c

  -- names of results are no names of parameters
  unfoldable pub Apart : Type 0
  Apart = (x i : ℕ) → slot_of_name x ≡ some i → arg_of x ≡ none

  -- ---- slots and their owners
  owned : Owned s.codegen.names (slots_of s.codegen s.function) own
  unfolding slots_of
  owned = slots_owned s.codegen.names (all_insts s.function.blocks)

  pub slot_owner : (x i : ℕ) → slot_of_name x ≡ some i → cell_at own i ≡ some x
  slot_owner x i e = owned.owner x i e

  own_below : (x i : ℕ) → cell_at own i ≡ some x → i < (ctx s).bp_slot
  own_below x i e = let h = cell_lt own i x e in let n = owned.number in omega arith

  pub owned_in : {sp sp' : ℕ} {l : List ℕ} (x i : ℕ) → Stack sp sp' l → cell_at own i ≡ some x → i < length l
  unfolding total_slots
  owned_in {l} x i k o = let lt = own_below x i o in let z = k.size in omega arith

  pub stack_set : {sp sp' : ℕ} {l : List ℕ} (x i n : ℕ) → Stack sp sp' l → cell_at own i ≡ some x → Stack sp sp' (set l i n)
  stack_set {l} x i n k o =
      let lt = own_below x i o in
      record {
        sp_eq = k.sp_eq;
        sp_fits = k.sp_fits;
        base_fits = k.base_fits;
        size = length-set l i n ∙ k.size;
        kept = λ t. cell_set_other l i (ctx s).bp_slot n (λ q. omega arith) ∙ k.kept t;
        unmoved = k.unmoved;
      }

  -- slots of two owners are two
  apart_slots : (x y i j : ℕ) → cell_at own i ≡ some x → cell_at own j ≡ some y → ¬ (y ≡ x) → ¬ (j ≡ i)
  apart_slots x y i j a b n q = n (let h : cell_at own i ≡ some y = rw (← q) b in cc)

  -- a place other than the slot set is as it was
  read_other : (e : Frame) (x i n y : ℕ) (a b : Option ℕ) → b ≡ slot_of_name y → cell_at own i ≡ some x → ¬ (y ≡ x)
      → read_at a b e.args (set e.slots i n) ≡ read_at a b e.args e.slots
  unfolding read_at
  read_other e x i n y (some j) b h o ne = refl
  read_other e x i n y none (some j) h o ne = cell_set_other e.slots i j n (apart_slots x y i j o (slot_owner y j (sym h)) ne)
  read_other e x i n y none none h o ne = refl

  -- what another name holds stays when a slot is set
  pub held_keep : (e : Frame) (x i n y : ℕ) (c : Cell) → cell_at own i ≡ some x → ¬ (y ≡ x) → Held e y c → Held (set_slots e (set e.slots i n)) y c
  held_keep e x i n y (Cell.one w v) o ne h = record { cell = read_other e x i n y (arg_of y) (slot_of_name y) refl o ne ∙ h.cell; fits = h.fits }
  held_keep e x i n y (Cell.two w v b) o ne h = record {
    base = h.base;
    slot_eq = h.slot_eq;
    second = h.second;
    fits₀ = h.fits₀;
    fits₁ = h.fits₁;
    cell₀ = cell_set_other e.slots i h.base n (apart_slots x y i h.base o (slot_owner y h.base h.slot_eq) ne) ∙ h.cell₀;
    cell₁ = cell_set_other e.slots i (suc h.base) n (apart_slots x y i (suc h.base) o h.second ne) ∙ h.cell₁;
  }

  -- one name anew: what the others hold, and what it holds
  pub held_with : (ρ : Env) (e : Frame) (x : ℕ) (c : Cell) → ((y : ℕ) (d : Cell) → ¬ (y ≡ x) → ρ y ≡ some d → Held e y d) → Held e x c → (y : ℕ) (d : Cell) → with x c ρ y ≡ some d → Held e y d
  unfolding with
  held_with ρ e x c k h y d z = go (eqb y x) refl z
    where
      go : (t : Bool) → eqb y x ≡ t → cond t (some c) (ρ y) ≡ some d → Held e y d
      go true t z = let i : c ≡ d = cc in let j : y ≡ x = eqb-true y x t in rw (j, ← i) h
      go false t z = k y d (eqb-false y x t) z

  own_cell : Apart → (e : Frame) (x i n : ℕ) → slot_of_name x ≡ some i → i < length e.slots → cell_of (set_slots e (set e.slots i n)) x ≡ some n
  unfolding Apart read_at
  own_cell ap' e x i n h l = rw (ap' x i h, h) (cell_set_same e.slots i n l)

  pub rel_put : Apart → {σ : Source} {e : Frame} (x i n w : ℕ) → Rel σ e → slot_of_name x ≡ some i → n < 2 ^ w → Rel (put (some x) w n σ) (set_slots e (set e.slots i n))
  unfolding assign
  rel_put ap' {σ} {e} x i n w r h l =
      let o = slot_owner x i h in
      record {
        args_eq = r.args_eq;
        memory_eq = r.memory_eq;
        calls_eq = r.calls_eq;
        stack = stack_set x i n r.stack o;
        held = held_with σ.env (set_slots e (set e.slots i n)) x (Cell.one w n) (λ y d ne z. held_keep e x i n y d o ne (r.held y d z))
            (record { cell = own_cell ap' e x i n h (owned_in x i r.stack o); fits = l });
      }

  -- ---- memory, calls and stack pointer change on both sides
  pub held_world : (e : Frame) (m : Memory) (k : List Call) (sp x : ℕ) (c : Cell) → Held e x c → Held (record { args = e.args; slots = e.slots; memory = m; calls = k; sp = sp }) x c
  held_world e m k sp x (Cell.one w v) h = record { cell = h.cell; fits = h.fits }
  held_world e m k sp x (Cell.two w v b) h =
      record { base = h.base; slot_eq = h.slot_eq; second = h.second; cell₀ = h.cell₀; cell₁ = h.cell₁; fits₀ = h.fits₀; fits₁ = h.fits₁ }

  pub rel_world : {σ : Source} {e : Frame} → Rel σ e → (m m' : Memory) (k k' : List Call) → m ≡ m' → k ≡ k'
      → Rel (set_world σ m' k') (record { args = e.args; slots = e.slots; memory = m; calls = k; sp = e.sp })
  rel_world {e} r m m' k k' p q = record { args_eq = r.args_eq; memory_eq = p; calls_eq = q; stack = r.stack; held = λ x c h. held_world e m k e.sp x c (r.held x c h) }

  pub rel_stack : {σ : Source} {e : Frame} → Rel σ e → (n : ℕ) → n < 2 ^ 64 → framed s.frame ≡ true → Rel (set_stack σ n) (set_sp e n)
  rel_stack {e} r n h t = record {
    args_eq = r.args_eq;
    memory_eq = r.memory_eq;
    calls_eq = r.calls_eq;
    held = λ x c z. held_world e e.memory e.calls n x c (r.held x c z);
    stack = record { sp_eq = refl; sp_fits = h; base_fits = r.stack.base_fits; size = r.stack.size; kept = r.stack.kept; unmoved = λ f. absurd (false≢true (sym f ∙ t)) };
  }

  -- ---- a cmpxchg: its first slot is set, then its second
  held_without : (ρ : Env) (e : Frame) (x : ℕ) → ((y : ℕ) (d : Cell) → ¬ (y ≡ x) → ρ y ≡ some d → Held e y d) → (y : ℕ) (d : Cell) → without x ρ y ≡ some d → Held e y d
  unfolding without
  held_without ρ e x k y d z = go (eqb y x) refl z
    where
      go : (t : Bool) → eqb y x ≡ t → cond t none (ρ y) ≡ some d → Held e y d
      go true t z = none_some d z
      go false t z = k y d (eqb-false y x t) z

  pub rel_first : {σ : Source} {e : Frame} (x i n : ℕ) (m m' : Memory) → m ≡ m' → Rel σ e → cell_at own i ≡ some x
      → Rel (set_env (set_world σ m' σ.calls) (without x σ.env)) (set_slots (set_memory e m) (set e.slots i n))
  rel_first {σ} {e} x i n m m' em r o = record {
    args_eq = r.args_eq;
    memory_eq = em;
    calls_eq = r.calls_eq;
    stack = stack_set x i n r.stack o;
    held = held_without σ.env (set_slots (set_memory e m) (set e.slots i n)) x
        (λ y d ne z. held_keep (set_memory e m) x i n y d o ne (held_world e m e.calls e.sp y d (r.held y d z)));
  }

  pub rel_second : {σ : Source} {e : Frame} (x i n b w : ℕ) (m m' : Memory) → m ≡ m' → Rel σ e → slot_of_name x ≡ some i → cell_at own (suc i) ≡ some x → n < 2 ^ w → b < 2
      → Rel (set_env (set_world σ m' σ.calls) (assign (some x) (Cell.two w n b) σ.env)) (set_slots (set_memory e m) (set (set e.slots i n) (suc i) b))
  unfolding assign
  rel_second {σ} {e} x i n b w m m' em r h o₂ hn hb =
      let o = slot_owner x i h in
      let e₂ : Frame = set_slots (set_memory e m) (set e.slots i n) in
      let l : i < length e.slots = owned_in x i r.stack o in
      let l₂ : suc i < length (set e.slots i n) = owned_in x (suc i) (stack_set x i n r.stack o) o₂ in
      record {
        args_eq = r.args_eq;
        memory_eq = em;
        calls_eq = r.calls_eq;
        stack = stack_set x (suc i) b (stack_set x i n r.stack o) o₂;
        held = held_with σ.env (set_slots e₂ (set e₂.slots (suc i) b)) x (Cell.two w n b)
            (λ y d ne z. held_keep e₂ x (suc i) b y d o₂ ne (held_keep (set_memory e m) x i n y d o ne (held_world e m e.calls e.sp y d (r.held y d z))))
            (record {
              base = i;
              slot_eq = h;
              second = o₂;
              fits₀ = hn;
              fits₁ = hb;
              cell₀ = cell_set_other (set e.slots i n) (suc i) i b (λ q. omega arith) ∙ cell_set_same e.slots i n l;
              cell₁ = cell_set_same (set e.slots i n) (suc i) b l₂;
            });
      }

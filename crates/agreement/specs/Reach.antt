-- Lines that stand in the program are run: `Runs L e o e' o'` is "the lines L lead from frame e and operands o to e' and o'", wherever they stand.
use Prim.Native.Nat.{ℕ, zero, suc}
use Rattle.std.proofs.Math.Path.{◌≡◌, refl}
use Rattle.std.proofs.Common.{ap, ◌∙◌, append_assoc, arith}
use Rattle.std.specs.Prelude.{Bool, true, false, List, [], ◌∷◌, ◌++◌, map, eqb, drop}
use Rattle.std.proofs.Math.Option.{Option, some}
use Rattle.assembly.specs.Line.{Line, Hint}
use Rattle.assembly.specs.Text.{hinted}
use Rattle.machine.specs.State.{Frame}
use Rattle.machine.specs.Labels.{Placed, label_in}
use Rattle.machine.specs.Line.{Effect, goes, jumps, does, branch, jump}
use Rattle.machine.specs.Run.{State, state, Outcome, running, returned, failed, found, follow, step_at, step, steps}
use Rattle.agreement.specs.Setup.{Setup}
use Rattle.agreement.specs.Lists.{drop_tail, drop_part, drop_map}
use Rattle.agreement.specs.Unique.{found_there}
use Rattle.agreement.specs.Naming.{LabelsOnce}
use Rattle.agreement.specs.Placing.{under}

module _ (s : Setup) where
  -- its lines, all of this function
  abbrev pub mine : List Placed
  mine = map (under s.function.name) s.lines

  abbrev pub step_of : State → Outcome
  step_of x = step s.codegen.names s.world mine x

  abbrev pub steps_of : ℕ → Outcome → Outcome
  steps_of n x = steps s.codegen.names s.world mine n x

  abbrev pub doing : Line → Frame → List ℕ → Effect
  doing l e o = does s.codegen.names (some s.function.name) s.world l e o

  abbrev pub label : Line → Option (List ℕ)
  label l = label_in s.codegen.names (some s.function.name) l

  abbrev pub Once : Type 0
  Once = LabelsOnce s.codegen.names mine

  -- a line that stands at a position
  pub at_line : (p : ℕ) {l : Line} {k : List Line} → drop p s.lines ≡ l ∷ k → drop p mine ≡ under s.function.name l ∷ map (under s.function.name) k
  at_line p h = drop_map (under s.function.name) s.lines p h

  -- two lines that print one label are one line
  pub same_line : Once → (p q : ℕ) {l k : Line} {j i : List Line} {t : List ℕ} → drop p s.lines ≡ l ∷ j → drop q s.lines ≡ k ∷ i → label l ≡ some t → label k ≡ some t → p ≡ q
  unfolding LabelsOnce
  same_line u p q a b x y = u p q _ _ _ _ _ (at_line p a) (at_line q b) x y

  -- an outcome is reached in some number of steps
  pub record Reaches (x : State) (y : Outcome) : Type 0 where
    pub number : ℕ
    pub reach : steps_of number (running x) ≡ y

  pub stay : (x : State) → Reaches x (running x)
  unfolding steps
  stay x = record { number = 0; reach = refl }

  pub once : {x : State} {y : Outcome} → step_of x ≡ y → Reaches x y
  unfolding steps
  once e = record { number = 1; reach = e }

  steps_then : (m : ℕ) (x : Outcome) {t : State} {y : Outcome} → steps_of m x ≡ running t → Reaches t y → (n : ℕ) × (steps_of n x ≡ y)
  unfolding steps
  steps_then zero x e h = (h.number, (rw e h.reach))
  steps_then (suc m) (running t) e h = let r = steps_then m (step_of t) e h in (suc r.0, r.1)
  steps_then (suc m) (returned v f n) e h = absurd (let z : ◌≡◌ {A = ℕ} 0 1 = cc in omega arith)
  steps_then (suc m) failed e h = absurd (let z : ◌≡◌ {A = ℕ} 0 1 = cc in omega arith)

  pub next : {x t : State} {y : Outcome} → Reaches x (running t) → Reaches t y → Reaches x y
  next {x} h k = let r = steps_then h.number (running x) h.reach k in record { number = r.0; reach = r.1 }

  -- a place that is reached, with what stands there
  pub record Comes (x : State) (k : List Line) (e : Frame) (o : List ℕ) (n : ℕ) : Type 0 where
    pub pos : ℕ
    pub here : drop pos s.lines ≡ k
    pub way : Reaches x (running (state pos e o n))

  infixr 55 ◌≫◌
  pub ◌≫◌ : {x : State} {k k' : List Line} {e e' : Frame} {o o' : List ℕ} {n n' : ℕ}
      → Comes x k e o n → ((p : ℕ) → drop p s.lines ≡ k → Comes (state p e o n) k' e' o' n') → Comes x k' e' o' n'
  ◌≫◌ a f = let b = f a.pos a.here in record { pos = b.pos; here = b.here; way = next a.way b.way }

  pub to : {x t : State} {k : List Line} {e : Frame} {o : List ℕ} {n : ℕ} → Reaches x (running t) → Comes t k e o n → Comes x k e o n
  to r b = record { pos = b.pos; here = b.here; way = next r b.way }

  -- the lines L, wherever they stand, lead from one frame and stack to another, and pass no block label
  pub record Runs (L : List Line) (e : Frame) (o : List ℕ) (e' : Frame) (o' : List ℕ) : Type 0 where
    pub from : (p n : ℕ) (k : List Line) → drop p s.lines ≡ L ++ k → Comes (state p e o n) k e' o' n

  pub runs_nil : {e : Frame} {o : List ℕ} → Runs [] e o e o
  runs_nil {e} {o} = record { from = λ p n k h. record { pos = p; here = h; way = stay (state p e o n) } }

  pub seq : {L M : List Line} {e e₁ e₂ : Frame} {o o₁ o₂ : List ℕ} → Runs L e o e₁ o₁ → Runs M e₁ o₁ e₂ o₂ → Runs (L ++ M) e o e₂ o₂
  seq {L} {M} a b = record { from = λ p n k h. a.from p n (M ++ k) (h ∙ append_assoc L M k) ≫ λ q i. b.from q n k i }

  pub run_line : {l : Line} {e e' : Frame} {o o' : List ℕ} → doing l e o ≡ goes e' o' → Runs (l ∷ []) e o e' o'
  unfolding step step_at follow
  run_line d = record { from = λ p n k h. record { pos = suc p; here = drop_tail p s.lines h; way = once (rw (at_line p h, d) refl) } }

  -- a line, then more
  infixr 54 ◌⊳◌
  pub ◌⊳◌ : {l : Line} {M : List Line} {e e₁ e₂ : Frame} {o o₁ o₂ : List ℕ} → doing l e o ≡ goes e₁ o₁ → Runs M e₁ o₁ e₂ o₂ → Runs (l ∷ M) e o e₂ o₂
  ◌⊳◌ {l} a b = seq {L = l ∷ []} (run_line a) b

  pub run_label : (h : Hint) (a : ℕ) {e : Frame} {o : List ℕ} → Runs (Line.label h a ∷ []) e o e o
  unfolding does
  run_label h a = run_line refl

  module _ (u : Once) where
    -- a line that jumps to a label, and the line with that label
    pub jump_to : {l k : Line} {j i : List Line} {e : Frame} {o o' : List ℕ} (t : List ℕ) (p q n : ℕ)
        → doing l e o ≡ jumps t e o' → drop p s.lines ≡ l ∷ j → drop q s.lines ≡ k ∷ i → label k ≡ some t
        → Reaches (state p e o n) (running (state q e o' n))
    unfolding step step_at follow found
    jump_to t p q n d a b h = once (rw (at_line p a, d, found_there s.codegen.names mine u t q _ _ (at_line q b) h) refl)

    -- one that does not, though it might
    pub pass_by : {l : Line} {j : List Line} {e e' : Frame} {o o' : List ℕ} (p n : ℕ) → doing l e o ≡ goes e' o' → drop p s.lines ≡ l ∷ j
        → Reaches (state p e o n) (running (state (suc p) e' o' n))
    unfolding step step_at follow
    pass_by p n d a = once (rw (at_line p a, d) refl)

    pub hint_label : (h : Hint) (n : ℕ) → label (Line.label h n) ≡ some (hinted h n)
    unfolding label_in
    hint_label h n = refl

    -- two ways that meet: `jz F; B; jmp D; F: C; D:`
    pub run_if : {B C : List Line} {e e' : Frame} {o o' : List ℕ} (n m x : ℕ) → (eqb x 0 ≡ false → Runs B e o e' o') → (eqb x 0 ≡ true → Runs C e o e' o')
        → Runs (Line.jump Hint.sel_false n ∷ (B ++ (Line.jump Hint.sel_done m ∷ Line.label Hint.sel_false n ∷ (C ++ (Line.label Hint.sel_done m ∷ []))))) e (x ∷ o) e' o'
    unfolding does jump branch
    run_if {B} {C} {e} {e'} {o} {o'} n m x b c = record {
      from = λ p i k z.
          let (q, zq) = drop_part s.lines B (suc p) (flat p k z) in
          let (r, zr) = drop_part s.lines C (suc (suc q)) (drop_tail (suc q) s.lines (drop_tail q s.lines zq)) in
          go p i k z q (drop_tail q s.lines zq) r zr (eqb x 0) refl;
    }
      where
        jz : Line
        jz = Line.jump Hint.sel_false n

        jmp : Line
        jmp = Line.jump Hint.sel_done m

        F : Line
        F = Line.label Hint.sel_false n

        D : Line
        D = Line.label Hint.sel_done m

        flat : (p : ℕ) (k : List Line) → drop p s.lines ≡ jz ∷ ((B ++ (jmp ∷ F ∷ (C ++ (D ∷ [])))) ++ k) → drop (suc p) s.lines ≡ B ++ (jmp ∷ F ∷ (C ++ (D ∷ k)))
        flat p k z = drop_tail p s.lines z ∙ append_assoc B _ k ∙ ap (λ r. B ++ (jmp ∷ F ∷ r)) (append_assoc C (D ∷ []) k)

        go : (p i : ℕ) (k : List Line) → drop p s.lines ≡ jz ∷ ((B ++ (jmp ∷ F ∷ (C ++ (D ∷ [])))) ++ k)
            → (q : ℕ) → drop (suc q) s.lines ≡ F ∷ (C ++ (D ∷ k)) → (r : ℕ) → drop r s.lines ≡ D ∷ k
            → (t : Bool) → eqb x 0 ≡ t → Comes (state p e (x ∷ o) i) k e' o' i
        go p i k z q zF r zr true y =
            to (jump_to (hinted Hint.sel_false n) p (suc q) i (rw y refl) z zF (hint_label Hint.sel_false n)) (
            (run_label Hint.sel_false n).from (suc q) i _ zF ≫ λ a za.
            (c y).from a i _ za ≫ λ a' za'.
            (run_label Hint.sel_done m).from a' i k za')
        go p i k z q zF r zr false y =
            to (pass_by p i (rw y refl) z) (
            (b y).from (suc p) i _ (flat p k z) ≫ λ a za.
            to (jump_to (hinted Hint.sel_done m) a r i refl za zr (hint_label Hint.sel_done m)) (
            (run_label Hint.sel_done m).from r i k zr))

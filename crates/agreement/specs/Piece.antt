-- Lines within others: where no label line occurs twice, a run of the lines by themselves is a run of the whole from where they begin.
use Prim.Native.Nat.{ℕ, zero, suc, ◌+◌}
use Rattle.std.specs.Prelude.{◌≡◌, length}
use Rattle.std.proofs.Math.Path.{refl}
use Rattle.std.proofs.Common.{sym, subst, ◌∙◌}
use Rattle.std.proofs.Math.Option.{Option, none, some}
use mathlib.Core.List.{List, [], ◌∷◌, ◌++◌}
use native.Mathlib.Omega.{arith}
use Rattle.std.proofs.Math.Nat.{add-suc}
use Rattle.std.proofs.Math.ListN.{drop}
use Rattle.machine.specs.State.{World}
use Rattle.machine.specs.Cells.{drop_cell}
use Rattle.machine.specs.Labels.{Placed, find}
use Rattle.machine.specs.Line.{Effect}
use Rattle.machine.specs.Run.{State, state, Outcome, running, returned, failed, found, follow, step_at, step, steps}
use Rattle.machine.proofs.Exact.{Alive}
use Rattle.machine.proofs.ExactParts.{find_label}
use Rattle.agreement.specs.Lists.{some_same, drop_left, drop_right}
use Rattle.agreement.specs.Unique.{found_there}
use Rattle.agreement.specs.Naming.{LabelsOnce}

-- an outcome with its position so many lines further on
unfoldable pub shifted : ℕ → Outcome → Outcome
shifted q (running s) = running (state (q + s.pos) s.frame s.operands s.passed)
shifted q (returned v e n) = returned v e n
shifted q failed = failed

-- what has not failed later has not failed before
pub alive_from : (names : List (List ℕ)) (world : World) (lines : List Placed) (k : ℕ) (x : Outcome) → Alive (steps names world lines k x) → Alive x
unfolding steps
alive_from names world lines zero x a = a
alive_from names world lines (suc k) (running s) a = tt
alive_from names world lines (suc k) (returned v e n) a = tt
alive_from names world lines (suc k) failed a = a

module _ (names : List (List ℕ)) (P O Q : List Placed) where
  abbrev whole : List Placed
  whole = P ++ (O ++ Q)

  stands_within : (p : ℕ) {l : Placed} {k : List Placed} → drop p O ≡ l ∷ k → drop (length P + p) whole ≡ l ∷ (k ++ Q)
  stands_within p h = drop_right P (O ++ Q) p ∙ drop_left O Q p h

  once_within : LabelsOnce names whole → LabelsOnce names O
  unfolding LabelsOnce
  once_within u p q l k j i t a b x y = let e = u (length P + p) (length P + q) l k _ _ t (stands_within p a) (stands_within q b) x y in omega arith

  module _ (u : LabelsOnce names whole) (world : World) where
    find_within : (t : List ℕ) (p : ℕ) → find names t O ≡ some p → find names t whole ≡ some (length P + p)
    find_within t p e =
        let (i, l, c, h) = find_label names O t p e in
        let (r, d) = drop_cell O i l c in
        let same : i ≡ p = some_same (sym (found_there names O (once_within u) t i l r d h) ∙ e) in
        rw (← same) (found_there names whole u t (length P + i) l (r ++ Q) (stands_within i d) h)

    follow_within : (p n : ℕ) (a : Effect) → Alive (follow names world O p n a) → follow names world whole (length P + p) n a ≡ shifted (length P) (follow names world O p n a)
    unfolding follow found shifted
    follow_within p n (Effect.goes e o) h = rw add-suc refl
    follow_within p n (Effect.passes e o) h = rw add-suc refl
    follow_within p n (Effect.jumps t e o) h = go (find names t O) refl h
      where
        go : (q : Option ℕ) → find names t O ≡ q → Alive (found names world O q e o n) → found names world whole (find names t whole) e o n ≡ shifted (length P) (found names world O q e o n)
        go none i h = absurd h
        go (some q) i h = rw (find_within t q i) refl
    follow_within p n (Effect.ends v e) h = refl
    follow_within p n Effect.fails h = absurd h

    step_within : (s : State) → Alive (step names world O s) → step names world whole (state (length P + s.pos) s.frame s.operands s.passed) ≡ shifted (length P) (step names world O s)
    unfolding step step_at
    step_within s = go (drop s.pos O) refl
      where
        go : (ls : List Placed) → drop s.pos O ≡ ls → Alive (step_at names world O ls s)
            → step_at names world whole (drop (length P + s.pos) whole) (state (length P + s.pos) s.frame s.operands s.passed) ≡ shifted (length P) (step_at names world O ls s)
        go [] e h = absurd h
        go (l ∷ ls) e h = rw (stands_within s.pos e) (follow_within s.pos s.passed _ h)

    steps_within : (k : ℕ) (x : Outcome) → Alive (steps names world O k x) → steps names world whole k (shifted (length P) x) ≡ shifted (length P) (steps names world O k x)
    unfolding steps shifted
    steps_within zero x h = refl
    steps_within (suc k) (running s) h = rw (step_within s (alive_from names world O k (step names world O s) h)) (steps_within k (step names world O s) h)
    steps_within (suc k) (returned v e n) h = refl
    steps_within (suc k) failed h = refl

  -- lines that are the whole, and the position where the part begins
  module _ (lines : List Placed) (is : lines ≡ P ++ (O ++ Q)) (from : ℕ) (here : from ≡ length P) where
    pub at_within : (p : ℕ) {l : Placed} {k : List Placed} → drop p O ≡ l ∷ k → drop (from + p) lines ≡ l ∷ (k ++ Q)
    at_within p h = rw (is, here) (stands_within p h)

    pub labels_within : LabelsOnce names lines → LabelsOnce names O
    labels_within u = once_within (subst (LabelsOnce names) is u)

    pub run_within : LabelsOnce names lines → (world : World) (k : ℕ) (x : Outcome) → Alive (steps names world O k x) → steps names world lines k (shifted from x) ≡ shifted from (steps names world O k x)
    run_within u world k x h = rw (is, here) (steps_within (subst (LabelsOnce names) is u) world k x h)

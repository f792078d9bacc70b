-- A machine that comes to every number of block labels, or returns, never fails.
use Prim.Native.Nat.{ℕ, zero, suc, ◌+◌, ◌<◌, ◌≤◌}
use Rattle.std.proofs.Math.Path.{◌≡◌, refl}
use Rattle.std.specs.Prelude.{◌⊎◌, drop}
use Rattle.std.proofs.Common.{inl, inr}
use Rattle.std.proofs.Math.Option.{Option, none, some}
use mathlib.Core.List.{List, [], ◌∷◌}
use native.Mathlib.Omega.{arith}
use Rattle.numbers.specs.Tests.{lt_or_le}
use Rattle.machine.specs.State.{World, Frame}
use Rattle.machine.specs.Labels.{Placed, find}
use Rattle.machine.specs.Line.{Effect}
use Rattle.machine.specs.Run.{State, Outcome, running, returned, failed, found, follow, step_at, step, steps}
use Rattle.machine.proofs.Exact.{Alive}
use Rattle.agreement.specs.Piece.{alive_from}
use Rattle.agreement.proofs.Corollaries.{same_state, not_returned, not_failed}

module _ (names : List (List ℕ)) (world : World) (lines : List Placed) where
  abbrev run : ℕ → Outcome → Outcome
  run k x = steps names world lines k x

  -- ---- what has not failed later has not failed before
  alive_before : (k j : ℕ) (x : Outcome) → k ≤ j → Alive (run j x) → Alive (run k x)
  unfolding steps
  alive_before zero j x h a = alive_from names world lines j x a
  alive_before (suc k) zero x h a = absurd (omega arith)
  alive_before (suc k) (suc j) (running s) h a = alive_before k j (step names world lines s) (omega arith) a
  alive_before (suc k) (suc j) (returned v e n) h a = tt
  alive_before (suc k) (suc j) failed h a = a

  -- what has returned stays so
  alive_returned : (k : ℕ) (v : ℕ) (e : Frame) (n : ℕ) → Alive (run k (returned v e n))
  unfolding steps
  alive_returned zero v e n = tt
  alive_returned (suc k) v e n = tt

  alive_after : (k j : ℕ) (x : Outcome) {v : ℕ} {e : Frame} {n : ℕ} → j ≤ k → run j x ≡ returned v e n → Alive (run k x)
  unfolding steps
  alive_after k zero x {v} {e} {n} h i = rw i (alive_returned k v e n)
  alive_after zero (suc j) x h i = absurd (omega arith)
  alive_after (suc k) (suc j) (running s) h i = alive_after k j (step names world lines s) (omega arith) i
  alive_after (suc k) (suc j) (returned v e n) h i = tt
  alive_after (suc k) (suc j) failed h i = absurd (let z : ◌≡◌ {A = ℕ} 0 1 = cc in omega arith)

  -- one step more
  pub alive_step : (k : ℕ) (x : Outcome) (y : State) → run k x ≡ running y → Alive (run (suc k) x) → Alive (step names world lines y)
  unfolding steps
  alive_step zero x y h a = rw h at a
  alive_step (suc k) (running s) y h a = alive_step k (step names world lines s) y h a
  alive_step (suc k) (returned v e n) y h a = not_returned h
  alive_step (suc k) failed y h a = not_failed h

  -- ---- a step passes one label at most
  follow_passes : (p n : ℕ) (a : Effect) (y : State) → follow names world lines p n a ≡ running y → y.passed ≤ suc n
  unfolding follow found
  follow_passes p n (Effect.goes e o) y h = rw (← same_state h) (omega arith)
  follow_passes p n (Effect.passes e o) y h = rw (← same_state h) (omega arith)
  follow_passes p n (Effect.jumps t e o) y h = go (find names t lines) h
    where
      go : (q : Option ℕ) → found names world lines q e o n ≡ running y → y.passed ≤ suc n
      go none h = not_failed h
      go (some q) h = rw (← same_state h) (omega arith)
  follow_passes p n (Effect.ends v e) y h = not_returned h
  follow_passes p n Effect.fails y h = not_failed h

  step_passes : (x y : State) → step names world lines x ≡ running y → y.passed ≤ suc x.passed
  unfolding step step_at
  step_passes x y h = go (drop x.pos lines) h
    where
      go : (ls : List Placed) → step_at names world lines ls x ≡ running y → y.passed ≤ suc x.passed
      go [] h = not_failed h
      go (l ∷ ls) h = follow_passes x.pos x.passed _ y h

  passes : (k n : ℕ) (x : Outcome) (y : State) → ((z : State) → x ≡ running z → z.passed ≤ n) → run k x ≡ running y → y.passed ≤ n + k
  unfolding steps
  passes zero n x y a h = let i = a y h in omega arith
  passes (suc k) n (running z) y a h = let i = passes k (suc n) (step names world lines z) y (λ t e. let j = step_passes z t e in let l = a z refl in omega arith) h in omega arith
  passes (suc k) n (returned v e i) y a h = not_returned h
  passes (suc k) n failed y a h = not_failed h

  -- ---- so it never fails
  -- with n labels passed at some step, or returned at one
  pub data Comes (s : State) (n : ℕ) : Type 0 where
    stands : (k : ℕ) {x : State} → run k (running s) ≡ running x → x.passed ≡ n → Comes s n
    returns : (k : ℕ) {v : ℕ} {e : Frame} {m : ℕ} → run k (running s) ≡ returned v e m → Comes s n

  pub never_fails : (s : State) → s.passed ≡ 0 → ((n : ℕ) → Comes s n) → (k : ℕ) → Alive (run k (running s))
  never_fails s z c k = go (c (suc k))
    where
      go : Comes s (suc k) → Alive (run k (running s))
      go (Comes.stands j {x = x} h p) =
          let l = passes j 0 (running s) x (λ t e. let i = same_state e in rw (← i, z) (omega arith)) h in
          alive_before k j (running s) (omega arith) (rw h tt)
      go (Comes.returns j h) = split (lt_or_le k j)
        where
          split : (k < j) ⊎ (j ≤ k) → Alive (run k (running s))
          split (inl i) = alive_before k j (running s) (omega arith) (rw h tt)
          split (inr i) = alive_after k j (running s) i h

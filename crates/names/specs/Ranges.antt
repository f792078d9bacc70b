-- The names that start with a prefix are those in its range.
use Prim.Native.Nat.{ℕ, zero, suc, ◌<◌, ◌≤◌}
use Rattle.std.specs.Prelude.{◌≡◌, ◌↔◌, Bool, ◌&&◌, leb, ltb}
use Rattle.std.proofs.Math.Path.{refl}
use Rattle.std.proofs.Common.{sym, ◌∙◌, leb-true, ltb-true, le-leb, lt-ltb}
use Rattle.std.proofs.Math.Bool.{true, false, cond}
use Rattle.std.proofs.lemmas.Bool.{false≢true}
use mathlib.Core.List.{List, [], ◌∷◌}
use Rattle.std.proofs.Math.Option.{some}
use native.Mathlib.Omega.{arith}
use Rattle.std.proofs.Math.ListN.{length}
use Rattle.names.specs.Text.{starts}
use Rattle.names.specs.Name.{ascending, lines, names_of, name_at}
use Rattle.names.specs.Prefix.{first_with, run_with, past_with, PrefixRange}
use Rattle.names.specs.Tests.{both, agree}
use Rattle.names.specs.Order.{ascending_rest, together}
use Rattle.names.specs.Lines.{names_lines, names_iff}

module _ (p : List ℕ) where
  -- behind a name that starts with p, those of the run do, and no others
  run_range : (n : List ℕ) (ns : List (List ℕ)) → starts p n ≡ true → ascending (n ∷ ns) ≡ true → (i : ℕ) → i < length ns
      → (starts p (name_at ns i) ≡ true) ↔ (i < run_with p ns)
  unfolding run_with name_at
  run_range n [] s h i l = absurd (omega arith)
  run_range n (m ∷ ns) s h zero l = first (starts p m)
    where
      first : (t : Bool) → (t ≡ true) ↔ (0 < cond t (suc (run_with p ns)) 0)
      first true = (λ e. omega arith, λ b. refl)
      first false = (λ e. absurd (false≢true e), λ b. absurd (omega arith))
  run_range n (m ∷ ns) s h (suc i) l =
      later (starts p m) refl (λ e. run_range m ns e (ascending_rest n (m ∷ ns) h) i (omega arith))
    where
      later : (t : Bool) → starts p m ≡ t → (t ≡ true → (starts p (name_at ns i) ≡ true) ↔ (i < run_with p ns))
          → (starts p (name_at ns i) ≡ true) ↔ (suc i < cond t (suc (run_with p ns)) 0)
      later true e ih = (λ b. let b' = (ih refl).0 b in omega arith, λ b. (ih refl).1 (omega arith))
      later false e ih = (
        λ b. absurd (false≢true (sym e ∙ together p (n ∷ m ∷ ns) h 0 1 (suc (suc i)) (omega arith) (omega arith) (omega arith) s b)),
        λ b. absurd (omega arith),
      )

  pub in_range_lem : (ns : List (List ℕ)) → ascending ns ≡ true → (i : ℕ) → i < length ns
      → (starts p (name_at ns i) ≡ true) ↔ ((first_with p ns ≤ i) × (i < past_with p ns))
  unfolding first_with past_with name_at
  in_range_lem [] h i l = absurd (omega arith)
  in_range_lem (n ∷ ns) h zero l = first (starts p n)
    where
      first : (t : Bool) → (t ≡ true) ↔ ((cond t 0 (suc (first_with p ns)) ≤ 0) × (0 < suc (cond t (run_with p ns) (past_with p ns))))
      first true = (λ e. (omega arith, omega arith), λ b. refl)
      first false = (λ e. absurd (false≢true e), λ b. absurd (let b' = b.0 in omega arith))
  in_range_lem (n ∷ ns) h (suc i) l = later (starts p n) refl (in_range_lem ns (ascending_rest n ns h) i (omega arith))
    where
      later : (t : Bool) → starts p n ≡ t
          → (starts p (name_at ns i) ≡ true) ↔ ((first_with p ns ≤ i) × (i < past_with p ns))
          → (starts p (name_at ns i) ≡ true) ↔ ((cond t 0 (suc (first_with p ns)) ≤ suc i) × (suc i < suc (cond t (run_with p ns) (past_with p ns))))
      later true e ih =
          let r = run_range n ns e h i (omega arith) in
          (λ b. let b' = r.0 b in (omega arith, omega arith), λ b. r.1 (let b' = b.1 in omega arith))
      later false e ih =
          (λ b. let b' = ih.0 b in (omega arith, omega arith), λ b. ih.1 (omega arith, omega arith))

  run_length : (ns : List (List ℕ)) → run_with p ns ≤ length ns
  unfolding run_with
  run_length [] = omega arith
  run_length (n ∷ ns) = step (starts p n) (run_length ns)
    where
      step : (t : Bool) → run_with p ns ≤ length ns → cond t (suc (run_with p ns)) 0 ≤ suc (length ns)
      step true ih = omega arith
      step false ih = omega arith

  -- the range lies within the names
  pub range_order : (ns : List (List ℕ)) → (first_with p ns ≤ past_with p ns) × (past_with p ns ≤ length ns)
  unfolding first_with past_with
  range_order [] = (omega arith, omega arith)
  range_order (n ∷ ns) = step (starts p n) (range_order ns)
    where
      step : (t : Bool) → (first_with p ns ≤ past_with p ns) × (past_with p ns ≤ length ns)
          → (cond t 0 (suc (first_with p ns)) ≤ suc (cond t (run_with p ns) (past_with p ns))) × (suc (cond t (run_with p ns) (past_with p ns)) ≤ suc (length ns))
      step true ih = (omega arith, omega (arith, run_length ns))
      step false ih = (omega arith, omega arith)

  -- the same for a range that was found over the bytes of names
  pub found_range : (bs : List ℕ) (ns : List (List ℕ)) (from to : ℕ) → names_of bs ≡ some ns → PrefixRange p (lines bs) from to
      → (i : ℕ) → i < length ns → (starts p (name_at ns i) ≡ true) ↔ ((from ≤ i) × (i < to))
  found_range bs ns from to e r i l =
      rw (r.first, r.past, names_lines bs ns e) (in_range_lem ns ((names_iff bs ns).0 e).ascend i l)

  -- the same as a test
  pub range_test : (bs : List ℕ) (ns : List (List ℕ)) (from to : ℕ) → names_of bs ≡ some ns → PrefixRange p (lines bs) from to
      → (i : ℕ) → i < length ns → (leb from i && ltb i to) ≡ starts p (name_at ns i)
  range_test bs ns from to e r i l =
      let w = found_range bs ns from to e r i l in
      agree (leb from i && ltb i to) (starts p (name_at ns i))
      (λ h. let h' = both (leb from i) (ltb i to) h in w.1 (leb-true from i h'.0, ltb-true i to h'.1))
      (λ h. let h' = w.0 h in rw (le-leb from i h'.0, lt-ltb i to h'.1))

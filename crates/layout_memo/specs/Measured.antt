-- What a measurement answers, and how measurements of parts make one of the whole. A measure goes by the allowance: f k is the answer with k levels.
use Rattle.std.specs.Prelude.{ℕ, zero, suc, ◌+◌, ◌-◌, ◌<◌, ◌≤◌, max, ◌≡◌, refl}
use Rattle.std.proofs.Common.{sym, ◌∙◌, arith, sub-one}
use Rattle.std.proofs.Math.Logic.{⊎_elim}
use Rattle.numbers.specs.Tests.{lt_or_le}
use Rattle.std.specs.Prelude.{Result as Answer, Ok, Err}
use Rattle.book.specs.Refusal.{number_of}
use Rattle.book.specs.Result.{Result, ok, err, bind}
use Rattle.book.specs.declared.refusal.Refusal.{Refusal}
use Rattle.layout_memo.specs.declared.Measure.{Measure}

-- a measure, or why there is none
abbrev pub Measured : Type 0
Measured = Answer Measure Refusal

-- so many bytes, with the levels that they take
abbrev pub bytes_of : ℕ → ℕ → Measured
bytes_of n h = Ok (record { bytes = n; levels = h })

-- document 01's answer: the bytes, or the refusal's number
abbrev pub result_of : Measured → Result ℕ
result_of (Ok m) = ok m.bytes
result_of (Err e) = err (number_of e)

-- n, from h levels on; 7 with fewer
pub record Known (f : ℕ → Result ℕ) (n h : ℕ) : Type 0 where
  pub low : (k : ℕ) → k < h → f k ≡ err 7
  pub high : (k : ℕ) → h ≤ k → f k ≡ ok n

-- n, which takes h of the levels
pub record Gives (f : ℕ → Result ℕ) (level n h : ℕ) : Type 0 where
  pub known : Known f n h
  pub within : h ≤ level

-- the answer r is the measure f with so many levels
abbrev pub Measures : (f : ℕ → Result ℕ) → ℕ → Measured → Type 0
Measures f level (Ok m) = Gives f level m.bytes m.levels
Measures f level (Err e) = f level ≡ err (number_of e)

pub measures_result : (f : ℕ → Result ℕ) (level : ℕ) (r : Measured) → Measures f level r → result_of r ≡ f level
measures_result f level (Ok m) g = sym (g.known.high level g.within)
measures_result f level (Err e) g = sym g

-- one level more
abbrev pub one_more : Measured → Measured
one_more (Ok m) = bytes_of m.bytes (m.levels + 1)
one_more (Err e) = Err e

-- levels that leave room for one more
abbrev pub Few : Measured → Type 0
Few (Ok m) = m.levels ≤ 64
Few (Err e) = Unit {0}

pub measures_few : (f : ℕ → Result ℕ) (level : ℕ) (r : Measured) → level ≤ 64 → Measures f level r → Few r
measures_few f level (Ok m) l g = omega (arith, g.within)
measures_few f level (Err e) l g = tt

-- ---- a type of one level
module _ (f : ℕ → Result ℕ) (n : ℕ) (none : f 0 ≡ err 7) (all : (k : ℕ) → f (suc k) ≡ ok n) where
  leaf_low : (k : ℕ) → k < 1 → f k ≡ err 7
  leaf_low zero l = none
  leaf_low (suc k) l = absurd (omega arith)

  leaf_high : (k : ℕ) → 1 ≤ k → f k ≡ ok n
  leaf_high zero l = absurd (omega arith)
  leaf_high (suc k) l = all k

  pub leaf_known : (level : ℕ) → (level ≡ 0 → ⊥) → Gives f level n 1
  leaf_known level z = record { known = record { low = leaf_low; high = leaf_high }; within = positive level z }
    where
      positive : (l : ℕ) → (l ≡ 0 → ⊥) → 1 ≤ l
      positive zero z = absurd (z refl)
      positive (suc l) z = omega arith

pub leaf_refused : (f : ℕ → Result ℕ) (e level : ℕ) → ((k : ℕ) → f (suc k) ≡ err e) → (level ≡ 0 → ⊥) → f level ≡ err e
leaf_refused f e zero all z = absurd (z refl)
leaf_refused f e (suc k) all z = all k

-- ---- a type whose part is measured with one level less
module _ (f g : ℕ → Result ℕ) (none : f 0 ≡ err 7) (part : (k : ℕ) → f (suc k) ≡ g k) where
  up_low : (h : ℕ) → ((k : ℕ) → k < h → g k ≡ err 7) → (k : ℕ) → k < h + 1 → f k ≡ err 7
  up_low h low zero l = none
  up_low h low (suc k) l = part k ∙ low k (omega arith)

  up_high : (n h : ℕ) → ((k : ℕ) → h ≤ k → g k ≡ ok n) → (k : ℕ) → h + 1 ≤ k → f k ≡ ok n
  up_high n h high zero l = absurd (omega arith)
  up_high n h high (suc k) l = part k ∙ high k (omega arith)

  pub measures_up : (level : ℕ) → (level ≡ 0 → ⊥) → (r : Measured) → Measures g (level - 1) r → Measures f level (one_more r)
  measures_up zero z r m = absurd (z refl)
  measures_up (suc l) z (Ok b) m =
      record { known = record { low = up_low b.levels m.known.low; high = up_high b.bytes b.levels m.known.high }; within = omega (arith, m.within) }
  measures_up (suc l) z (Err e) m = part l ∙ rw (sub-one (suc l)) at m

-- ---- measures one after the other: what is left to measure, and the levels taken so far
pub record Progress (whole rest : ℕ → Result ℕ) (h level : ℕ) : Type 0 where
  pub passed : (k : ℕ) → k < h → whole k ≡ err 7
  pub left : (k : ℕ) → h ≤ k → whole k ≡ rest k
  pub within : h ≤ level

pub progress_start : (f : ℕ → Result ℕ) (level : ℕ) → Progress f f 0 level
progress_start f level = record { passed = λ k l. absurd (omega arith); left = λ k l. refl; within = omega arith }

module _ {whole rest : ℕ → Result ℕ} {h level : ℕ} (p : Progress whole rest h level) where
  pub progress_same : (other : ℕ → Result ℕ) → ((k : ℕ) → rest k ≡ other k) → Progress whole other h level
  progress_same other e = record { passed = p.passed; left = λ k l. p.left k l ∙ e k; within = p.within }

  pub progress_bind : (g : ℕ → Result ℕ) (next : ℕ → ℕ → Result ℕ) {a ha : ℕ} → ((k : ℕ) → rest k ≡ bind (g k) (λ a. next a k))
      → Gives g level a ha → Progress whole (next a) (max h ha) level
  unfolding bind
  progress_bind g next {a} {ha} e m =
      record {
        passed = λ k l. ⊎_elim (λ s. p.passed k s) (λ s. p.left k s ∙ e k ∙ (rw (m.known.low k (omega arith)) refl)) (lt_or_le k h);
        left = λ k l. p.left k (omega arith) ∙ e k ∙ (rw (m.known.high k (omega arith)) refl);
        within = omega (arith, p.within, m.within);
      }

  pub progress_refused : (g : ℕ → Result ℕ) (next : ℕ → ℕ → Result ℕ) {x : ℕ} → ((k : ℕ) → rest k ≡ bind (g k) (λ a. next a k)) → g level ≡ err x → whole level ≡ err x
  unfolding bind
  progress_refused g next e m = p.left level p.within ∙ e level ∙ (rw m refl)

  -- nothing is left to measure
  pub progress_bytes : {n : ℕ} → ((k : ℕ) → rest k ≡ ok n) → Gives whole level n h
  progress_bytes e = record { known = record { low = p.passed; high = λ k l. p.left k l ∙ e k }; within = p.within }

  pub progress_err : {x : ℕ} → ((k : ℕ) → rest k ≡ err x) → whole level ≡ err x
  progress_err e = p.left level p.within ∙ e level

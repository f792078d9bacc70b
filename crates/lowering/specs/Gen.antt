-- Generating lines. A `Gen` takes the label counter and gives lines and the next counter, or a refusal. In a `do` block `x ← e` is the Rust's
-- `let x = e?;` and a bare statement is `self.f(..)?;`.
use Rattle.std.specs.Prelude.{ℕ, suc, ◌+◌, ◌≡◌, refl, Bool, true, false, List, [], ◌∷◌, ◌++◌}
use Rattle.std.proofs.Common.{append-nil}
use Rattle.book.specs.Result.{Result, ok, err, bind}
use Rattle.assembly.specs.Line.{Line}

pub record Out : Type 0 where
  pub lines : List Line
  pub next : ℕ

abbrev pub Gen : Type 0
Gen = ℕ → Result Out

unfoldable pub lines : List Line → Gen
lines ls n = ok (record { lines = ls; next = n })

-- `self.line(..)`
unfoldable pub line : Line → Gen
line l = lines (l ∷ [])

unfoldable pub skip : Gen
skip = lines []

-- a refusal
unfoldable pub refuse : ℕ → Gen
refuse e n = err e

unfoldable pub after : List Line → Out → Out
after ls q = record { lines = ls ++ q.lines; next = q.next }

infixr 20 ◌>>=◌
infixr 20 ◌>>◌
unfoldable pub ◌>>=◌ : {A : Type 0} → Result A → (A → Gen) → Gen
◌>>=◌ r g n = bind r (λ a. g a n)

unfoldable pub ◌>>◌ : Gen → Gen → Gen
◌>>◌ g h n = bind (g n) (λ p. bind (h p.next) (λ q. ok (after p.lines q)))

-- g where a test holds
unfoldable pub when : Bool → Gen → Gen
when true g = g
when false g = skip

-- g where a test holds, else h
unfoldable pub choose : Bool → Gen → Gen → Gen
choose true g h = g
choose false g h = h

-- `fresh_label`: the label's number
unfoldable pub fresh : (ℕ → Gen) → Gen
fresh g n = g n (suc n)

-- k labels at once: the first one's number
unfoldable pub reserve : ℕ → (ℕ → Gen) → Gen
reserve k g n = g n (n + k)

-- f of each, in order
unfoldable pub each : {A : Type 0} → (A → Gen) → List A → Gen
each f [] = skip
each f (x ∷ xs) = do
  f x
  each f xs

-- opens every definition of this file, for an example that computes
unfoldable pub open_gen : Unit {0}
unfolding lines line skip refuse after ◌>>=◌ ◌>>◌ when choose fresh reserve each
open_gen = tt

-- nothing behind g is g
pub then_skip : (g : Gen) → (g >> skip) ≡ g
unfolding ◌>>◌ skip lines after bind
then_skip g i n = go (g n) i
  where
    go : (r : Result Out) → bind r (λ p. bind (skip p.next) (λ q. ok (after p.lines q))) ≡ r
    go (ok p) = λ j. ok (record { lines = append-nil p.lines j; next = p.next })
    go (err e) = refl

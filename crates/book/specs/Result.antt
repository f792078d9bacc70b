-- `Result`: a value, or the number of a refusal (document 01, "Replies of the translator and the printer"). In a `do` block `x ← e` is the Rust's `let x = e?;`.
use Rattle.std.specs.Prelude.{ℕ, ◌≡◌, Bool}
use Rattle.std.proofs.Math.Path.{refl}
use Rattle.std.proofs.Math.Bool.{true, false}
use Rattle.std.proofs.Math.Option.{Option, none, some}
use Rattle.std.proofs.Common.{arith}

pub data Result (A : Type 0) : Type 0 where
  ok : A → Result A
  err : (refusal : ℕ) → Result A

module _ {A B : Type 0} where
  unfoldable pub bind : Result A → (A → Result B) → Result B
  bind (ok a) f = f a
  bind (err e) f = err e

module _ {A : Type 0} where
  -- `ok_or`
  unfoldable pub ok_or : ℕ → Option A → Result A
  ok_or e none = err e
  ok_or e (some a) = ok a

  -- the value where a test holds
  unfoldable pub given : Bool → ℕ → A → Result A
  given true e a = ok a
  given false e a = err e

-- a test that must hold
unfoldable pub require : Bool → ℕ → Result (Unit {0})
require b e = given b e tt

-- opens every definition of this file, for an example that computes
unfoldable pub open_result : Unit {0}
unfolding bind ok_or given require
open_result = tt

-- ---- what an accepted answer says
module _ {A : Type 0} where
  -- no refusal is an answer
  pub err_no_ok : {X : Type 0} (e : ℕ) (a : A) → err e ≡ ok a → X
  err_no_ok e a p = absurd (let z : ◌≡◌ {A = ℕ} 0 1 = cc in omega arith)

module _ {A B : Type 0} where
  -- an accepted chain: what its first part gave
  pub bind_ok : (r : Result A) (f : A → Result B) (b : B) → bind r f ≡ ok b → (a : A) × (r ≡ ok a) × (f a ≡ ok b)
  unfolding bind
  bind_ok (ok a) f b p = (a, refl, p)
  bind_ok (err e) f b p = err_no_ok e b p

  -- and the other way round
  pub bind_step : (r : Result A) (f : A → Result B) {a : A} {b : B} → r ≡ ok a → f a ≡ ok b → bind r f ≡ ok b
  unfolding bind
  bind_step r f p q = rw p q

  -- a chain is the same where what follows its first part is
  pub bind_same : (r : Result A) (f g : A → Result B) → ((a : A) → r ≡ ok a → f a ≡ g a) → bind r f ≡ bind r g
  unfolding bind
  bind_same (ok a) f g h = h a refl
  bind_same (err e) f g h = refl

module _ {A : Type 0} where
  pub given_ok : (b : Bool) (e : ℕ) (a c : A) → given b e a ≡ ok c → (b ≡ true) × (a ≡ c)
  unfolding given
  given_ok true e a c p = (refl, cc)
  given_ok false e a c p = err_no_ok e c p

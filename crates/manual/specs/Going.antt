-- Laws of chains that go on: what the first part gives is handed on, and a test that must hold holds.
use Rattle.std.specs.Prelude.{ℕ, ◌≡◌, refl, Bool, true, false}
use Rattle.std.proofs.Common.{ap}
use Rattle.std.proofs.Math.Option.{Option, none, some}
use Rattle.book.specs.Result.{Result, ok, bind, ok_or, err_no_ok, bind_step}
use Rattle.manual.specs.Stop.{Stop, need}

pub ok_same : {A : Type 0} {a b : A} → ok a ≡ ok b → a ≡ b
ok_same e = cc

abbrev pub Going : {A : Type 0} → Result A → Type 0
Going {A} r = (a : A) × (r ≡ ok a)

-- the first part goes on, and so does the rest with what it gives
pub onward : {A B : Type 0} {r : Result A} {a : A} (f : A → Result B) → r ≡ ok a → Going (f a) → Going (bind r f)
onward f e h = (h.0, bind_step _ f e h.1)

pub need_ok : {b : Bool} (s : Stop) → b ≡ true → need b s ≡ ok tt
unfolding need
need_ok s e = rw e refl

pub need_true : (b : Bool) (s : Stop) (u : Unit {0}) → need b s ≡ ok u → b ≡ true
unfolding need
need_true true s u e = refl
need_true false s u e = err_no_ok _ u e

pub ok_or_ok : {A : Type 0} {o : Option A} {a : A} (n : ℕ) → o ≡ some a → ok_or n o ≡ ok a
unfolding ok_or
ok_or_ok n e = rw e refl

pub ok_or_some : {A : Type 0} (n : ℕ) (r : Option A) (a : A) → ok_or n r ≡ ok a → r ≡ some a
unfolding ok_or
ok_or_some n none a e = err_no_ok n a e
ok_or_some n (some b) a e = ap {B = Option _} some (ok_same e)

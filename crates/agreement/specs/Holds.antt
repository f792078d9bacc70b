-- What holds of the answer of a chain, if there is one: of a generator's lines and of the source run alike.
use Rattle.std.specs.Prelude.{ℕ, ◌≡◌, refl, Bool, true, false, cond}
use Rattle.std.proofs.Common.{subst, sym, ◌∙◌}
use Rattle.std.proofs.lemmas.Bool.{false≢true}
use Rattle.book.specs.Result.{Result, ok, err, bind}
use Rattle.manual.specs.Stop.{Stop, need}
pub use Rattle.manual.specs.Going.{ok_same}

abbrev pub holds : {A : Type 0} → Result A → (A → Type 0) → Type 0
holds (ok a) P = P a
holds (err n) P = Unit {0}

pub record Holds {A : Type 0} (r : Result A) (P : A → Type 0) : Type 0 where
  pub get : holds r P

pub H-ok : {A : Type 0} {P : A → Type 0} (a : A) → P a → Holds (ok a) P
H-ok a h = record { get = h }

pub H-err : {A : Type 0} {P : A → Type 0} (n : ℕ) → Holds (err n) P
H-err n = record { get = tt }

pub H-bind : {A B : Type 0} {P : A → Type 0} {Q : B → Type 0} {r : Result A} (f : A → Result B)
    → Holds r P → ((a : A) → P a → Holds (f a) Q) → Holds (bind r f) Q
unfolding bind
H-bind {r = ok a} f h k = k a h.get
H-bind {r = err n} f h k = H-err n

-- with the answer's equation
pub H-eq : {A B : Type 0} {Q : B → Type 0} (r : Result A) (f : A → Result B) → ((a : A) → r ≡ ok a → Holds (f a) Q) → Holds (bind r f) Q
unfolding bind
H-eq (ok a) f k = k a refl
H-eq (err n) f k = H-err n

-- the answer is known
pub H-known : {A B : Type 0} {Q : B → Type 0} {r : Result A} {a : A} (f : A → Result B) → r ≡ ok a → Holds (f a) Q → Holds (bind r f) Q
unfolding bind
H-known f e h = rw e h

-- a test that must hold
pub H-need : {B : Type 0} {Q : B → Type 0} (b : Bool) (s : Stop) (f : Unit {0} → Result B) → (b ≡ true → Holds (f tt) Q) → Holds (bind (need b s) f) Q
unfolding bind need
H-need true s f k = k refl
H-need false s f k = H-err _

pub H-cond : {A : Type 0} {P : A → Type 0} (b : Bool) (x y : Result A) → (b ≡ true → Holds x P) → (b ≡ false → Holds y P) → Holds (cond b x y) P
H-cond true x y h k = h refl
H-cond false x y h k = k refl

pub H-map : {A : Type 0} {P Q : A → Type 0} {r : Result A} → Holds r P → ((a : A) → P a → Q a) → Holds r Q
H-map {r = ok a} h k = record { get = k a h.get }
H-map {r = err n} h k = H-err n

pub H-use : {A : Type 0} {P : A → Type 0} {r : Result A} (a : A) → r ≡ ok a → Holds r P → P a
H-use {P} a e h = subst (λ x. holds x P) e h.get

pub H-self : {A : Type 0} (r : Result A) → Holds r (λ a. r ≡ ok a)
H-self (ok a) = record { get = refl }
H-self (err n) = H-err n

pub H-all : {A : Type 0} {P : A → Type 0} {r : Result A} → Holds r P → (a : A) → r ≡ ok a → P a
H-all h a e = H-use a e h

-- for every x alike
pub H-each : {X A : Type 0} {P : X → A → Type 0} {r : Result A} → ((x : X) → Holds r (P x)) → Holds r (λ a. (x : X) → P x a)
H-each {r = ok a} k = record { get = λ x. (k x).get }
H-each {r = err n} k = H-err n

pub clash : {X : Type 0} {b : Bool} → b ≡ true → b ≡ false → X
clash h k = absurd (false≢true (sym k ∙ h))

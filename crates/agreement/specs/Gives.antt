-- What holds of all lines that a generator gives: a law for each way of generating, so that a proof reads like the generator.
use Rattle.std.specs.Prelude.{ℕ, suc, ◌+◌, ◌≡◌, refl, Bool, true, false, List, [], ◌∷◌, ◌++◌}
use Rattle.std.proofs.Common.{subst}
use Rattle.book.specs.Result.{Result, ok, bind}
use Rattle.assembly.specs.Line.{Line}
use Rattle.lowering.specs.Gen.{Out, Gen, lines, line, skip, refuse, after, ◌>>=◌, ◌>>◌, when, choose, fresh, reserve}
use Rattle.agreement.specs.Holds.{Holds, H-ok, H-err, H-bind, H-eq, H-map, H-self, H-use, H-each}

pub record Gives (g : Gen) (P : List Line → Type 0) : Type 0 where
  pub made : (c : ℕ) → Holds (g c) (λ o. P o.lines)

pub G-lines : {P : List Line → Type 0} (L : List Line) → P L → Gives (lines L) P
unfolding lines
G-lines L h = record { made = λ c. H-ok _ h }

pub G-line : {P : List Line → Type 0} (l : Line) → P (l ∷ []) → Gives (line l) P
unfolding line
G-line l h = G-lines (l ∷ []) h

pub G-skip : {P : List Line → Type 0} → P [] → Gives skip P
unfolding skip
G-skip h = G-lines [] h

pub G-refuse : {P : List Line → Type 0} (e : ℕ) → Gives (refuse e) P
unfolding refuse
G-refuse e = record { made = λ c. H-err e }

pub G-then : {g : Gen} {P R : List Line → Type 0} (h : Gen) → Gives g P → ((L : List Line) → P L → Gives h (λ M. R (L ++ M))) → Gives (g >> h) R
unfolding ◌>>◌ after
G-then h a k = record { made = λ c. H-bind _ (a.made c) (λ p i. H-bind _ ((k p.lines i).made p.next) (λ q j. H-ok _ j)) }

-- a line, then more
pub G-put : {R : List Line → Type 0} (l : Line) (h : Gen) → Gives h (λ M. R (l ∷ M)) → Gives (line l >> h) R
unfolding ◌>>◌ after line lines bind
G-put l h a = record { made = λ c. H-bind _ (a.made c) (λ q j. H-ok _ j) }

pub G-bind : {A : Type 0} {R : List Line → Type 0} (r : Result A) (g : A → Gen) → ((a : A) → r ≡ ok a → Gives (g a) R) → Gives (r >>= g) R
unfolding ◌>>=◌
G-bind r g k = record { made = λ c. H-eq r (λ a. g a c) (λ a e. (k a e).made c) }

pub G-when : {R : List Line → Type 0} (b : Bool) (g : Gen) → (b ≡ true → Gives g R) → (b ≡ false → R []) → Gives (when b g) R
unfolding when
G-when true g h k = h refl
G-when false g h k = G-skip (k refl)

pub G-choose : {R : List Line → Type 0} (b : Bool) (g h : Gen) → (b ≡ true → Gives g R) → (b ≡ false → Gives h R) → Gives (choose b g h) R
unfolding choose
G-choose true g h i k = i refl
G-choose false g h i k = k refl

-- a refusal that was not given
pub G-unless : {R : List Line → Type 0} (b : Bool) (e : ℕ) (h : Gen) → (b ≡ false → Gives h R) → Gives (when b (refuse e) >> h) R
unfolding when
G-unless true e h k = G-then {P = λ L. ⊥} h (G-refuse e) (λ L i. absurd i)
G-unless false e h k = G-then {P = λ L. L ≡ []} h (G-skip refl) (λ L i. rw i (k refl))

pub G-fresh : {R : List Line → Type 0} (g : ℕ → Gen) → ((n : ℕ) → Gives (g n) R) → Gives (fresh g) R
unfolding fresh
G-fresh g k = record { made = λ c. (k c).made (suc c) }

pub G-reserve : {R : List Line → Type 0} (k : ℕ) (g : ℕ → Gen) → ((n : ℕ) → Gives (g n) R) → Gives (reserve k g) R
unfolding reserve
G-reserve k g h = record { made = λ c. (h c).made (c + k) }

pub G-map : {g : Gen} {P R : List Line → Type 0} → Gives g P → ((L : List Line) → P L → R L) → Gives g R
G-map {P} {R} a k = record { made = λ c. H-map (a.made c) (λ p i. k p.lines i) }

-- for every x alike
pub G-all : {X : Type 0} {g : Gen} {P : X → List Line → Type 0} → ((x : X) → Gives g (P x)) → Gives g (λ L. (x : X) → P x L)
G-all k = record { made = λ c. H-each (λ x. (k x).made c) }

-- what a generator gave
pub record Made (g : Gen) (L : List Line) : Type 0 where
  pub counter : ℕ
  pub out : Out
  pub made : g counter ≡ ok out
  pub lines_eq : out.lines ≡ L

pub G-self : (g : Gen) → Gives g (Made g)
G-self g = record { made = λ c. H-map (H-self (g c)) (λ p e. record { counter = c; out = p; made = e; lines_eq = refl }) }

pub G-use : {g : Gen} {P : List Line → Type 0} (L : List Line) → Made g L → Gives g P → P L
G-use {g} {P} L m a = subst P m.lines_eq (H-use m.out m.made (a.made m.counter))

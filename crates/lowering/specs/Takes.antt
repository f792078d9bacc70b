-- How many labels a way of generating takes: what the law of `Labels` is made of.
use Rattle.std.specs.Prelude.{ℕ, suc, ◌+◌, ◌≡◌, Bool, true, false, List, [], ◌∷◌}
use Rattle.std.proofs.Common.{ap, arith}
use Rattle.book.specs.Result.{Result, ok, err, bind, err_no_ok, bind_ok}
use Rattle.assembly.specs.Line.{Line}
use Rattle.lowering.specs.Gen.{Out, Gen, lines, line, skip, refuse, after, ◌>>=◌, ◌>>◌, when, choose, fresh, reserve, each}

-- whoever generates so takes k labels
pub record Takes (g : Gen) (k : ℕ) : Type 0 where
  pub takes : (n : ℕ) (o : Out) → g n ≡ ok o → o.next ≡ n + k

-- ---- the ways of generating
pub lines_takes : (ls : List Line) → Takes (lines ls) 0
unfolding lines
lines_takes ls = record { takes = λ n o h. let e : n ≡ o.next = ap next_of h in omega arith }
  where
    next_of : Result Out → ℕ
    next_of (ok o) = o.next
    next_of (err e) = 0

pub line_takes : (l : Line) → Takes (line l) 0
unfolding line
line_takes l = lines_takes (l ∷ [])

pub skip_takes : Takes skip 0
unfolding skip
skip_takes = lines_takes []

pub refuse_takes : (e k : ℕ) → Takes (refuse e) k
unfolding refuse
refuse_takes e k = record { takes = λ n o h. err_no_ok e o h }

pub bind_takes : {A : Type 0} {k : ℕ} (r : Result A) (g : A → Gen) → ((a : A) → Takes (g a) k) → Takes (r >>= g) k
unfolding ◌>>=◌
bind_takes r g t = record { takes = λ n o h. let x = bind_ok r (λ a. g a n) o h in (t x.0).takes n o x.2 }

after_next : (ls : List Line) (q o : Out) → ok (after ls q) ≡ ok o → q.next ≡ o.next
unfolding after
after_next ls q o h = let e : after ls q ≡ o = cc in ap (λ (p : Out). p.next) e

pub then_takes : {j k : ℕ} (g h : Gen) → Takes g j → Takes h k → Takes (g >> h) (j + k)
unfolding ◌>>◌
then_takes {j} {k} g h s t = record { takes = go }
  where
    go : (n : ℕ) (o : Out) → bind (g n) (λ p. bind (h p.next) (λ q. ok (after p.lines q))) ≡ ok o → o.next ≡ n + (j + k)
    go n o e =
        let x = bind_ok (g n) (λ p. bind (h p.next) (λ q. ok (after p.lines q))) o e in
        let y = bind_ok (h x.0.next) (λ q. ok (after x.0.lines q)) o x.2 in
        let a = s.takes n x.0 x.1 in
        let b = t.takes x.0.next y.0 y.1 in
        let c = after_next x.0.lines y.0 o y.2 in
        omega arith

pub quiet_then : (g h : Gen) → Takes g 0 → Takes h 0 → Takes (g >> h) 0
quiet_then g h s t = then_takes g h s t

pub as_many : {g : Gen} {j k : ℕ} → Takes g j → j ≡ k → Takes g k
as_many t q = record { takes = λ n o h. let e = t.takes n o h in omega arith }

pub when_takes : (b : Bool) (g : Gen) → Takes g 0 → Takes (when b g) 0
unfolding when
when_takes true g t = t
when_takes false g t = skip_takes

pub choose_takes : {k : ℕ} (b : Bool) (g h : Gen) → Takes g k → Takes h k → Takes (choose b g h) k
unfolding choose
choose_takes true g h s t = s
choose_takes false g h s t = t

pub fresh_takes : {k : ℕ} (g : ℕ → Gen) → ((l : ℕ) → Takes (g l) k) → Takes (fresh g) (suc k)
unfolding fresh
fresh_takes g t = record { takes = λ n o h. let e = (t n).takes (suc n) o h in omega arith }

pub reserve_takes : {k : ℕ} (j : ℕ) (g : ℕ → Gen) → ((l : ℕ) → Takes (g l) k) → Takes (reserve j g) (j + k)
unfolding reserve
reserve_takes j g t = record { takes = λ n o h. let e = (t n).takes (n + j) o h in omega arith }

pub each_takes : {A : Type 0} (f : A → Gen) (xs : List A) → ((x : A) → Takes (f x) 0) → Takes (each f xs) 0
unfolding each
each_takes f [] t = skip_takes
each_takes f (x ∷ xs) t = quiet_then (f x) (each f xs) (t x) (each_takes f xs t)

pub ruleset quiet = (bind_takes, quiet_then, line_takes, lines_takes, skip_takes, refuse_takes, when_takes, choose_takes, each_takes)

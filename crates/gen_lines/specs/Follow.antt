-- How generators follow what is asked for, a test, a label, and each other in a list.
use Rattle.std.specs.Prelude.{◌≡◌, ℕ, ◌+◌, ◌%◌, ◌^◌, ◌<◌, Bool, true, false, List, [], ◌∷◌, ◌++◌}
use Rattle.std.proofs.Math.Path.{refl, sym, ap, subst}
use Rattle.std.proofs.Common.{◌∙◌, append_assoc, arith, add-one, mod-eq_of_lt}
use Rattle.book.specs.Result.{Result, ok, err, bind}
use Rattle.assembly.specs.Line.{Line}
use Rattle.lowering.specs.Gen.{Gen, Out, lines, skip, after, ◌>>=◌, ◌>>◌, when, choose, fresh, reserve, each, then_skip}
use Rattle.gen_lines.specs.declared.Reached.{Reached}
use Rattle.gen_lines.specs.Puts.{Puts, After, Able, Barred, is_refused, made_refused, made_fresh, refused_before, refused_now, skip_puts, then_puts, same_puts}

-- ---- what is asked for: the code has x, or it refused as r does
abbrev pub Answered : {A : Type 0} → Result A → (s t : Reached) → A → Type 0
Answered (ok a) s t x = (t ≡ s) × (x ≡ a)
Answered (err e) s t x = Barred e t

pub record Asked {A : Type 0} (r : Result A) (s t : Reached) (x : A) : Type 0 where
  pub stays : is_refused s ≡ true → Barred s.refused t
  pub goes : is_refused s ≡ false → Answered r s t x

module _ {A : Type 0} {r : Result A} (f : A → Gen) {s t u : Reached} {x : A} {ks os ks' os' : List ℕ} where
  pub asked_puts : Asked r s t x → Puts (f x) t u ks os ks' os' → Puts (r >>= f) s u ks os ks' os'
  unfolding ◌>>=◌ bind
  asked_puts q p =
      record {
        long_kinds = p.long_kinds;
        long_operands = p.long_operands;
        stays = λ h. later (q.stays h);
        goes = λ n a. go n a r (q.goes a.going);
      }
    where
      later : {e : ℕ} → Barred e t → Barred e u
      later b = let d = p.stays b.refused in record { refused = d.refused; number = d.number ∙ b.number }

      go : (n : ℕ) → Able s ks os n → (r : Result A) → Answered r s t x → After (bind r (λ a. f a n)) s.at u ks os ks' os'
      go n a (err e) b = later b
      go n a (ok y) (i, j) =
          let w : After (f x n) t.at u ks os ks' os' = p.goes n (subst (λ (v : Reached). Able v ks os n) (sym i) a) in
          subst (λ (z : A). After (f z n) s.at u ks os ks' os') j (subst (λ (v : Reached). After (f x n) v.at u ks os ks' os') i w)

-- an answer that is there
pub asked_ok : {A : Type 0} (s : Reached) (x : A) → Asked (ok x) s s x
asked_ok s x = record { stays = λ r. record { refused = r; number = refl }; goes = λ r. (refl, refl) }

-- a refusal
pub asked_err : {A : Type 0} (e : ℕ) → 0 < e → (s : Reached) {t : Reached} (x : A) → t ≡ made_refused s e → Asked (err e) s t x
asked_err e p s x h = record { stays = refused_before e p s h; goes = refused_now e p s h }

-- ---- tests
module _ {g h : Gen} {s t : Reached} {ks os ks' os' : List ℕ} where
  pub choose_puts : (b : Bool) → (b ≡ true → Puts g s t ks os ks' os') → (b ≡ false → Puts h s t ks os ks' os') → Puts (choose b g h) s t ks os ks' os'
  unfolding choose
  choose_puts true p q = p refl
  choose_puts false p q = q refl

module _ {g : Gen} {s t : Reached} {ks os ks' os' : List ℕ} where
  pub when_puts : (b : Bool) → (b ≡ true → Puts g s t ks os ks' os') → (b ≡ false → Puts skip s t ks os ks' os') → Puts (when b g) s t ks os ks' os'
  unfolding when
  when_puts true p q = p refl
  when_puts false p q = q refl

-- ---- labels
module _ {f : ℕ → Gen} (k : ℕ) {s t u : Reached} {ks os ks' os' : List ℕ} where
  pub reserve_puts : t ≡ made_fresh s k → s.counter < 2 ^ 64 → ((n : ℕ) → s.counter ≡ n % 2 ^ 64 → Puts (f n) t u ks os ks' os')
      → Puts (reserve k f) s u ks os ks' os'
  unfolding reserve
  reserve_puts h few p =
      let own = p s.counter (sym (mod-eq_of_lt few)) in
      record {
        long_kinds = own.long_kinds;
        long_operands = own.long_operands;
        stays = λ r. let d = own.stays (ap is_refused h ∙ r) in record { refused = d.refused; number = d.number ∙ ap (λ (v : Reached). v.refused) h };
        goes = λ n a.
            let c : t.counter ≡ (n + k) % 2 ^ 64 = ap (λ (v : Reached). v.counter) h ∙ rw a.counts (omega arith) in
            let b : Able t ks os (n + k) = record {
              going = ap is_refused h ∙ a.going;
              within = rw h a.within;
              few_kinds = a.few_kinds;
              few_operands = a.few_operands;
              counts = c;
            } in
            subst (λ (x : ℕ). After (f n (n + k)) x u ks os ks' os') (ap (λ (v : Reached). v.at) h) ((p n a.counts).goes (n + k) b);
      }

module _ {f : ℕ → Gen} {s t u : Reached} {ks os ks' os' : List ℕ} where
  pub fresh_puts : t ≡ made_fresh s 1 → s.counter < 2 ^ 64 → ((n : ℕ) → s.counter ≡ n % 2 ^ 64 → Puts (f n) t u ks os ks' os')
      → Puts (fresh f) s u ks os ks' os'
  unfolding reserve fresh
  fresh_puts h few p = same_puts (λ n. ap (f n) (add-one n)) (reserve_puts 1 h few p)

-- ---- lists
unit_left : (g : Gen) (n : ℕ) → (skip >> g) n ≡ g n
unfolding ◌>>◌ skip lines bind after
unit_left g n = at (g n)
  where
    at : (r : Result Out) → bind r (λ q. ok (after [] q)) ≡ r
    at (ok out) = refl
    at (err e) = refl

assoc : (g h k : Gen) (n : ℕ) → ((g >> h) >> k) n ≡ (g >> (h >> k)) n
unfolding ◌>>◌ bind after
assoc g h k n = first (g n)
  where
    third : (a b : List Line) (r : Result Out) → bind r (λ q. ok (after (a ++ b) q)) ≡ bind (bind r (λ q. ok (after b q))) (λ q. ok (after a q))
    third a b (ok out) = ap ok (λ i. record { lines = append_assoc a b out.lines i; next = out.next })
    third a b (err e) = refl

    second : (a : List Line) (r : Result Out) → bind (bind r (λ q. ok (after a q))) (λ p. bind (k p.next) (λ q. ok (after p.lines q)))
        ≡ bind (bind r (λ p. bind (k p.next) (λ q. ok (after p.lines q)))) (λ q. ok (after a q))
    second a (ok out) = third a out.lines (k out.next)
    second a (err e) = refl

    first : (r : Result Out) → bind (bind r (λ p. bind (h p.next) (λ q. ok (after p.lines q)))) (λ p. bind (k p.next) (λ q. ok (after p.lines q)))
        ≡ bind r (λ p. bind (bind (h p.next) (λ p. bind (k p.next) (λ q. ok (after p.lines q)))) (λ q. ok (after p.lines q)))
    first (ok out) = second out.lines (h out.next)
    first (err e) = refl

-- a generator in front of two equal ones
then_same : (g h k : Gen) → ((n : ℕ) → h n ≡ k n) → (n : ℕ) → (g >> h) n ≡ (g >> k) n
unfolding ◌>>◌ bind
then_same g h k e n = at (g n)
  where
    at : (r : Result Out) → bind r (λ p. bind (h p.next) (λ q. ok (after p.lines q))) ≡ bind r (λ p. bind (k p.next) (λ q. ok (after p.lines q)))
    at (ok out) = ap (λ r. bind r (λ q. ok (after out.lines q))) (e out.next)
    at (err e) = refl

-- four generators as one, and what follows them
pub four_then : (g h k l rest : Gen) (n : ℕ) → ((g >> (h >> (k >> l))) >> rest) n ≡ (g >> (h >> (k >> (l >> rest)))) n
four_then g h k l rest n = assoc g (h >> (k >> l)) rest n ∙ then_same g _ _ (λ m. assoc h (k >> l) rest m ∙ then_same h _ _ (assoc k l rest) m) n

module _ {A : Type 0} (f : A → Gen) where
  each_append : (xs : List A) (x : A) (n : ℕ) → (each f xs >> f x) n ≡ each f (xs ++ (x ∷ [])) n
  unfolding each
  each_append [] x n = unit_left (f x) n ∙ sym (ap (λ (g : Gen). g n) (then_skip (f x)))
  each_append (y ∷ ys) x n = assoc (f y) (each f ys) (f x) n ∙ then_same (f y) _ _ (each_append ys x) n

  -- nothing of a list, and one more of it
  pub none_puts : (s : Reached) (ks os : List ℕ) → Puts (each f []) s s ks os ks os
  unfolding each
  none_puts s ks os = skip_puts s ks os

  pub more_puts : {s t u : Reached} {ks os ks' os' ks'' os'' : List ℕ} (xs : List A) (x : A) → Puts (each f xs) s t ks os ks' os' → Puts (f x) t u ks' os' ks'' os''
      → Puts (each f (xs ++ (x ∷ []))) s u ks os ks'' os''
  more_puts xs x p q = same_puts (each_append xs x) (then_puts p q)

-- Ways of generating whose lines are all allowed: what the law of `Printable` is made of.
use Rattle.std.specs.Prelude.{ℕ, suc, ◌+◌, ◌≡◌, Bool}
use Rattle.std.proofs.Math.Path.{refl, sym, subst}
use Rattle.std.proofs.Common.{ap}
use Rattle.std.proofs.Math.Bool.{true, false}
use mathlib.Core.List.{List, [], ◌∷◌, ◌++◌}
use Rattle.book.specs.Ast.{BinOp, ICmpPred, Book}
use Rattle.book.specs.Result.{Result, ok, err, bind, err_no_ok, bind_ok}
use Rattle.book.specs.Limits.{Each}
use Rattle.assembly.specs.Line.{Line, Work, Mem, Hint}
use Rattle.assembly.specs.Number.{allowed}
use Rattle.assembly.specs.Lists.{AllAllowed}
use Rattle.lowering.specs.Gen.{Out, Gen, lines, line, skip, refuse, after, ◌>>=◌, ◌>>◌, when, choose, fresh, reserve, each}

lines_of : Result Out → List Line
lines_of (ok o) = o.lines
lines_of (err e) = []

module _ (names : List (List ℕ)) (b : Book) where
  pub record Allows (g : Gen) : Type 0 where
    pub allows : (n : ℕ) (o : Out) → g n ≡ ok o → AllAllowed names b o.lines

  all_append : {ls ms : List Line} → AllAllowed names b ls → AllAllowed names b ms → AllAllowed names b (ls ++ ms)
  all_append AllAllowed.none q = q
  all_append (AllAllowed.one h p) q = AllAllowed.one h (all_append p q)

  -- ---- the ways of generating
  pub lines_allows : (ls : List Line) → AllAllowed names b ls → Allows (lines ls)
  unfolding lines lines_of
  lines_allows ls p = record { allows = λ n o h. subst (AllAllowed names b) (ap lines_of h) p }

  pub line_allows : (l : Line) → allowed names b l ≡ true → Allows (line l)
  unfolding line
  line_allows l h = lines_allows (l ∷ []) (AllAllowed.one h AllAllowed.none)

  pub skip_allows : Allows skip
  unfolding skip
  skip_allows = lines_allows [] AllAllowed.none

  pub refuse_allows : (e : ℕ) → Allows (refuse e)
  unfolding refuse
  refuse_allows e = record { allows = λ n o h. err_no_ok e o h }

  pub bind_allows : {A : Type 0} (r : Result A) (g : A → Gen) → ((a : A) → r ≡ ok a → Allows (g a)) → Allows (r >>= g)
  unfolding ◌>>=◌
  bind_allows r g t = record { allows = λ n o h. let x = bind_ok r (λ a. g a n) o h in (t x.0 x.1).allows n o x.2 }

  pub any_allows : {A : Type 0} (r : Result A) (g : A → Gen) → ((a : A) → Allows (g a)) → Allows (r >>= g)
  any_allows r g t = bind_allows r g (λ a h. t a)

  -- what stands behind a test that refuses may count on it
  pub then_when : (g h : Gen) → Allows g → ((n : ℕ) (o : Out) → g n ≡ ok o → Allows h) → Allows (g >> h)
  unfolding ◌>>◌ after
  then_when g h s t = record { allows = go }
    where
      go : (n : ℕ) (o : Out) → bind (g n) (λ p. bind (h p.next) (λ q. ok (after p.lines q))) ≡ ok o → AllAllowed names b o.lines
      go n o e =
          let x = bind_ok (g n) (λ p. bind (h p.next) (λ q. ok (after p.lines q))) o e in
          let y = bind_ok (h x.0.next) (λ q. ok (after x.0.lines q)) o x.2 in
          let c : after x.0.lines y.0 ≡ o = cc y.2 in
          subst (λ (z : Out). AllAllowed names b z.lines) c (all_append (s.allows n x.0 x.1) ((t n x.0 x.1).allows x.0.next y.0 y.1))

  pub then_allows : (g h : Gen) → Allows g → Allows h → Allows (g >> h)
  then_allows g h s t = then_when g h s (λ n o e. t)

  pub guard_allows : (t : Bool) (e : ℕ) (h : Gen) → (t ≡ false → Allows h) → Allows (when t (refuse e) >> h)
  unfolding when refuse
  guard_allows true e h k = then_when (refuse e) h (refuse_allows e) (λ n o q. err_no_ok e o q)
  guard_allows false e h k = then_allows skip h skip_allows (k refl)

  pub when_allows : (t : Bool) (g : Gen) → Allows g → Allows (when t g)
  unfolding when
  when_allows true g k = k
  when_allows false g k = skip_allows

  pub when_true : (t : Bool) (g : Gen) → (t ≡ true → Allows g) → Allows (when t g)
  unfolding when
  when_true true g k = k refl
  when_true false g k = skip_allows

  pub choose_allows : (t : Bool) (g h : Gen) → (t ≡ true → Allows g) → Allows h → Allows (choose t g h)
  unfolding choose
  choose_allows true g h s k = s refl
  choose_allows false g h s k = k

  pub fresh_allows : (g : ℕ → Gen) → ((l : ℕ) → Allows (g l)) → Allows (fresh g)
  unfolding fresh
  fresh_allows g t = record { allows = λ n o h. (t n).allows (suc n) o h }

  pub reserve_allows : (j : ℕ) (g : ℕ → Gen) → ((l : ℕ) → Allows (g l)) → Allows (reserve j g)
  unfolding reserve
  reserve_allows j g t = record { allows = λ n o h. (t n).allows (n + j) o h }

  pub each_allows : {A : Type 0} (P : A → Type 0) (f : A → Gen) → ((x : A) → P x → Allows (f x)) → (xs : List A) → Each P xs → Allows (each f xs)
  unfolding each
  each_allows P f t [] p = skip_allows
  each_allows P f t (x ∷ xs) p = then_allows (f x) (each f xs) (t x p.0) (each_allows P f t xs p.1)

  -- ---- a line, and behind it lines that are all allowed
  pub record Opened (l : Line) (ls : List Line) : Type 0 where
    pub rest : List Line
    pub begins : ls ≡ l ∷ rest
    pub allowed_rest : AllAllowed names b rest

  pub record Opens (l : Line) (g : Gen) : Type 0 where
    pub opens : (n : ℕ) (o : Out) → g n ≡ ok o → Opened l o.lines

  pub line_opens : (l : Line) (h : Gen) → Allows h → Opens l (line l >> h)
  unfolding ◌>>◌ line lines after bind lines_of
  line_opens l h s = record {
    opens = λ n o e.
        let x = bind_ok (h n) (λ q. ok (after (l ∷ []) q)) o e in
        record { rest = x.0.lines; begins = sym (ap lines_of x.2); allowed_rest = s.allows n x.0 x.1 };
  }

  pub bind_opens : {A : Type 0} (l : Line) (r : Result A) (g : A → Gen) → ((a : A) → Opens l (g a)) → Opens l (r >>= g)
  unfolding ◌>>=◌
  bind_opens l r g t = record { opens = λ n o h. let x = bind_ok r (λ a. g a n) o h in (t x.0).opens n o x.2 }

  pub opens_allows : (l : Line) (g : Gen) → allowed names b l ≡ true → Opens l g → Allows g
  opens_allows l g h s = record {
    allows = λ n o e.
        let x = s.opens n o e in
        subst (AllAllowed names b) (sym x.begins) (AllAllowed.one h x.allowed_rest);
  }

  -- ---- lines that are allowed whatever they say
  pub push_line : (n : ℕ) → Allows (line (Line.push n))
  unfolding allowed
  push_line n = line_allows _ refl

  pub label_line : (h : Hint) (n : ℕ) → Allows (line (Line.label h n))
  unfolding allowed
  label_line h n = line_allows _ refl

  pub jump_line : (h : Hint) (n : ℕ) → Allows (line (Line.jump h n))
  unfolding allowed
  jump_line h n = line_allows _ refl

  pub bin_line : (op : BinOp) (w : Work) → Allows (line (Line.bin op w))
  unfolding allowed
  bin_line op w = line_allows _ refl

  pub icmp_line : (p : ICmpPred) (w : Work) → Allows (line (Line.icmp p w))
  unfolding allowed
  icmp_line p w = line_allows _ refl

  pub load_line : (m : Mem) → Allows (line (Line.load m))
  unfolding allowed
  load_line m = line_allows _ refl

  pub store_line : (m : Mem) → Allows (line (Line.store m))
  unfolding allowed
  store_line m = line_allows _ refl

  pub atomic_load_line : Allows (line Line.atomic_load)
  unfolding allowed
  atomic_load_line = line_allows _ refl

  pub atomic_store_line : Allows (line Line.atomic_store)
  unfolding allowed
  atomic_store_line = line_allows _ refl

  pub atomic_cas_line : Allows (line Line.atomic_cas)
  unfolding allowed
  atomic_cas_line = line_allows _ refl

  pub memcmp_line : Allows (line Line.sys_memcmp)
  unfolding allowed
  memcmp_line = line_allows _ refl

  pub dup_line : Allows (line Line.dup)
  unfolding allowed
  dup_line = line_allows _ refl

  pub pop_line : Allows (line Line.pop)
  unfolding allowed
  pop_line = line_allows _ refl

  pub ret_line : Allows (line Line.ret)
  unfolding allowed
  ret_line = line_allows _ refl

  pub panic_line : Allows (line Line.panic)
  unfolding allowed
  panic_line = line_allows _ refl

  pub get_line : Allows (line Line.thread_get)
  unfolding allowed
  get_line = line_allows _ refl

  pub set_line_lem : Allows (line Line.thread_set)
  unfolding allowed
  set_line_lem = line_allows _ refl

  pub blank_line : Allows (line Line.blank)
  unfolding allowed
  blank_line = line_allows _ refl

pub ruleset plain = (any_allows, then_allows, when_allows, skip_allows, refuse_allows, push_line, label_line, jump_line, bin_line, icmp_line, load_line, store_line, atomic_load_line, atomic_store_line, atomic_cas_line, memcmp_line, dup_line, pop_line, ret_line, panic_line, get_line, set_line_lem, blank_line)

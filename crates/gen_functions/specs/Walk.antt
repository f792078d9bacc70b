-- All functions, one after the other.
use Rattle.std.specs.Prelude.{ℕ, ◌<◌, ◌≤◌, ◌≡◌, true, false, length}
use Rattle.std.proofs.Math.Path.{refl, subst}
use Rattle.std.proofs.Common.{◌∙◌, arith}
use mathlib.Core.List.{List, [], ◌∷◌}
use Rattle.book.specs.Ast.{Function}
use Rattle.book.specs.Entry.{Entry, entries}
use Rattle.lowering.specs.Gen.{Gen, each}
use Rattle.lowering.specs.Context.{Codegen}
use Rattle.lowering.specs.Function.{gen_function, gen_functions}
use Rattle.gen_lines.specs.declared.Reached.{Reached}
use Rattle.gen_lines.specs.Puts.{Puts, is_refused}
use Rattle.gen_term.specs.Toward.{Toward, toward_none, toward_first, toward_then, toward_skip}
use Rattle.gen_blocks.specs.Function.{FunctionsAt, functions_none, first_before}
use Rattle.gen_prepare.specs.Prepare.{Shared}
use Rattle.gen_clear.specs.Clear.{ClearAsk}
use Rattle.gen_functions.specs.declared.Turn.{Turn}
use Rattle.gen_functions.specs.Turns.{TurnAsk, Turned, never}

pub record FunctionsAsk (m : ℕ) (bk bw : List ℕ) (first last : ℕ) (work : List ℕ) (t : Turn) : Type 0 where
  pub codegen : Codegen
  pub functions : List Function
  pub here : FunctionsAt m (entries bk bw) last first functions
  pub shared : Shared m (entries bk bw) codegen work
  pub ask : ClearAsk m (entries bk bw) t.from t.to work

-- their lines are put. Left free: what the work words hold where one is refused
pub record FunctionsDone (g : Codegen) (fs : List Function) (m : ℕ) (es : List Entry) (work' : List ℕ) (t r : Turn) (ks os ks' os' : List ℕ) : Type 0 where
  pub puts : Puts (gen_functions g fs) t.s r.s ks os ks' os'
  pub again : is_refused r.s ≡ false → Shared m es g work' × ClearAsk m es r.from r.to work'

-- behind a refusal every generator leaves all as it is
refused_puts : (g : Gen) (s : Reached) (ks os : List ℕ) → is_refused s ≡ true → Puts g s s ks os ks os
refused_puts g s ks os e =
    record { long_kinds = refl; long_operands = refl; stays = λ r. record { refused = r; number = refl }; goes = λ n a. never e a.going }

-- ---- on the way
pub record Walked (g : Codegen) (fs : List Function) (m : ℕ) (es : List Entry) (last at : ℕ) (work : List ℕ) (t r : Turn) (ks os ks' os' : List ℕ) : Type 0 where
  pub todo : List Function
  pub left : FunctionsAt m es last at todo
  pub toward : Toward (each (gen_function g) fs) (each (gen_function g) todo) t.s r.s ks os ks' os'
  pub shared : Shared m es g work
  pub ask : ClearAsk m es r.from r.to work

pub record FunctionsWalk (m : ℕ) (bk bw : List ℕ) (first last : ℕ) (work₀ ks os : List ℕ) (t : Turn) (work ks' os' : List ℕ) (at : ℕ) (r : Turn) : Type 0 where
  pub long_work : length work ≡ length work₀
  pub long_lines : length ks' ≡ length ks
  pub long_operands : length os' ≡ length os
  pub walked : (g : Codegen) (fs : List Function) → FunctionsAt m (entries bk bw) last first fs → Shared m (entries bk bw) g work₀ → ClearAsk m (entries bk bw) t.from t.to work₀
      → Walked g fs m (entries bk bw) last at work t r ks os ks' os'

pub walk_start : (m : ℕ) (bk bw : List ℕ) (first last : ℕ) (work ks os : List ℕ) (t : Turn) → FunctionsWalk m bk bw first last work ks os t work ks os first t
walk_start m bk bw first last work ks os t =
    record {
      long_work = refl;
      long_lines = refl;
      long_operands = refl;
      walked = λ g fs h s a. record { todo = fs; left = h; toward = toward_none (each (gen_function g) fs) t.s ks os; shared = s; ask = a };
    }

-- the next one
pub record First (m : ℕ) (es : List Entry) (last at : ℕ) (todo : List Function) : Type 0 where
  pub fn : Function
  pub others : List Function
  pub same : todo ≡ fn ∷ others
  pub here : FunctionsAt m es last at (fn ∷ others)

first_of : {m : ℕ} {es : List Entry} {last at : ℕ} (todo : List Function) → FunctionsAt m es last at todo → at < last → First m es last at todo
first_of [] k l = absurd (omega (arith, functions_none k))
first_of (f ∷ fs) k l = record { fn = f; others = fs; same = refl; here = k }

module _ {m : ℕ} (bk bw : List ℕ) {first last : ℕ} {work₀ ks os : List ℕ} {t : Turn} {work ks' os' : List ℕ} {at : ℕ} {r : Turn}
    (w : FunctionsWalk m bk bw first last work₀ ks os t work ks' os' at r) where
  abbrev es : List Entry
  es = entries bk bw

  asked : (a : FunctionsAsk m bk bw first last work₀ t) → Walked a.codegen a.functions m es last at work t r ks os ks' os'
  asked a = w.walked a.codegen a.functions a.here a.shared a.ask

  pub turn_ask : FunctionsAsk m bk bw first last work₀ t → at < last → TurnAsk m bk bw at last work r
  turn_ask a l =
      let v = asked a in
      let f = first_of v.todo v.left l in
      record { codegen = a.codegen; fn = f.fn; others = f.others; here = f.here; shared = v.shared; ask = v.ask }

  -- what `gen_turn` did
  abbrev pub Did-turn : (work'' : List ℕ) → Turn → (ks'' os'' : List ℕ) → Type 0
  Did-turn work'' u ks'' os'' = (g : Codegen) (f : Function) (fs : List Function) → FunctionsAt m es last at (f ∷ fs) → Shared m es g work → ClearAsk m es r.from r.to work
      → Turned g f fs m es last at work'' r u ks' os' ks'' os''

  -- a refusal ends the walk: of the turn it asks the lines alone, and not where the others stand
  module _ (l : at < last) {work'' ks'' os'' : List ℕ} {u : Turn}
      (lines : (g : Codegen) (f : Function) (fs : List Function) → FunctionsAt m es last at (f ∷ fs) → Shared m es g work → ClearAsk m es r.from r.to work
      → Puts (gen_function g f) r.s u.s ks' os' ks'' os'') where
    pub walk_refused : is_refused u.s ≡ true → (g : Codegen) (fs : List Function) → FunctionsAt m es last first fs → Shared m es g work₀ → ClearAsk m es t.from t.to work₀
        → FunctionsDone g fs m es work'' t u ks os ks'' os''
    unfolding each gen_functions
    walk_refused e g fs h s a =
        let v = w.walked g fs h s a in
        let f = first_of v.todo v.left l in
        let way = subst (λ (xs : List Function). Toward (each (gen_function g) fs) (each (gen_function g) xs) t.s r.s ks os ks' os') f.same v.toward in
        let done = toward_then way (toward_first (each (gen_function g) f.others) (lines g f.fn f.others f.here v.shared v.ask)) in
        record { puts = done.goes u.s ks'' os'' (refused_puts _ u.s ks'' os'' e); again = λ z. never e z }

  module _ (l : at < last) {work'' ks'' os'' : List ℕ} {u : Turn} (one : Did-turn work'' u ks'' os'') where
    pub turn_further : FunctionsAsk m bk bw first last work₀ t → at < u.to
    turn_further a =
        let v = asked a in
        let f = first_of v.todo v.left l in
        (one a.codegen f.fn f.others f.here v.shared v.ask).further

    -- one more
    pub walk_more : is_refused u.s ≡ false → length work'' ≡ length work → length ks'' ≡ length ks' → length os'' ≡ length os'
        → FunctionsWalk m bk bw first last work₀ ks os t work'' ks'' os'' u.to u
    unfolding each
    walk_more e lw lk lo =
        record {
          long_work = lw ∙ w.long_work;
          long_lines = lk ∙ w.long_lines;
          long_operands = lo ∙ w.long_operands;
          walked = λ g fs h s a.
              let v = w.walked g fs h s a in
              let f = first_of v.todo v.left l in
              let d = one g f.fn f.others f.here v.shared v.ask in
              let way = subst (λ (xs : List Function). Toward (each (gen_function g) fs) (each (gen_function g) xs) t.s r.s ks os ks' os') f.same v.toward in
              record {
                todo = f.others;
                left = d.next;
                toward = toward_then way (toward_first (each (gen_function g) f.others) d.puts);
                shared = (d.again e).0;
                ask = (d.again e).1;
              };
        }

  pub walk_done : last ≤ at → (g : Codegen) (fs : List Function) → FunctionsAt m es last first fs → Shared m es g work₀ → ClearAsk m es t.from t.to work₀
      → FunctionsDone g fs m es work t r ks os ks' os'
  unfolding each gen_functions
  walk_done l g fs h s a =
      let v = w.walked g fs h s a in
      let e = none_of v.todo v.left in
      let way = subst (λ (xs : List Function). Toward (each (gen_function g) fs) (each (gen_function g) xs) t.s r.s ks os ks' os') e v.toward in
      record { puts = toward_skip way; again = λ z. (v.shared, v.ask) }
    where
      none_of : (todo : List Function) → FunctionsAt m es last at todo → todo ≡ []
      none_of [] k = refl
      none_of (f ∷ fs) k = absurd (omega (arith, first_before k))

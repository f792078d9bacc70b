-- One function: the words that the last one set are cleared, then its own are filled, then come its lines.
use Rattle.std.specs.Prelude.{ℕ, ◌+◌, ◌<◌, ◌≡◌, refl, Bool, true, false, List, ◌∷◌, ◌++◌, length, drop}
use Rattle.std.proofs.Math.Path.{sym, ap}
use Rattle.std.proofs.Common.{subst, ◌∙◌, arith, length-append, length-drop}
use Rattle.std.proofs.Math.Bool.{cond}
use Rattle.book.specs.Ast.{Function}
use Rattle.book.specs.Entry.{Entry, entries}
use Rattle.book.specs.Encode.{closed, enc_basic_block, enc_function, function_long}
use Rattle.book.specs.Result.{Result, ok, err, bind}
use Rattle.book.specs.Refusal.{number_of, number_positive}
use Rattle.book.specs.Shape.{all_insts}
use Rattle.book.specs.declared.refusal.Refusal.{Refusal}
use Rattle.book_types.specs.Laws.{length_entries}
use Rattle.layout.specs.Frame.{Places, frame_pass, no_frame, framed}
use Rattle.lowering.specs.Gen.{refuse, ◌>>=◌}
use Rattle.lowering.specs.Context.{Codegen, FnCtx}
use Rattle.lowering.specs.Function.{gen_lines, context_of, total_slots, gen_function}
use Rattle.gen_lines.specs.declared.Reached.{Reached}
use Rattle.gen_lines.specs.Puts.{Puts, is_refused, made_refused, refuse_puts, same_puts}
use Rattle.gen_values.specs.Maps.{Did}
use Rattle.gen_blocks.specs.Function.{function_in, behind_in, FunctionsAt, first_is, first_at, next_at}
use Rattle.gen_prepare.specs.declared.Prepared.{Prepared}
use Rattle.gen_prepare.specs.Prepare.{Shared, PrepareAsk, PreparedAs, FunctionStands, PreparedAt, PlaceRefused, SetUp}
use Rattle.gen_function.specs.Function.{FunctionHere, FunctionAsk, Framed, slots_of}
use Rattle.gen_clear.specs.Clear.{AllCleared, ClearAsk, shared_after, function_ask}
use Rattle.gen_functions.specs.declared.Turn.{Turn}

-- a function stands at the place, and others behind it; what functions share, and what is left to clear
pub record TurnAsk (m : ℕ) (bk bw : List ℕ) (at last : ℕ) (work : List ℕ) (t : Turn) : Type 0 where
  pub codegen : Codegen
  pub fn : Function
  pub others : List Function
  pub here : FunctionsAt m (entries bk bw) last at (fn ∷ others)
  pub shared : Shared m (entries bk bw) codegen work
  pub ask : ClearAsk m (entries bk bw) t.from t.to work

-- its lines are put, and the others stand behind it. Left free: what the work words hold where it is refused
pub record Turned (g : Codegen) (f : Function) (fs : List Function) (m : ℕ) (es : List Entry) (last at : ℕ) (work' : List ℕ) (t r : Turn) (ks os ks' os' : List ℕ) : Type 0 where
  pub puts : Puts (gen_function g f) t.s r.s ks os ks' os'
  pub next : FunctionsAt m es last r.to fs
  pub further : at < r.to
  pub again : is_refused r.s ≡ false → Shared m es g work' × ClearAsk m es r.from r.to work'

-- no answer is refused and not
pub never : {A : Type 0} {b : Bool} → b ≡ true → b ≡ false → A
never p q = absurd (let z : ◌≡◌ {A = ℕ} 0 1 = cc in omega arith)

module _ {m : ℕ} (bk bw : List ℕ) {at last : ℕ} (g : Codegen) (f : Function) (fs : List Function) (here : FunctionsAt m (entries bk bw) last at (f ∷ fs)) where
  abbrev es : List Entry
  es = entries bk bw

  abbrev fn : Function
  fn = function_in m (entries bk bw) at

  front : drop at es ≡ enc_function f ++ behind_in m es at
  front = (first_at here).here ∙ ap (λ (h : Function). enc_function h ++ behind_in m es at) (first_is here)

  -- ---- where it stands, refused or not
  module _ {p b e : ℕ} (s : FunctionStands m es at p b e) where
    end_is : e ≡ at + length (enc_function f)
    end_is =
        omega (arith, ap length front, ap length s.after, length-append (enc_function f) (behind_in m es at), length-drop at es, length-drop e es, here.there, s.there)

    pub next : FunctionsAt m es last e fs
    next = next_at here e s.there s.after

    pub further : at < e
    further = omega (arith, end_is, function_long f)

    first_blocks : drop b es ≡ closed enc_basic_block f.blocks ++ behind_in m es at
    first_blocks = s.blocks ∙ ap (λ (h : Function). closed enc_basic_block h.blocks ++ behind_in m es at) (first_is here)

  pub function_here : {r : Prepared} → FunctionStands m es at r.at r.blocks r.end → FunctionHere m bk bw r f
  function_here {r} s =
      record {
        rest = behind_in m es at;
        here = ap (λ (n : ℕ). drop n es) s.at ∙ front;
        blocks = record {
          rest = behind_in m es at;
          here = first_blocks s;
          ends = omega (arith, ap length s.after, length-drop r.end es, s.there);
          keeps = here.limits.0.1.1.1;
          few = here.few;
          there = s.first_there;
        };
        order =
            omega (
              arith,
              ap length (first_blocks s),
              ap length s.after,
              length-append (closed enc_basic_block f.blocks) (behind_in m es at),
              length-drop r.blocks es,
              length-drop r.end es,
              s.first_there,
              s.there,
            );
        in_kinds = omega (arith, s.there, length_entries bk bw);
      }

  -- ---- what `prepare` asks
  module _ {work₀ : List ℕ} (shared₀ : Shared m es g work₀) {work : List ℕ} (c : AllCleared m work₀ work) where
    shared : Shared m es g work
    shared = shared_after shared₀ c

    pub prepare_ask : PrepareAsk m es last at work
    prepare_ask = record { fn = first_at here; clean = c.clean; room = shared.room; measured = shared.measured }

    -- a place is refused
    pub refused_turn : (x : Refusal) → PlaceRefused m es at work x → {s t : Reached} (ks os : List ℕ) → t ≡ made_refused s (number_of x) → Puts (gen_function g f) s t ks os ks os
    unfolding gen_function ◌>>=◌ bind refuse
    refused_turn x d {s} {t} ks os q =
        go (frame_pass g.structs (all_insts f.blocks) no_frame)
        (subst (λ (h : Function). frame_pass g.structs (all_insts h.blocks) no_frame ≡ err (number_of x)) (first_is here) (d g shared))
      where
        go : (p : Result Places) → p ≡ err (number_of x) → Puts (p >>= (λ fr. gen_lines (context_of g f fr) f (total_slots g f fr))) s t ks os ks os
        go (ok fr) z = absurd (let y : ◌≡◌ {A = ℕ} 0 1 = cc in omega arith)
        go (err n) z =
            let e : number_of x ≡ n = cc in
            same_puts (λ k. refl) (refuse_puts n (subst (λ (k : ℕ). 0 < k) e (number_positive x)) s ks os (q ∙ ap (made_refused s) e))

    -- ---- what it answers
    module _ {work' : List ℕ} {r : Prepared} (d : PreparedAt m es at work work' r) where
      says : PreparedAs (frame_pass g.structs (all_insts f.blocks) no_frame) g f m es work' r
      says = subst (λ (h : Function). PreparedAs (frame_pass g.structs (all_insts h.blocks) no_frame) g h m es work' r) (first_is here) (d.says g shared)

      -- the function's context
      pub record Context : Type 0 where
        pub places : Places
        pub is : frame_pass g.structs (all_insts f.blocks) no_frame ≡ ok places
        pub set : SetUp g f places m es work' r

      pub context : Context
      context = go (frame_pass g.structs (all_insts f.blocks) no_frame) refl says
        where
          go : (p : Result Places) → frame_pass g.structs (all_insts f.blocks) no_frame ≡ p → PreparedAs p g f m es work' r → Context
          go (ok fr) i z = record { places = fr; is = i; set = z }
          go (err n) i z = absurd z

      abbrev ctx : FnCtx
      ctx = context_of g f context.places

      pub context_framed : Framed ctx r
      context_framed = record { slots = context.set.slots; size = context.set.size; framed = context.set.framed }

      pub function_asked : FunctionAsk m bk bw r work'
      function_asked = record { ctx = ctx; maps = context.set.maps; framed = context_framed; fn = f; here = function_here d.stands; few = d.few }

      total_is : total_slots g f context.places ≡ slots_of r
      unfolding total_slots slots_of context_of
      total_is = ap (λ (n : ℕ). n + cond (framed context.places) 1 0) context.set.slots ∙ ap (λ (b : Bool). r.slots + cond b 1 0) context.set.framed

      generated_is : (n : ℕ) → gen_lines ctx f (slots_of r) n ≡ gen_function g f n
      unfolding gen_function ◌>>=◌ bind
      generated_is n =
          sym (ap (λ (p : Result Places). bind p (λ fr. gen_lines (context_of g f fr) f (total_slots g f fr) n)) context.is ∙ ap (λ (j : ℕ). gen_lines ctx f j n) total_is)

      -- its lines
      module _ {work'' : List ℕ} {s t : Reached} {ks os ks' os' : List ℕ} (did : Did (gen_lines ctx f (slots_of r)) m es ctx work'' s t ks os ks' os') where
        pub lines_put : Puts (gen_function g f) s t ks os ks' os'
        lines_put = same_puts generated_is did.puts

        -- what the next function needs
        pub for_next : Shared m es g work'' × ClearAsk m es at r.end work''
        unfolding context_of
        for_next =
            let k = did.maps in (
              record { room = k.room; marks = k.marks; structs = k.structs; measured = k.measured },
              function_ask m es work'' at r.end g f context.places (behind_in m es at) front here.there (end_is d.stands) here.limits.0 here.few context.is k,
            )

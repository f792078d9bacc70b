-- A pass that counts and one that writes: together they answer as the definition does.
use Rattle.std.specs.Prelude.{ℕ, ◌+◌, ◌<◌, ◌≤◌, ◌%◌, ◌^◌, min, ◌≡◌, Bool, true, false, drop, eqb, leb, Ok, Err}
use Rattle.std.proofs.Math.Path.{refl, ap}
use Rattle.std.proofs.Common.{sym, subst, ◌∙◌, ⊎_elim, arith, mod-eq_of_lt, eq-eqb, eqb-true, le-leb}
use Rattle.std.proofs.Math.Bool.{not}
use mathlib.Core.List.{List, ◌++◌, map}
use Rattle.std.proofs.Math.ListN.{length, take}
use Rattle.std.proofs.lemmas.List.Edits.{sets, sets-eq}
use Rattle.std.proofs.lemmas.Bool.{lt-leb}
use Rattle.book.specs.Ast.{Function}
use Rattle.book.specs.Entry.{entries}
use Rattle.book.specs.Refusal.{number_of}
use Rattle.book.specs.declared.refusal.Refusal.{Refusal}
use Rattle.book.specs.Result.{Result, ok, err, bind, given}
use Rattle.assembly.specs.Number.{kind_of}
use Rattle.lowering.specs.Context.{Codegen}
use Rattle.lowering.specs.Function.{gen_functions}
use Rattle.lowering.specs.Gen.{Gen, Out}
use Rattle.lowering.specs.Numbers.{Refuses, refusal_range}
use Rattle.lowering.proofs.Printable.{take_over}
use Rattle.lowering.specs.Translate.{over}
use Rattle.gen_lines.specs.declared.Reached.{Reached}
use Rattle.gen_lines.specs.Puts.{Puts, Able, After, is_refused, most, operand_word, map_length}
use Rattle.gen_slices.specs.Fits.{FitOf}
use Rattle.gen_blocks.specs.Function.{FunctionsAt}
use Rattle.gen_prepare.specs.Prepare.{Clean, Shared}
use Rattle.gen_clear.specs.Clear.{ClearAsk, none_ask}
use Rattle.gen_passes.specs.Reply.{Reply}

-- what was generated, where it fits in so many lines
abbrev pub fitted : Result Out → (room : ℕ) → Result Out
fitted r room = bind r (λ out. given (leb (length out.lines) room) 20 out)

-- the lines stand in the slices, the rest is as it was; counter and operands as words
pub record Accepts (out : Out) (r : Reply) (ks os ks' os' : List ℕ) : Type 0 where
  pub reply : r ≡ Ok (record { lines = length out.lines; counter = out.next % 2 ^ 64 })
  pub kinds : ks' ≡ over (map kind_of out.lines) ks
  pub operands : os' ≡ over (map operand_word out.lines) os

-- nothing is changed
pub record Denies (e : ℕ) (r : Reply) (ks os ks' os' : List ℕ) : Type 0 where
  pub refusal : Refusal
  pub reply : r ≡ Err refusal
  pub number : number_of refusal ≡ e
  pub kinds : ks' ≡ ks
  pub operands : os' ≡ os

abbrev pub Answered : Result Out → Reply → (ks os ks' os' : List ℕ) → Type 0
Answered (ok out) r ks os ks' os' = Accepts out r ks os ks' os'
Answered (err e) r ks os ks' os' = Denies e r ks os ks' os'

-- "the shorter line slice counts"
abbrev pub room : (ks os : List ℕ) → ℕ
room ks os = min (length ks) (length os)

-- the functions stand from the place `first` on, up to `last`; the work words hold what they share, and nothing of any of them
pub record PassAsk (m : ℕ) (bk bw : List ℕ) (first last : ℕ) (work : List ℕ) : Type 0 where
  pub codegen : Codegen
  pub functions : List Function
  pub here : FunctionsAt m (entries bk bw) last first functions
  pub shared : Shared m (entries bk bw) codegen work
  pub clean : Clean m work

-- the answer is the definition's for whatever the functions share
abbrev pub Passed : (m : ℕ) (bk bw : List ℕ) (first last counter : ℕ) (work : List ℕ) (r : Reply) (ks os ks' os' : List ℕ) → Type 0
Passed m bk bw first last counter work r ks os ks' os' =
    (g : Codegen) (fs : List Function) → FunctionsAt m (entries bk bw) last first fs → Shared m (entries bk bw) g work → Clean m work
    → Answered (fitted (gen_functions g fs counter) (room ks os)) r ks os ks' os'

-- nothing is left to clear before the first pass
pub clear_first : {m : ℕ} (bk bw : List ℕ) {first last : ℕ} {work : List ℕ} {g : Codegen} {fs : List Function}
    → FunctionsAt m (entries bk bw) last first fs → Shared m (entries bk bw) g work → Clean m work → ClearAsk m (entries bk bw) 0 0 work
clear_first {m} bk bw {first} {last} {work} h s c = none_ask m (entries bk bw) work c (omega (arith, s.room)) h.few

-- where both passes begin
abbrev pub start : ℕ → Reached
start counter = record { at = 0; counter = counter; refused = 0 }

pub start_able : (counter : ℕ) (ks os : List ℕ) → counter < 2 ^ 64 → length ks ≤ most → length os ≤ most → Able (start counter) ks os counter
start_able counter ks os small few-ks few-os =
    record { going = refl; within = omega arith; few_kinds = few-ks; few_operands = few-os; counts = sym (mod-eq_of_lt small) }

-- no answer is refused and not
pub never : {A : Type 0} {b : Bool} → b ≡ true → b ≡ false → A
never p q = absurd (let z : ◌≡◌ {A = ℕ} 0 1 = cc in omega arith)

-- stores from the start of a slice that reaches so far
sets_over : (l vs : List ℕ) → length vs ≤ length l → sets l 0 vs ≡ over vs l
unfolding over
sets_over l vs h = let e : 0 + length vs ≡ length vs = omega arith in sets-eq vs l 0 (omega arith) ∙ ap (λ n. vs ++ drop n l) e

-- a pass from the start, over slices of these lengths
pub record Pass (g : Gen) (counter : ℕ) (t : Reached) (ks os ks' os' : List ℕ) : Type 0 where
  pub puts : Puts g (start counter) t ks os ks' os'
  pub small : counter < 2 ^ 64
  pub few_kinds : length ks < most
  pub few_operands : length os < most

pass_after : {g : Gen} {counter : ℕ} {t : Reached} {ks os ks' os' : List ℕ} → Pass g counter t ks os ks' os' → After (g counter) 0 t ks os ks' os'
pass_after {g} {counter} {t} {ks} {os} p = p.puts.goes counter (start_able counter ks os p.small (omega (arith, p.few_kinds)) (omega (arith, p.few_operands)))

stays_none : (n : ℕ) → not (eqb n 0) ≡ false → n ≡ 0
stays_none n h = eqb-true n 0 (go (eqb n 0) h)
  where
    go : (b : Bool) → not b ≡ false → b ≡ true
    go true h = refl
    go false h = sym h

-- what is noted is none, or the number of a refusal
pub noted_range : (g : Gen) (counter : ℕ) {t : Reached} {ks os ks' os' : List ℕ} → Pass g counter t ks os ks' os' → Refuses g → t.refused ≤ 20
noted_range g counter {t} {ks} {os} {ks'} {os'} p numbers = go (g counter) refl (pass_after p)
  where
    go : (r : Result Out) → g counter ≡ r → After r 0 t ks os ks' os' → t.refused ≤ 20
    go (ok out) i w = let none = stays_none t.refused w.going in omega arith
    go (err n) i b = let l = refusal_range n ((numbers.refuses counter).numbered n i) in let e = b.number in omega arith

module _ (g : Gen) (counter : ℕ) {t : Reached} {ks₀ os₀ ks₁ os₁ : List ℕ} (counting : Pass g counter t ks₀ os₀ ks₁ os₁) (ks os : List ℕ) (few : length ks < most) where
  going : t.refused ≡ 0 → is_refused t ≡ false
  going e = ap not (eq-eqb t.refused 0 e)

  -- the count found a refusal
  pass_refused : (t.refused ≡ 0 → ⊥) → (x : Refusal) → number_of x ≡ t.refused → Answered (fitted (g counter) (room ks os)) (Err x) ks os ks os
  unfolding bind
  pass_refused e x i = go (g counter) (pass_after counting)
    where
      go : (r : Result Out) → After r 0 t ks₀ os₀ ks₁ os₁ → Answered (fitted r (room ks os)) (Err x) ks os ks os
      go (ok out) w = absurd (e (stays_none t.refused w.going))
      go (err n) b = record { refusal = x; reply = refl; number = i ∙ b.number; kinds = refl; operands = refl }

  -- the lines do not fit
  pass_short : t.refused ≡ 0 → room ks os < t.at → (x : Refusal) → number_of x ≡ 20 → Answered (fitted (g counter) (room ks os)) (Err x) ks os ks os
  unfolding bind given
  pass_short e l x i = go (g counter) (pass_after counting)
    where
      go : (r : Result Out) → After r 0 t ks₀ os₀ ks₁ os₁ → Answered (fitted r (room ks os)) (Err x) ks os ks os
      go (ok out) w = rw (lt-leb (length out.lines) (room ks os) (omega (arith, w.place))) (record { refusal = x; reply = refl; number = i; kinds = refl; operands = refl })
      go (err n) b = never b.refused (going e)

  -- they do, and are copied
  pass_copied : t.refused ≡ 0 → t.at ≤ room ks os → t.at ≤ length ks₀ → length ks₀ ≡ length os₀
      → (ks' os' : List ℕ) → ks' ≡ over (take t.at ks₁) ks → os' ≡ over (take t.at os₁) os → Answered (fitted (g counter) (room ks os)) (Ok (record { lines = t.at; counter = t.counter })) ks os ks' os'
  unfolding bind given
  pass_copied e l own even ks' os' ek eo = go (g counter) (pass_after counting)
    where
      go : (r : Result Out) → After r 0 t ks₀ os₀ ks₁ os₁ → Answered (fitted r (room ks os)) (Ok (record { lines = t.at; counter = t.counter })) ks os ks' os'
      go (ok out) w =
          let n : t.at ≡ length out.lines = omega (arith, w.place) in
          let k : take t.at ks₁ ≡ map kind_of out.lines =
          ap (take t.at) (w.kinds ∙ sets_over ks₀ (map kind_of out.lines) (omega (arith, map_length kind_of out.lines)))
          ∙ ap (λ (j : ℕ). take j (over (map kind_of out.lines) ks₀)) n ∙ take_over kind_of out.lines ks₀ in
          let o : take t.at os₁ ≡ map operand_word out.lines =
          ap (take t.at) (w.operands ∙ sets_over os₀ (map operand_word out.lines) (omega (arith, map_length operand_word out.lines)))
          ∙ ap (λ (j : ℕ). take j (over (map operand_word out.lines) os₀)) n ∙ take_over operand_word out.lines os₀ in
          rw (le-leb (length out.lines) (room ks os) (omega arith))
          (record {
            reply = rw (n, w.next) refl;
            kinds = ek ∙ ap (λ (x : List ℕ). over x ks) k;
            operands = eo ∙ ap (λ (x : List ℕ). over x os) o;
          })
      go (err x) b = never b.refused (going e)

  -- they do, and are made again
  pass_written : t.refused ≡ 0 → t.at ≤ room ks os → {u : Reached} {ks' os' : List ℕ} → Pass g counter u ks os ks' os'
      → Answered (fitted (g counter) (room ks os)) (Ok (record { lines = t.at; counter = t.counter })) ks os ks' os'
  unfolding bind given
  pass_written e l {u} {ks'} {os'} writing = go (g counter) (pass_after counting) (pass_after writing)
    where
      go : (r : Result Out) → After r 0 t ks₀ os₀ ks₁ os₁ → After r 0 u ks os ks' os' → Answered (fitted r (room ks os)) (Ok (record { lines = t.at; counter = t.counter })) ks os ks' os'
      go (ok out) w v =
          let n : t.at ≡ length out.lines = omega (arith, w.place) in
          rw (le-leb (length out.lines) (room ks os) (omega arith))
          (record {
            reply = rw (n, w.next) refl;
            kinds = v.kinds ∙ sets_over ks (map kind_of out.lines) (omega (arith, map_length kind_of out.lines));
            operands = v.operands ∙ sets_over os (map operand_word out.lines) (omega (arith, map_length operand_word out.lines));
          })
      go (err x) b v = never b.refused (going e)

  -- the same by what was told of them
  pub fit_none : (e : ℕ) → FitOf t (length ks) (length os) (Err e) → (x : Refusal) → number_of x ≡ e → {r : Reply} → r ≡ Err x → Answered (fitted (g counter) (room ks os)) r ks os ks os
  fit_none e told x i is = rw is (⊎_elim (λ p. pass_refused p.0 x (i ∙ p.1)) (λ p. pass_short p.0 p.1.0 x (i ∙ p.1.1)) told)

  module _ (n : ℕ) (told : FitOf t (length ks) (length os) (Ok n)) where
    -- the first pass found nothing to refuse
    pub fit_going : is_refused t ≡ false
    fit_going = going told.0

    pub fit_copied : n ≤ length ks₀ → length ks₀ ≡ length os₀
        → (ks' os' : List ℕ) → ks' ≡ over (take n ks₁) ks → os' ≡ over (take n os₁) os → Answered (fitted (g counter) (room ks os)) (Ok (record { lines = n; counter = t.counter })) ks os ks' os'
    fit_copied own even ks' os' ek eo =
        let e = told.1.0 in
        subst (λ (m : ℕ). Answered (fitted (g counter) (room ks os)) (Ok (record { lines = m; counter = t.counter })) ks os ks' os') (sym e)
        (pass_copied told.0 (omega (arith, told.1.1, e)) (omega (arith, own, e)) even ks' os'
        (ek ∙ ap (λ (m : ℕ). over (take m ks₁) ks) e) (eo ∙ ap (λ (m : ℕ). over (take m os₁) os) e))

    pub fit_written : {u : Reached} {ks' os' : List ℕ} → Pass g counter u ks os ks' os' → Answered (fitted (g counter) (room ks os)) (Ok (record { lines = n; counter = t.counter })) ks os ks' os'
    fit_written {ks' = ks'} {os' = os'} writing =
        let e = told.1.0 in
        subst (λ (m : ℕ). Answered (fitted (g counter) (room ks os)) (Ok (record { lines = m; counter = t.counter })) ks os ks' os') (sym e)
        (pass_written told.0 (omega (arith, told.1.1, e)) writing)

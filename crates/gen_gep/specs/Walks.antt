-- The walk over the indices: "All GEP constants add up to one `push` ..; offset sums wrap at 2^64." A refusal goes through, so that the walk goes on behind one.
use Prim.Native.Nat.{ℕ, ◌+◌, ◌<◌, ◌≤◌, ◌%◌, ◌^◌}
use Rattle.std.specs.Prelude.{◌≡◌, Bool, length, drop, get_or}
use Rattle.std.proofs.Math.Path.{refl, ap}
use Rattle.std.proofs.Common.{subst, ◌∙◌, arith}
use Rattle.std.proofs.Math.Bool.{true, false}
use mathlib.Core.List.{List, [], ◌∷◌, ◌++◌}
use Rattle.std.proofs.Math.Option.{Option}
use Rattle.std.proofs.Math.ListN.{length-append}
use Rattle.numbers.specs.Wrap.{wrap_add}
use Rattle.book.specs.Ast.{Ty, TypedVal, StructType}
use Rattle.book.specs.Entry.{Entry, entries}
use Rattle.book.specs.Fields.{Meanings}
use Rattle.book.specs.Result.{Result, ok, err, bind}
use Rattle.book.specs.Check.{work_for}
use Rattle.layout.specs.Step.{Step as GepStep, const_int}
use Rattle.layout_memo.specs.Front.{Starts, ty_of, ty_len}
use Rattle.layout_memo.specs.Work.{Ready, After}
use Rattle.layout_step.specs.Steps.{Index, Stepping, Stepped, Steps, StepOutcome, index_of, array_by, step_by, step_by_lem}
use Rattle.lowering.specs.Operand.{int_width}
use Rattle.lowering.specs.Gep.{VarTerm, Walk as GepWalk, var_term, start, took, first_step, walk_rest, walk}
use Rattle.gen_lines.specs.declared.Reached.{Reached}
use Rattle.gen_lines.specs.Puts.{Barred, is_refused, made_refused}
use Rattle.gen_lines.specs.Follow.{Asked, Answered, asked_ok, asked_err}
use Rattle.gen_values.specs.Values.{width_by}
use Rattle.gen_values.specs.Fields.{Fields, WidthSays, ValueAt, type_in, width_is}
use Rattle.gen_gep.specs.declared.Way.{Way}
use Rattle.gen_gep.specs.Indices.{index_then, index_in, value_behind}
use Rattle.gen_gep.specs.Terms.{Stays, stays_none, stays_then, stays_after, TermIs, Terms, stored, terms_stored, stays_stored, terms_after}

-- ---- the definition's walk, the first index and the later ones alike
module _ (structs : List StructType) where
  unfoldable pub step_from : (first : Bool) → Ty → Option ℕ → Result GepStep
  step_from true t o = array_by structs t o
  step_from false t o = step_by structs t o

  unfoldable pub walk_from : (first : Bool) → List TypedVal → GepWalk → Result GepWalk
  walk_from first [] k = ok k
  walk_from first (idx ∷ is) k = bind (bind (step_from first k.cur_ty (const_int idx.val)) (λ (t : GepStep). took t idx k)) (walk_from false is)

  two_binds : {A B C : Type 0} (r : Result A) (f : A → Result B) (g : B → Result C) → bind r (λ a. bind (f a) g) ≡ bind (bind r f) g
  unfolding bind
  two_binds (ok a) f g = refl
  two_binds (err e) f g = refl

  later_same : (is : List TypedVal) (k : GepWalk) → walk_rest structs is k ≡ walk_from false is k
  unfolding walk_rest walk_from step_from
  later_same [] k = refl
  later_same (idx ∷ is) k =
      let f : walk_rest structs is ≡ walk_from false is = λ i x. later_same is x i in
      rw (step_by_lem structs k.cur_ty idx.val, f) (two_binds (step_by structs k.cur_ty (const_int idx.val)) (λ (t : GepStep). took t idx k) (walk_from false is))

  pub walk_same : (t : Ty) (is : List TypedVal) → walk structs t is ≡ walk_from true is (start t)
  unfolding walk walk_from step_from array_by first_step start
  walk_same t [] = refl
  walk_same t (idx ∷ is) =
      let f : walk_rest structs is ≡ walk_from false is = λ i x. later_same is x i in
      rw f (two_binds (array_by structs t (const_int idx.val)) (λ (s : GepStep). took s idx (start t)) (walk_from false is))

-- ---- what is asked for, one after the other
module _ {A B : Type 0} {r : Result A} (f : A → Result B) {s t u : Reached} {x : A} {y : B} where
  pub asked_then : Asked r s t x → Asked (f x) t u y → Asked (bind r f) s u y
  unfolding bind
  asked_then q p = record { stays = λ h. later (q.stays h); goes = λ h. go r (q.goes h) h }
    where
      later : {e : ℕ} → Barred e t → Barred e u
      later b = let d = p.stays b.refused in record { refused = d.refused; number = d.number ∙ b.number }

      go : (r : Result A) → Answered r s t x → is_refused s ≡ false → Answered (bind r f) s u y
      go (err e) b h = later b
      go (ok a) (i, j) h =
          let w : Answered (f x) t u y = p.goes (ap is_refused i ∙ h) in
          subst (λ (z : A). Answered (f z) s u y) j (subst (λ (v : Reached). Answered (f x) v u y) i w)

-- the width that the entry in front tells
width_by_lem : {r : Result ℕ} {s t : Reached} {v w : ℕ} → Asked r s t v → WidthSays w r → Asked r s t w
width_by_lem {r} {s} {t} {v} {w} q e = record { stays = q.stays; goes = λ h. go r (q.goes h) e }
  where
    go : (r : Result ℕ) → Answered r s t v → WidthSays w r → Answered r s t w
    go (ok n) (i, j) (k, z) = (i, k)
    go (err n) b k = b

-- ---- the walk so far
-- k is what the definition has, w what the code has
pub record WalkAt (m : ℕ) (bk bw work : List ℕ) (k : GepWalk) (w : Way) : Type 0 where
  pub type : ty_of m (drop w.ty (entries bk bw)) ≡ k.cur_ty
  pub sum : w.sum ≡ k.const_off
  pub count : length k.var_terms ≡ w.terms
  pub terms : Terms m bk bw work 0 k.var_terms

-- from w to r the walk went as the answer says
pub record Went (m : ℕ) (bk bw work work' : List ℕ) (answer : Result GepWalk) (w r : Way) : Type 0 where
  pub walk : GepWalk
  pub here : WalkAt m bk bw work' walk r
  pub asked : Asked answer w.s r.s walk
  pub front : Starts m (drop r.ty (entries bk bw))
  pub stays : Stays m (entries bk bw) work work'
  pub later : r.first ≡ false
  pub few : r.terms ≤ w.terms + 1

-- an index is taken: there is room for its term
pub record TookAsk (m : ℕ) (bk bw work : List ℕ) (index : ℕ) (w : Way) : Type 0 where
  pub in_kinds : index < length bk
  pub in_words : index < length bw
  pub room : work_for m ≤ length work
  pub few : w.terms < 32

pub record TakeAsk (m : ℕ) (bk bw work : List ℕ) (index value : ℕ) (w : Way) : Type 0 where
  pub holds : Meanings index_then
  pub fields : Fields m index_then holds (drop index (entries bk bw))
  pub behind : value ≡ index + ty_len m (drop index (entries bk bw))
  pub front : Starts m (drop w.ty (entries bk bw))
  pub ready : Ready m (entries bk bw) work
  pub room : work_for m ≤ length work
  pub few : w.terms < 32

module _ {m : ℕ} {bk bw work : List ℕ} {index value : ℕ} {w : Way} (t : TakeAsk m bk bw work index value w) where
  pub take_value : {p : Meanings index_then} → Fields m index_then p (drop index (entries bk bw)) → ValueAt m bk bw value p.1.0
  take_value f = value_behind bk bw index f refl t.behind

  pub take_took : {work' : List ℕ} → After m (entries bk bw) work work' → TookAsk m bk bw work' index w
  take_took a =
      let q = type_in bk bw index t.fields in
      record { in_kinds = q.0; in_words = q.1; room = omega (arith, t.room, a.kept.long); few = t.few }

-- ---- a step taken
module _ {m : ℕ} {bk bw work : List ℕ} {k : GepWalk} {w : Way} (idx : TypedVal) (ready : Ready m (entries bk bw) work) (at : WalkAt m bk bw work k w) where
  pub refused_went : Starts m (drop w.ty (entries bk bw)) → {answer : Result GepStep} (e : ℕ) → 0 < e → answer ≡ err e → {t : Reached} → t ≡ made_refused w.s e
      → Went m bk bw work work (bind answer (λ (t : GepStep). took t idx k)) w (record { first = false; ty = w.ty; sum = w.sum; terms = w.terms; s = t })
  unfolding bind
  refused_went front e number i j =
      record {
        walk = k;
        here = record { type = at.type; sum = at.sum; count = at.count; terms = at.terms };
        asked = rw i (asked_err e number w.s k j);
        front = front;
        stays = stays_none ready;
        later = refl;
        few = omega arith;
      }

  pub constant_went : {answer : Result GepStep} (off next : ℕ) → Stepped m (entries bk bw) answer (GepStep.const off) next → {sum : ℕ} → sum ≡ wrap_add 64 w.sum off
      → Went m bk bw work work (bind answer (λ (t : GepStep). took t idx k)) w (record { first = false; ty = next; sum = sum; terms = w.terms; s = w.s })
  unfolding bind took
  constant_went off next q e =
      record {
        walk = record { const_off = (k.const_off + off) % 2 ^ 64; var_terms = k.var_terms; cur_ty = ty_of m (drop next (entries bk bw)) };
        here = record { type = refl; sum = e ∙ ap (λ n. (n + off) % 2 ^ 64) at.sum; count = at.count; terms = at.terms };
        asked = rw q.answer (asked_ok w.s _);
        front = q.front;
        stays = stays_none ready;
        later = refl;
        few = omega arith;
      }

-- a varying index: its type must have a width
module _ (m : ℕ) (bk bw work : List ℕ) (k : GepWalk) (w : Way) (index : ℕ) {p : Meanings index_then} (f : Fields m index_then p (drop index (entries bk bw)))
    (ready : Ready m (entries bk bw) work) (at : WalkAt m bk bw work k w) (room : work_for m ≤ length work) (few : w.terms < 32) where
  pub vary_went : (size next : ℕ) → Starts m (drop next (entries bk bw)) → {work' : List ℕ} → work' ≡ stored m bk bw work w.terms index size room few → {v : ℕ} {t : Reached}
      → Asked (int_width p.0) w.s t v
      → Went m bk bw work work' (took (GepStep.var size (ty_of m (drop next (entries bk bw)))) (index_in p) k) w (record { first = false; ty = next; sum = w.sum; terms = w.terms + 1; s = t })
  unfolding took var_term
  vary_went size next front {work'} e {v} {t} asked =
      record {
        walk = on bits;
        here = record {
          type = refl;
          sum = at.sum;
          count = length-append k.var_terms (term bits ∷ []) ∙ (let q = at.count in omega arith);
          terms = rw e (terms_stored m bk bw work w.terms index size room few k.var_terms (term bits) at.count at.terms is);
        };
        asked = asked_then (λ (iw : ℕ). ok (on iw)) (width_by_lem asked (width_is bk bw index f)) (asked_ok t (on bits));
        front = front;
        stays = rw e (stays_stored m bk bw work w.terms index size room few ready);
        later = refl;
        few = omega arith;
      }
    where
      bits : ℕ
      bits = width_by (get_or bk index 0) (get_or bw index 0)

      term : ℕ → VarTerm
      term iw = var_term (index_in p) iw size

      is : TermIs m bk bw index size (term bits)
      is = record { holds = p; fields = f; val = refl; width = refl; stride = refl }

      on : ℕ → GepWalk
      on iw = record { const_off = k.const_off; var_terms = k.var_terms ++ (term iw ∷ []); cur_ty = ty_of m (drop next (entries bk bw)) }

-- the answer varies
pub varying_went : {m : ℕ} {bk bw work work' : List ℕ} (k : GepWalk) {w r : Way} (idx : TypedVal) {answer : Result GepStep} (size next : ℕ) → Stepped m (entries bk bw) answer (GepStep.var size) next
    → Went m bk bw work work' (took (GepStep.var size (ty_of m (drop next (entries bk bw)))) idx k) w r → Went m bk bw work work' (bind answer (λ (t : GepStep). took t idx k)) w r
unfolding bind
varying_went k idx size next q h = rw q.answer h

-- behind a measurement
module _ {m : ℕ} {bk bw work work' : List ℕ} where
  pub walk_after : {k : GepWalk} {w : Way} → w.terms < 32 → After m (entries bk bw) work work' → WalkAt m bk bw work k w → WalkAt m bk bw work' k w
  walk_after {k} few a h = record { type = h.type; sum = h.sum; count = h.count; terms = terms_after m bk bw (entries bk bw) work work' k.var_terms (omega (arith, h.count)) a h.terms }

  pub went_after : {work'' : List ℕ} {answer : Result GepWalk} {w r : Way} → After m (entries bk bw) work work' → Went m bk bw work' work'' answer w r → Went m bk bw work work'' answer w r
  went_after a h =
      record {
        walk = h.walk;
        here = h.here;
        asked = h.asked;
        front = h.front;
        stays = stays_then (stays_after a) h.stays;
        later = h.later;
        few = h.few;
      }

-- the first step and a later one
module _ {m : ℕ} {es : List Entry} {work work' : List ℕ} (structs : List StructType) (t : Ty) (o : Option ℕ) {first : Bool} {r : Stepping} where
  pub first_outcome : first ≡ true → StepOutcome m es work work' (array_by structs t o) r → StepOutcome m es work work' (step_from structs first t o) r
  unfolding step_from
  first_outcome e q = rw e q

  pub later_outcome : first ≡ false → StepOutcome m es work work' (step_by structs t o) r → StepOutcome m es work work' (step_from structs first t o) r
  unfolding step_from
  later_outcome e q = rw e q

-- the answer by the code's type and index
module _ {m : ℕ} {bk bw work : List ℕ} (structs : List StructType) {k : GepWalk} {w : Way} (at : WalkAt m bk bw work k w) (i : Index) (idx : TypedVal) (ei : index_of i ≡ const_int idx.val) where
  pub same_step : (st : Stepping) → Steps m (entries bk bw) (step_from structs w.first (ty_of m (drop w.ty (entries bk bw))) (index_of i)) st
      → Steps m (entries bk bw) (step_from structs w.first k.cur_ty (const_int idx.val)) st
  same_step st q = subst (λ (t : Ty). Steps m (entries bk bw) (step_from structs w.first t (const_int idx.val)) st) at.type
      (subst (λ (o : Option ℕ). Steps m (entries bk bw) (step_from structs w.first (ty_of m (drop w.ty (entries bk bw))) o) st) ei q)

-- The step of a getelementptr's index: what the functions ask and answer.
use Rattle.std.specs.Prelude.{ℕ, ◌+◌, ◌-◌, ◌<◌, ◌≤◌, ◌≡◌, Bool, length, get_or}
use Rattle.std.proofs.Math.Path.{refl, sym, ap, subst}
use Rattle.std.proofs.Common.{◌∙◌, arith, length-drop}
use Rattle.std.proofs.Math.Option.{Option, none, some}
use mathlib.Core.List.{List}
use Rattle.std.proofs.Math.ListN.{drop}
use Rattle.std.proofs.Math.Seq.{drop-drop}
use Rattle.numbers.specs.Wrap.{wrap_mul}
use Rattle.std.specs.Prelude.{Option as Maybe, Some, None, Result as Answer, Ok, Err}
use Rattle.book.specs.declared.refusal.Refusal.{Refusal}
use Rattle.book.specs.declared.refusal.Refusal.TheVariants as refusal
use Rattle.book.specs.Refusal.{number_of}
use Rattle.book.specs.Entry.{Entry, entries}
use Rattle.book.specs.Ast.{Ty, Tys, Value, StructType}
use Rattle.book.specs.Kinds.{ty_tag}
use Rattle.book.specs.Result.{Result, ok, err, bind, ok_or}
use Rattle.book.specs.Work.{body_at}
use Rattle.book_types.specs.Groups.{type_group_of}
use Rattle.book_types.specs.Laws.{entries_part, within_kinds, within_words}
use Rattle.book_types.specs.declared.types.TypeGroup.{TypeGroup}
use Rattle.book_types.specs.declared.types.TypeGroup.TheVariants as group
use Rattle.layout.specs.Layout.{as_type, resolve, size_of, offset_from, field_offset}
use Rattle.layout.specs.Step.{Step as GepStep, const_int, field_at, stride, struct_step, gep_step}
use Rattle.layout_memo.specs.Measured.{Measures}
use Rattle.layout_memo.specs.Front.{Starts, StartsFields, ty_of, tys_of, ShapeOf, shape_at}
use Rattle.layout_memo.specs.Work.{structs_in, BodyAt, sizes, Ready, After, FieldFact, Outcome, Ask, after_none, after_then}
use Rattle.layout_memo.specs.Helpers.{gives_at, refused_at}
use Rattle.layout_memo.specs.Calls.{lent, ask_part, ask_fields, part_type, starts_length}
use Rattle.layout_memo.specs.Fields.{AtFields, at_nil, at_field, at_cons}
use Rattle.layout_field.specs.Offsets.{Offset, FieldFound, FieldPlace, AskStart, StartOutcome, start_of, AskOffset, OffsetOutcome, offset_of, offset_result}
use Rattle.layout_memo.specs.Measured.{Measured, bytes_of}
use Rattle.layout_table.specs.Table.{AskFieldsAt, fields_below}
use Rattle.layout_table.specs.Known.{KnownOutcome}
use Rattle.layout_table.specs.declared.Known.{Known}
use Rattle.layout_step.specs.declared.Step.{Step}
use Rattle.layout_step.specs.declared.Step.TheVariants as step

-- the index as the code has it: a constant, or none where it varies
abbrev pub Index : Type 0
Index = Maybe ℕ

abbrev pub index_of : Index → Option ℕ
index_of (Some c) = some c
index_of None = none

-- a step, or why there is none
abbrev pub Stepping : Type 0
Stepping = Answer Step Refusal

-- `gep_step` and `struct_step`, by the index where it is constant
module _ (structs : List StructType) where
  unfoldable pub struct_by : Bool → Tys → Option ℕ → Result GepStep
  struct_by p ts o =
      bind (ok_or 14 o) (λ field. bind (ok_or 14 (field_at ts field)) (λ next. bind (field_offset structs (record { packed = p; fields = ts }) field) (λ off. ok (GepStep.const off next))))

  -- the field with an index among those from a place on, behind so many bytes
  unfoldable pub field_by : Bool → Tys → (i off : ℕ) → Result GepStep
  field_by p ts i off = bind (ok_or 14 (field_at ts i)) (λ next. bind (offset_of structs p ts i off) (λ start. ok (GepStep.const start next)))

  unfoldable pub array_by : Ty → Option ℕ → Result GepStep
  array_by elem o = bind (size_of structs elem) (λ size. ok (stride size elem o))

  unfoldable pub step_by : Ty → Option ℕ → Result GepStep
  step_by (Ty.struct p ts) o = struct_by p ts o
  step_by (Ty.named_struct x) o = bind (resolve structs x) (λ body. struct_by body.packed body.fields o)
  step_by (Ty.array p n elem) o = array_by elem o
  step_by Ty.void o = err 14
  step_by Ty.ptr o = err 14
  step_by (Ty.int w) o = err 14
  step_by (Ty.sizeless s) o = err 14

  -- the definition's step
  pub step_by_lem : (t : Ty) (v : Value) → gep_step structs t v ≡ step_by t (const_int v)
  unfolding gep_step struct_step step_by struct_by array_by
  step_by_lem (Ty.struct p ts) v = refl
  step_by_lem (Ty.named_struct x) v = refl
  step_by_lem (Ty.array p n elem) v = refl
  step_by_lem Ty.void v = refl
  step_by_lem Ty.ptr v = refl
  step_by_lem (Ty.int w) v = refl
  step_by_lem (Ty.sizeless s) v = refl

-- ---- what is asked
pub record AskAt (m : ℕ) (es : List Entry) (work : List ℕ) (at : ℕ) : Type 0 where
  pub front : Starts m (drop at es)
  pub ready : Ready m es work

pub record AskNameAt (m : ℕ) (es : List Entry) (work : List ℕ) (x : ℕ) : Type 0 where
  pub name : x < m
  pub ready : Ready m es work

-- fields from a place on, behind so many bytes
pub record AskBehind (m : ℕ) (es : List Entry) (work : List ℕ) (at off : ℕ) : Type 0 where
  pub ask : AskFieldsAt m es work at
  pub small : off ≤ 16777216

-- ---- what is answered
pub record Stepped (m : ℕ) (es : List Entry) (res : Result GepStep) (by : Ty → GepStep) (p : ℕ) : Type 0 where
  pub answer : res ≡ ok (by (ty_of m (drop p es)))
  pub front : Starts m (drop p es)

abbrev pub Steps : (m : ℕ) (es : List Entry) (res : Result GepStep) → Stepping → Type 0
Steps m es res (Ok (step.Constant off p)) = Stepped m es res (GepStep.const off) p
Steps m es res (Ok (step.Varying size p)) = Stepped m es res (GepStep.var size) p
Steps m es res (Err e) = res ≡ err (number_of e)

pub record StepOutcome (m : ℕ) (es : List Entry) (work work' : List ℕ) (res : Result GepStep) (r : Stepping) : Type 0 where
  pub says : Steps m es res r
  pub after : After m es work work'

-- ---- a field from a place on
module _ (m : ℕ) (bk bw : List ℕ) (work : List ℕ) (at off : ℕ) (k : AskBehind m (entries bk bw) work at off) where
  abbrev es : List Entry
  es = entries bk bw

  abbrev fields : Tys
  fields = tys_of m (drop at es)

  pub behind_place : AtFields m bk bw at
  behind_place = record { fields = k.ask.front; there = fields_below k.ask; few = k.ask.ready.few }

  pub behind_front_lem : StartsFields m (lent bk bw at)
  behind_front_lem = subst (StartsFields m) (sym (entries_part at bk bw)) k.ask.front

  pub behind_ask : AskOffset m (lent bk bw at) es work off
  behind_ask = record { ask = ask_fields bk bw at k.ask.front k.ask.ready (omega arith); small = k.small }

  module _ (packed : Bool) where
    -- the first one
    abbrev first : Result GepStep
    first = field_by (structs_in m es) packed fields 0 off

    pub first_none : get_or bk at 0 ≡ 0 → StepOutcome m es work work first (Err refusal.GepStep)
    unfolding field_by field_at bind ok_or
    first_none z = record { says = rw (at_nil behind_place z) refl; after = after_none k.ask.ready }

    module _ (z : get_or bk at 0 ≡ 0 → ⊥) where
      front : Starts m (drop at es)
      front = (at_field behind_place z).field

      pub first_ask : AskStart m (drop at es) es work off
      first_ask = record { ask = record { front = front; ready = k.ask.ready; levels = omega arith }; small = omega (arith, k.small) }

      first_field : field_at fields 0 ≡ some (ty_of m (drop at es))
      unfolding field_at
      first_field = rw (at_cons behind_place z) refl

      first_offset : offset_of (structs_in m es) packed fields 0 off ≡ start_of (structs_in m es) packed (ty_of m (drop at es)) off
      unfolding offset_from start_of
      first_offset = rw (at_cons behind_place z) refl

      module _ {work' : List ℕ} (r : Offset) (o : StartOutcome m es work work' off (start_of (structs_in m es) packed (ty_of m (drop at es)) off) r) where
        first_is : offset_of (structs_in m es) packed fields 0 off ≡ offset_result r
        first_is = first_offset ∙ sym o.answer

        pub first_refused : (e : Refusal) → r ≡ Err e → StepOutcome m es work work' first (Err e)
        unfolding field_by bind ok_or
        first_refused e er = record { says = rw (first_field, first_is ∙ ap offset_result er) refl; after = o.after }

        pub first_const : (n : ℕ) → r ≡ Ok n → StepOutcome m es work work' first (Ok (step.Constant n at))
        unfolding field_by bind ok_or
        first_const n er = record { says = record { answer = rw (first_field, first_is ∙ ap offset_result er) refl; front = front }; after = o.after }

    -- any one
    module _ (i : ℕ) (q : Maybe ℕ) (found : FieldFound m (lent bk bw at) i q) where
      abbrev later : Result GepStep
      later = field_by (structs_in m es) packed fields i off

      found_here : FieldFound m (drop at es) i q
      found_here = subst (λ (x : List Entry). FieldFound m x i q) (entries_part at bk bw) found

      pub later_none : q ≡ None → StepOutcome m es work work later (Err refusal.GepStep)
      unfolding field_by bind ok_or
      later_none e =
          let g : field_at fields i ≡ none = subst (FieldFound m (drop at es) i) e found_here in
          record { says = rw g refl; after = after_none k.ask.ready }

      module _ (n : ℕ) (eq : q ≡ Some n) where
        field_place : FieldPlace m (drop at es) i n
        field_place = subst (FieldFound m (drop at es) i) eq found_here

        pub later_fits : at + n + 1 ≤ length bk
        later_fits = within_kinds (at + n + 1) bk bw (omega (arith, field_place.there, length-drop at es))

        module _ {work' : List ℕ} (r : Offset) (o : OffsetOutcome m es work work' (offset_of (structs_in m es) packed (tys_of m (lent bk bw at)) i off) r) where
          offset_is : offset_of (structs_in m es) packed fields i off ≡ offset_result r
          offset_is = sym (o.answer ∙ ap (λ (x : List Entry). offset_of (structs_in m es) packed (tys_of m x) i off) (entries_part at bk bw))

          pub later_refused : (e : Refusal) → r ≡ Err e → StepOutcome m es work work' later (Err e)
          unfolding field_by bind ok_or
          later_refused e er = record { says = rw (field_place.field, offset_is ∙ ap offset_result er) refl; after = o.after }

          pub later_const : (start : ℕ) → r ≡ Ok start → StepOutcome m es work work' later (Ok (step.Constant start (at + n)))
          unfolding field_by bind ok_or
          later_const start er =
              let d : drop n (drop at es) ≡ drop (at + n) es = drop-drop n at es in
              record {
                says = record {
                  answer = rw (field_place.field, offset_is ∙ ap offset_result er) (ap (λ (x : List Entry). ok (GepStep.const start (ty_of m x))) d);
                  front = subst (Starts m) d field_place.front;
                };
                after = o.after;
              }

-- ---- a struct
module _ (m : ℕ) (es : List Entry) (work : List ℕ) (at : ℕ) (packed : Bool) (i : Index) where
  abbrev answer : Result GepStep
  answer = struct_by (structs_in m es) packed (tys_of m (drop at es)) (index_of i)

  pub struct_varying : AskFieldsAt m es work at → i ≡ None → StepOutcome m es work work answer (Err refusal.GepStep)
  unfolding struct_by bind ok_or
  struct_varying k e = record { says = rw e refl; after = after_none k.ready }

  -- the fields behind a fact
  module _ (f : ℕ) (ef : i ≡ Some f) {work' : List ℕ} (v : Known) (w : KnownOutcome m es work work' packed at f v) where
    fact : FieldFact m es packed at v.index v.at v.offset
    fact = w.best.fact

    pub known_ask : AskBehind m es work' v.at v.offset
    known_ask = record { ask = record { front = fact.fields; there = omega (arith, fact.there); ready = w.after.ready }; small = fact.small }

    module _ (left : ℕ) (el : left ≡ f - v.index) where
      whole : f ≡ v.index + left
      whole = omega (arith, w.best.before)

      answer_is : answer ≡ field_by (structs_in m es) packed (tys_of m (drop v.at es)) left v.offset
      unfolding struct_by field_by bind ok_or field_offset
      answer_is = rw (ef, whole, fact.places left, fact.offsets left) refl

      pub struct_known : {work'' : List ℕ} {r : Stepping} → StepOutcome m es work' work'' (field_by (structs_in m es) packed (tys_of m (drop v.at es)) left v.offset) r
          → StepOutcome m es work work'' answer r
      struct_known {r = r} o = record { says = subst (λ (x : Result GepStep). Steps m es x r) (sym answer_is) o.says; after = after_then w.after o.after }

-- ---- an array
module _ (m : ℕ) (bk bw : List ℕ) (work : List ℕ) (at : ℕ) (i : Index) (k : AskAt m (entries bk bw) work at) where
  at_there : at + 1 ≤ length (entries bk bw)
  at_there = omega (arith, starts_length k.front, length-drop at (entries bk bw))

  pub at_kinds : at + 1 ≤ length bk
  at_kinds = within_kinds (at + 1) bk bw at_there

  pub at_words : at + 1 ≤ length bw
  at_words = within_words (at + 1) bk bw at_there

  pub array_ask : Ask m (lent bk bw at) (entries bk bw) work 64
  array_ask = ask_part bk bw at k.front k.ready (omega arith)

  abbrev elem : Ty
  elem = ty_of m (drop at (entries bk bw))

  module _ {work' : List ℕ} (r : Measured) (o : Outcome m (entries bk bw) work work' (sizes (structs_in m (entries bk bw)) (ty_of m (lent bk bw at))) 64 r) where
    elem_says : Measures (sizes (structs_in m (entries bk bw)) elem) 64 r
    elem_says = part_type (sizes (structs_in m (entries bk bw))) m bk bw at 64 r o.says

    pub array_refused : (e : Refusal) → r ≡ Err e → StepOutcome m (entries bk bw) work work' (array_by (structs_in m (entries bk bw)) elem (index_of i)) (Err e)
    unfolding array_by bind size_of
    array_refused e er =
        let g : sizes (structs_in m (entries bk bw)) elem 64 ≡ err (number_of e) = refused_at r _ 64 er elem_says in
        record { says = rw g refl; after = o.after }

    module _ (s h : ℕ) (er : r ≡ bytes_of s h) where
      size_is : sizes (structs_in m (entries bk bw)) elem 64 ≡ ok s
      size_is = let g = gives_at r er _ 64 elem_says in g.known.high 64 g.within

      pub array_const : (c : ℕ) → i ≡ Some c → (v : ℕ) → v ≡ wrap_mul 64 c s → StepOutcome m (entries bk bw) work work' (array_by (structs_in m (entries bk bw)) elem (index_of i)) (Ok (step.Constant v at))
      unfolding array_by bind size_of stride
      array_const c e v ev = record { says = record { answer = rw (size_is, e, ev) refl; front = k.front }; after = o.after }

      pub array_varying : i ≡ None → StepOutcome m (entries bk bw) work work' (array_by (structs_in m (entries bk bw)) elem (index_of i)) (Ok (step.Varying s at))
      unfolding array_by bind size_of stride
      array_varying e = record { says = record { answer = rw (size_is, e) refl; front = k.front }; after = o.after }

-- ---- `gep_step`
module _ (m : ℕ) (bk bw : List ℕ) (work : List ℕ) (at : ℕ) (i : Index) (k : AskAt m (entries bk bw) work at) (g : TypeGroup) (eg : g ≡ type_group_of (ty_tag (get_or bk at 0))) where
  abbrev seen : (h : TypeGroup) → g ≡ h → ShapeOf m (get_or bw at 0) (drop (at + 1) (entries bk bw)) (ty_of m (drop at (entries bk bw))) h
  seen = shape_at m bk bw at k.front g eg

  pub gep_struct_ask : (p : Bool) → g ≡ group.Struct p → AskFieldsAt m (entries bk bw) work (at + 1)
  gep_struct_ask p e = record { front = (seen (group.Struct p) e).0; there = at_there m bk bw work at i k; ready = k.ready }

  pub gep_array_ask : (p : Bool) → g ≡ group.Array p → AskAt m (entries bk bw) work (at + 1)
  gep_array_ask p e = record { front = (seen (group.Array p) e).0; ready = k.ready }

  pub gep_named_ask : g ≡ group.Named → AskNameAt m (entries bk bw) work (get_or bw at 0)
  gep_named_ask e = record { name = (seen group.Named e).0; ready = k.ready }

  abbrev gep_answer : Result GepStep
  gep_answer = step_by (structs_in m (entries bk bw)) (ty_of m (drop at (entries bk bw))) (index_of i)

  module _ {work' : List ℕ} {r : Stepping} where
    pub gep_struct : (p : Bool) → g ≡ group.Struct p → StepOutcome m (entries bk bw) work work' (struct_by (structs_in m (entries bk bw)) p (tys_of m (drop (at + 1) (entries bk bw))) (index_of i)) r
        → StepOutcome m (entries bk bw) work work' gep_answer r
    unfolding step_by
    gep_struct p e o = rw (seen (group.Struct p) e).1 o

    pub gep_array : (p : Bool) → g ≡ group.Array p → StepOutcome m (entries bk bw) work work' (array_by (structs_in m (entries bk bw)) (ty_of m (drop (at + 1) (entries bk bw))) (index_of i)) r
        → StepOutcome m (entries bk bw) work work' gep_answer r
    unfolding step_by
    gep_array p e o = rw (seen (group.Array p) e).1 o

    pub gep_named : g ≡ group.Named → StepOutcome m (entries bk bw) work work' (step_by (structs_in m (entries bk bw)) (Ty.named_struct (get_or bw at 0)) (index_of i)) r
        → StepOutcome m (entries bk bw) work work' gep_answer r
    gep_named e o = rw (seen group.Named e).1 o

  gep_void : g ≡ group.Void → StepOutcome m (entries bk bw) work work gep_answer (Err refusal.GepStep)
  unfolding step_by
  gep_void e = record { says = rw (seen group.Void e) refl; after = after_none k.ready }

  gep_int : g ≡ group.Int → StepOutcome m (entries bk bw) work work gep_answer (Err refusal.GepStep)
  unfolding step_by
  gep_int e = record { says = rw (seen group.Int e).0 refl; after = after_none k.ready }

  gep_ptr : g ≡ group.Ptr → StepOutcome m (entries bk bw) work work gep_answer (Err refusal.GepStep)
  unfolding step_by
  gep_ptr e = record { says = rw (seen group.Ptr e) refl; after = after_none k.ready }

  gep_sizeless : g ≡ group.Sizeless → StepOutcome m (entries bk bw) work work gep_answer (Err refusal.GepStep)
  unfolding step_by
  gep_sizeless e = record { says = rw (seen group.Sizeless e).1 refl; after = after_none k.ready }

  gep_other : {X : Type 0} → g ≡ group.Other → X
  gep_other e = absurd (seen group.Other e)

  -- no array and no struct
  pub gep_rest : ((p : Bool) → g ≡ group.Array p → ⊥) → (g ≡ group.Named → ⊥) → ((p : Bool) → g ≡ group.Struct p → ⊥) → StepOutcome m (entries bk bw) work work gep_answer (Err refusal.GepStep)
  gep_rest array named struct = go g refl
    where
      go : (h : TypeGroup) → g ≡ h → StepOutcome m (entries bk bw) work work gep_answer (Err refusal.GepStep)
      go group.Void e = gep_void e
      go group.Int e = gep_int e
      go group.Ptr e = gep_ptr e
      go (group.Array p) e = absurd (array p e)
      go group.Named e = absurd (named e)
      go (group.Struct p) e = absurd (struct p e)
      go group.Sizeless e = gep_sizeless e
      go group.Other e = gep_other e

-- ---- a named struct
module _ (m : ℕ) (bk bw : List ℕ) (work : List ℕ) (x : ℕ) (i : Index) (k : AskNameAt m (entries bk bw) work x) where
  abbrev named_answer : Result GepStep
  named_answer = step_by (structs_in m (entries bk bw)) (Ty.named_struct x) (index_of i)

  pub named_absent : get_or work (body_at x) 0 ≡ 0 → StepOutcome m (entries bk bw) work work named_answer (Err refusal.NoSize)
  unfolding step_by bind
  named_absent z = record { says = rw ((k.ready.bodies x k.name).absent z) refl; after = after_none k.ready }

  module _ (z : get_or work (body_at x) 0 ≡ 0 → ⊥) where
    abbrev spot : ℕ
    spot = get_or work (body_at x) 0 - 1

    body : BodyAt (structs_in m (entries bk bw)) m (entries bk bw) x spot
    body = (k.ready.bodies x k.name).present z

    body_there : spot + 1 ≤ length (entries bk bw)
    body_there = omega (arith, starts_length body.front, length-drop spot (entries bk bw))

    pub body_kinds : spot + 1 ≤ length bk
    body_kinds = within_kinds (spot + 1) bk bw body_there

    module _ (g : TypeGroup) (eg : g ≡ type_group_of (ty_tag (get_or bk spot 0))) where
      abbrev looks : (h : TypeGroup) → g ≡ h → ShapeOf m (get_or bw spot 0) (drop (spot + 1) (entries bk bw)) (ty_of m (drop spot (entries bk bw))) h
      looks = shape_at m bk bw spot body.front g eg

      pub named_ask : (p : Bool) → g ≡ group.Struct p → AskFieldsAt m (entries bk bw) work (spot + 1)
      named_ask p e = record { front = (looks (group.Struct p) e).0; there = body_there; ready = k.ready }

      pub named_struct_lem : (p : Bool) → g ≡ group.Struct p → {work' : List ℕ} {r : Stepping}
          → StepOutcome m (entries bk bw) work work' (struct_by (structs_in m (entries bk bw)) p (tys_of m (drop (spot + 1) (entries bk bw))) (index_of i)) r → StepOutcome m (entries bk bw) work work' named_answer r
      unfolding step_by bind
      named_struct_lem p e o =
          let q : as_type body.body ≡ Ty.struct p (tys_of m (drop (spot + 1) (entries bk bw))) = sym body.same ∙ (looks (group.Struct p) e).1 in
          let a : body.body.packed ≡ p = cc in
          let b : body.body.fields ≡ tys_of m (drop (spot + 1) (entries bk bw)) = cc in
          rw (body.resolved, a, b) o

      never : {X : Type 0} (t : Ty) → ty_of m (drop spot (entries bk bw)) ≡ t → (as_type body.body ≡ t → ⊥) → X
      never t e n = absurd (n (sym body.same ∙ e))

      -- nothing else is a struct's body
      pub named_rest : {X : Type 0} → ((p : Bool) → g ≡ group.Struct p → ⊥) → X
      named_rest {X = X} struct = go g refl
        where
          go : (h : TypeGroup) → g ≡ h → X
          go group.Void e = never _ (looks group.Void e) (λ q. let z : ◌≡◌ {A = ℕ} 0 1 = cc in omega arith)
          go group.Int e = never _ (looks group.Int e).0 (λ q. let z : ◌≡◌ {A = ℕ} 0 1 = cc in omega arith)
          go group.Ptr e = never _ (looks group.Ptr e) (λ q. let z : ◌≡◌ {A = ℕ} 0 1 = cc in omega arith)
          go (group.Array p) e = never _ (looks (group.Array p) e).1 (λ q. let z : ◌≡◌ {A = ℕ} 0 1 = cc in omega arith)
          go group.Named e = never _ (looks group.Named e).1 (λ q. let z : ◌≡◌ {A = ℕ} 0 1 = cc in omega arith)
          go (group.Struct p) e = absurd (struct p e)
          go group.Sizeless e = never _ (looks group.Sizeless e).1 (λ q. let z : ◌≡◌ {A = ℕ} 0 1 = cc in omega arith)
          go group.Other e = absurd (looks group.Other e)

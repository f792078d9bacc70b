-- Terminators at their entries: optional fields, blocks' names and a switch's cases.
use Rattle.std.specs.Prelude.{◌≡◌, ℕ, ◌+◌, ◌^◌, ◌<◌, ◌≤◌, true, false, List, [], ◌∷◌, ◌++◌, length, drop, ◌≢◌, slice_index, slice_index_or}
use Rattle.std.proofs.Math.Path.{refl, sym, ap}
use Rattle.std.proofs.Common.{◌∙◌}
use Rattle.std.proofs.Math.Option.{Option, none, some}
use mathlib.Core.List.{append_assoc}
use native.Mathlib.Omega.{arith}
use Rattle.std.proofs.Math.ListN.{length-drop}
use Rattle.book.specs.Ast.{Ty, Value, Zero, Sizeless, TypedVal, Case, Terminator}
use Rattle.book.specs.Entry.{Entry, entries}
use Rattle.book.specs.Kinds.{TermTag, term_kind}
use Rattle.book.specs.Fields.{Item, Field, term_fields, term_tag_of, term_args}
use Rattle.book.specs.Encode.{enc_ty, value_entry, enc_value, enc_typed, enc_case, enc_fields, enc_term, ending, closed}
use Rattle.book.specs.Limits.{Each, TermLimits, CaseLimits}
use Rattle.gen_values.specs.Values.{value_is}
use Rattle.gen_values.specs.Fields.{Fields, ValueAt, entry_at, type_in}

-- the terminator t stands in front
pub record TermAt (m : ℕ) (t : Terminator) (es : List Entry) : Type 0 where
  pub rest : List Entry
  pub here : es ≡ enc_term t ++ rest
  pub keeps : TermLimits m t
  pub few : length es ≤ 2 ^ 20

-- its entry, and its fields behind it
pub term_fields_lem : (m : ℕ) (t : Terminator) (ks ws : List ℕ) → TermAt m t (entries ks ws)
    → (slice_index ks 0 ≡ term_kind (term_tag_of t)) × (0 < length ks) × Fields m (term_fields (term_tag_of t)) (term_args t) (drop 1 (entries ks ws))
unfolding enc_term
term_fields_lem m t ks ws f =
    let q = entry_at ks ws 0 _ _ f.here in
    (q.0, q.2, record { rest = f.rest; here = q.4; keeps = f.keeps; few = omega (arith, f.few, length-drop 1 (entries ks ws)) })

-- ---- None is 21
type_kind : (t : Ty) (ks ws : List ℕ) (a : ℕ) (tail : List Entry) → drop a (entries ks ws) ≡ enc_ty t ++ tail → slice_index ks a ≢ 21
unfolding enc_ty
type_kind Ty.void ks ws a tail h z = let q = entry_at ks ws a _ _ h in omega (arith, q.0)
type_kind Ty.ptr ks ws a tail h z = let q = entry_at ks ws a _ _ h in omega (arith, q.0)
type_kind (Ty.sizeless Sizeless.func) ks ws a tail h z = let q = entry_at ks ws a _ _ h in omega (arith, q.0)
type_kind (Ty.sizeless Sizeless.label) ks ws a tail h z = let q = entry_at ks ws a _ _ h in omega (arith, q.0)
type_kind (Ty.sizeless Sizeless.metadata) ks ws a tail h z = let q = entry_at ks ws a _ _ h in omega (arith, q.0)
type_kind (Ty.int w) ks ws a tail h z = let q = entry_at ks ws a _ _ h in omega (arith, q.0)
type_kind (Ty.array false n t) ks ws a tail h z = let q = entry_at ks ws a _ _ h in omega (arith, q.0)
type_kind (Ty.array true n t) ks ws a tail h z = let q = entry_at ks ws a _ _ h in omega (arith, q.0)
type_kind (Ty.named_struct x) ks ws a tail h z = let q = entry_at ks ws a _ _ h in omega (arith, q.0)
type_kind (Ty.struct false ts) ks ws a tail h z = let q = entry_at ks ws a _ _ h in omega (arith, q.0)
type_kind (Ty.struct true ts) ks ws a tail h z = let q = entry_at ks ws a _ _ h in omega (arith, q.0)

value_kind : (v : Value) → (value_entry v).kind ≢ 21
unfolding value_entry
value_kind (Value.local x) e = omega arith
value_kind (Value.global x) e = omega arith
value_kind (Value.int x) e = omega arith
value_kind (Value.zero Zero.null) e = omega arith
value_kind (Value.zero Zero.undef) e = omega arith
value_kind (Value.zero Zero.poison) e = omega arith
value_kind (Value.zero Zero.zero_init) e = omega arith
value_kind Value.other e = omega arith

-- ---- a `ret`'s value, behind the terminator's entry
abbrev TypedFields : List Field
TypedFields = Field.plain Item.type ∷ Field.plain Item.value ∷ []

pub record RetValue (m : ℕ) (ks ws : List ℕ) (val : Option TypedVal) : Type 0 where
  pub typed : TypedVal
  pub is : val ≡ some typed
  pub fields : Fields m TypedFields (typed.ty, (typed.val, tt)) (drop 1 (entries ks ws))

module _ {m : ℕ} (ks ws : List ℕ) where
  typed_fields : (tv : TypedVal) → Fields m (term_fields TermTag.ret) (some tv, tt) (drop 1 (entries ks ws)) → Fields m TypedFields (tv.ty, (tv.val, tt)) (drop 1 (entries ks ws))
  unfolding enc_fields
  typed_fields tv f =
      record {
        rest = f.rest;
        here = f.here ∙ append_assoc (enc_typed tv) [] f.rest ∙ append_assoc (enc_ty tv.ty) (enc_value tv.val) f.rest
            ∙ sym (append_assoc (enc_ty tv.ty) (enc_value tv.val) f.rest);
        keeps = (f.keeps.0.0, (f.keeps.0.1, tt));
        few = f.few;
      }

  pub ret_in : (val : Option TypedVal) → Fields m (term_fields TermTag.ret) (val, tt) (drop 1 (entries ks ws)) → (1 < length ks) × (1 < length ws)
  unfolding enc_fields
  ret_in none f = let q = entry_at ks ws 1 _ _ f.here in (q.2, q.3)
  ret_in (some tv) f = type_in ks ws 1 (typed_fields tv f)

  pub ret_void_lem : (val : Option TypedVal) → Fields m (term_fields TermTag.ret) (val, tt) (drop 1 (entries ks ws)) → slice_index ks 1 ≡ 21 → val ≡ none
  unfolding enc_fields
  ret_void_lem none f z = refl
  ret_void_lem (some tv) f z = absurd (type_kind tv.ty ks ws 1 _ ((typed_fields tv f).here ∙ append_assoc (enc_ty tv.ty) _ _) z)

  pub ret_value_lem : (val : Option TypedVal) → Fields m (term_fields TermTag.ret) (val, tt) (drop 1 (entries ks ws)) → (slice_index ks 1 ≢ 21) → RetValue m ks ws val
  unfolding enc_fields
  ret_value_lem none f z = let q = entry_at ks ws 1 _ _ f.here in absurd (z q.0)
  ret_value_lem (some tv) f z = record { typed = tv; is = refl; fields = typed_fields tv f }

-- ---- a `br`'s fields, an entry each: the condition at 1, its targets at 2 and 3
pub record BrAt (m : ℕ) (ks ws : List ℕ) (cond : Option Value) (if_true : ℕ) (if_false : Option ℕ) : Type 0 where
  pub in_kinds : 3 < length ks
  pub in_words : 3 < length ws
  pub plain : slice_index_or ks 1 0 ≡ 21 → cond ≡ none
  pub tested : (slice_index ks 1 ≢ 21) → (v : Value) × (cond ≡ some v) × ValueAt m ks ws 1 v
  pub true_is : slice_index_or ws 2 0 ≡ if_true
  pub true_below : if_true < m
  pub one_way : slice_index_or ks 3 0 ≡ 21 → if_false ≡ none
  pub both_ways : (slice_index ks 3 ≢ 21) → (if_false ≡ some (slice_index ws 3)) × (slice_index ws 3 < m)

module _ {m : ℕ} (ks ws : List ℕ) where
  pub br_at : (cond : Option Value) (if_true : ℕ) (if_false : Option ℕ) → Fields m (term_fields TermTag.br) (cond, (if_true, (if_false, tt))) (drop 1 (entries ks ws))
      → BrAt m ks ws cond if_true if_false
  unfolding enc_fields
  br_at none t none f =
      let a = entry_at ks ws 1 _ _ f.here in
      let b = entry_at ks ws 2 _ _ a.4 in
      let d = entry_at ks ws 3 _ _ b.4 in
      record {
        in_kinds = d.2;
        in_words = d.3;
        plain = λ z. refl;
        tested = λ z. absurd (z a.0);
        true_is = b.1;
        true_below = f.keeps.1.0;
        one_way = λ z. refl;
        both_ways = λ z. absurd (z d.0);
      }
  br_at none t (some x) f =
      let a = entry_at ks ws 1 _ _ f.here in
      let b = entry_at ks ws 2 _ _ a.4 in
      let d = entry_at ks ws 3 _ _ b.4 in
      record {
        in_kinds = d.2;
        in_words = d.3;
        plain = λ z. refl;
        tested = λ z. absurd (z a.0);
        true_is = b.1;
        true_below = f.keeps.1.0;
        one_way = λ z. absurd (omega (arith, d.0));
        both_ways = λ z. (ap some (sym d.1), rw d.1 f.keeps.1.1.0);
      }
  br_at (some v) t none f =
      let a = entry_at ks ws 1 _ _ f.here in
      let b = entry_at ks ws 2 _ _ a.4 in
      let d = entry_at ks ws 3 _ _ b.4 in
      record {
        in_kinds = d.2;
        in_words = d.3;
        plain = λ z. absurd (value_kind v (sym a.0 ∙ z));
        tested = λ z. (v, refl, record { is = rw (a.0, a.1) (value_is v); limits = f.keeps.0; in_kinds = a.2; in_words = a.3 });
        true_is = b.1;
        true_below = f.keeps.1.0;
        one_way = λ z. refl;
        both_ways = λ z. absurd (z d.0);
      }
  br_at (some v) t (some x) f =
      let a = entry_at ks ws 1 _ _ f.here in
      let b = entry_at ks ws 2 _ _ a.4 in
      let d = entry_at ks ws 3 _ _ b.4 in
      record {
        in_kinds = d.2;
        in_words = d.3;
        plain = λ z. absurd (value_kind v (sym a.0 ∙ z));
        tested = λ z. (v, refl, record { is = rw (a.0, a.1) (value_is v); limits = f.keeps.0; in_kinds = a.2; in_words = a.3 });
        true_is = b.1;
        true_below = f.keeps.1.0;
        one_way = λ z. absurd (omega (arith, d.0));
        both_ways = λ z. (ap some (sym d.1), rw d.1 f.keeps.1.1.0);
      }

-- the value of a condition
pub cond_at : {m : ℕ} (ks ws : List ℕ) {v : Value} {t : ℕ} {o : Option ℕ} → Fields m (term_fields TermTag.br) (some v, (t, (o, tt))) (drop 1 (entries ks ws)) → ValueAt m ks ws 1 v
unfolding enc_fields
cond_at ks ws {v} f =
    let a = entry_at ks ws 1 _ _ f.here in
    record { is = rw (a.0, a.1) (value_is v); limits = f.keeps.0; in_kinds = a.2; in_words = a.3 }

-- ---- a switch's cases at a place: an integer, then a block's name
pub record Cases (m : ℕ) (cs : List Case) (es : List Entry) : Type 0 where
  pub rest : List Entry
  pub here : es ≡ closed enc_case cs ++ rest
  pub keeps : Each (CaseLimits m) cs
  pub few : length es ≤ 2 ^ 20

pub record CaseAt (m : ℕ) (ks ws : List ℕ) (a : ℕ) (cs : List Case) : Type 0 where
  pub case : Case
  pub more : List Case
  pub same : cs ≡ case ∷ more
  pub value : slice_index_or ws a 0 ≡ case.value
  pub label : slice_index_or ws (a + 1) 0 ≡ case.label
  pub below : case.label < m
  pub in_words : a + 1 < length ws
  pub next : Cases m more (drop (a + 2) (entries ks ws))

module _ {m : ℕ} (ks ws : List ℕ) (a : ℕ) where
  pub cases_in : (cs : List Case) → Cases m cs (drop a (entries ks ws)) → (a < length ks) × (a < length ws)
  unfolding ending
  cases_in [] f = let q = entry_at ks ws a _ _ f.here in (q.2, q.3)
  cases_in (k ∷ cs) f = let q = entry_at ks ws a _ _ f.here in (q.2, q.3)

  pub cases_end : (cs : List Case) → Cases m cs (drop a (entries ks ws)) → slice_index ks a ≡ 0 → cs ≡ []
  unfolding ending
  cases_end [] f z = refl
  cases_end (k ∷ cs) f z = let q = entry_at ks ws a _ _ f.here in absurd (omega (arith, q.0))

  pub cases_next : (cs : List Case) → Cases m cs (drop a (entries ks ws)) → (slice_index ks a ≢ 0) → CaseAt m ks ws a cs
  unfolding ending
  cases_next [] f z = let q = entry_at ks ws a _ _ f.here in absurd (z q.0)
  cases_next (k ∷ cs) f z =
      let q = entry_at ks ws a _ _ f.here in
      let r = entry_at ks ws (a + 1) _ _ q.4 in
      let n : a + 1 + 1 ≡ a + 2 = omega arith in
      record {
        case = k;
        more = cs;
        same = refl;
        value = q.1;
        label = r.1;
        below = f.keeps.0;
        in_words = r.3;
        next = record {
          rest = f.rest;
          here = ap (λ j. drop j (entries ks ws)) (sym n) ∙ r.4;
          keeps = f.keeps.1;
          few = omega (arith, f.few, length-drop a (entries ks ws), length-drop (a + 2) (entries ks ws));
        };
      }

-- The arguments of a call: counted, and pushed one after the other.
use Rattle.std.specs.Prelude.{◌≡◌, ℕ, ◌+◌, ◌<◌, ◌≤◌, List, [], ◌∷◌, ◌++◌, length, drop, ◌≢◌, slice_index, slice_index_or, refl}
use Rattle.std.proofs.Common.{sym, subst, ◌∙◌, arith}
use Rattle.std.proofs.Math.Path.{ap}
use mathlib.Core.List.{append_assoc, append-nil}
use Rattle.book.specs.Ast.{TypedVal}
use Rattle.book.specs.Entry.{Entry, entries}
use Rattle.book.specs.Fields.{Item, Field}
use Rattle.book_types.specs.Laws.{lent_from, entries_part}
use Rattle.layout_memo.specs.Front.{ty_len}
use Rattle.lowering.specs.Context.{FnCtx}
use Rattle.lowering.specs.Operand.{push_typed}
use Rattle.lowering.specs.Call.{push_arg, push_args}
use Rattle.gen_lines.specs.declared.Reached.{Reached}
use Rattle.gen_lines.specs.Puts.{Puts}
use Rattle.gen_lines.specs.Follow.{none_puts, more_puts}
use Rattle.gen_values.specs.Maps.{Locals}
use Rattle.gen_values.specs.Fields.{Fields, type_in, value_at, behind_type_lem, behind_value}
use Rattle.gen_fields.specs.Items.{type_kind, first_typed, list_closes}

-- these arguments are at the front
abbrev pub Args : ℕ → List TypedVal → List Entry → Type 0
Args m xs es = Fields m (Field.list Item.typed ∷ []) (xs, tt) es

pub record ArgsLent (m : ℕ) (es : List Entry) : Type 0 where
  pub holds : List TypedVal
  pub fields : Args m holds es

-- a type and an entry behind it
pub record TypeFront (m : ℕ) (ks ws : List ℕ) (a : ℕ) : Type 0 where
  pub in_kinds : a < length ks
  pub in_words : a < length ws
  pub fits : a + ty_len m (drop a (entries ks ws)) < length ks

pub part_len : (m : ℕ) (ks ws : List ℕ) (a : ℕ) {n : ℕ} → n ≡ ty_len m (lent_from ks ws a) → n ≡ ty_len m (drop a (entries ks ws))
part_len m ks ws a e = e ∙ ap (ty_len m) (entries_part a ks ws)

-- ---- the first argument
abbrev Typed : (m : ℕ) (ks ws : List ℕ) (a : ℕ) → TypedVal → List TypedVal → Type 0
Typed m ks ws a x xs = Fields m (Field.plain Item.type ∷ Field.plain Item.value ∷ Field.list Item.typed ∷ []) (x.ty, (x.val, (xs, tt))) (drop a (entries ks ws))

-- there is one
pub record One (m : ℕ) (ks ws : List ℕ) (a : ℕ) (xs : List TypedVal) : Type 0 where
  pub first : TypedVal
  pub more : List TypedVal
  pub same : xs ≡ first ∷ more
  pub fields : Typed m ks ws a first more

module _ {m : ℕ} (ks ws : List ℕ) (a : ℕ) where
  args_in : (xs : List TypedVal) → Args m xs (drop a (entries ks ws)) → a < length ks
  args_in [] f = (list_closes ks ws a f).1
  args_in (x ∷ xs) f = (type_in ks ws a (first_typed f)).0

  args_none : (xs : List TypedVal) → Args m xs (drop a (entries ks ws)) → slice_index ks a ≡ 0 → xs ≡ []
  args_none [] f z = refl
  args_none (x ∷ xs) f z = absurd (omega (arith, (type_kind ks ws a (first_typed f)).0))

  pub args_one : (xs : List TypedVal) → Args m xs (drop a (entries ks ws)) → (slice_index ks a ≢ 0) → One m ks ws a xs
  args_one [] f z = absurd (z (list_closes ks ws a f).0)
  args_one (x ∷ xs) f z = record { first = x; more = xs; same = refl; fields = first_typed f }

  module _ {x : TypedVal} {xs : List TypedVal} (f : Typed m ks ws a x xs) where
    type_front : TypeFront m ks ws a
    type_front = let t = type_in ks ws a f in record { in_kinds = t.0; in_words = t.1; fits = (value_at ks ws (a + ty_len m (drop a (entries ks ws))) (behind_type_lem ks ws a f refl)).in_kinds }

    next_args : {n : ℕ} → n ≡ ty_len m (drop a (entries ks ws)) → Args m xs (drop (a + (n + 1)) (entries ks ws))
    next_args {n} e =
        let i : a + n + 1 ≡ a + (n + 1) = omega arith in
        subst (λ (k : ℕ). Args m xs (drop k (entries ks ws))) i (behind_value ks ws (a + n) (behind_type_lem ks ws a f e))

module _ {m : ℕ} (ks ws : List ℕ) (a : ℕ) (l : ArgsLent m (drop a (entries ks ws))) where
  pub lent_in : a < length ks
  lent_in = args_in ks ws a l.holds l.fields

  pub lent_one : (slice_index ks a ≢ 0) → One m ks ws a l.holds
  lent_one z = args_one ks ws a l.holds l.fields z

  pub lent_front : (slice_index ks a ≢ 0) → TypeFront m ks ws a
  lent_front z = type_front ks ws a (lent_one z).fields

-- ---- counted
pub record Counted (m : ℕ) (ks ws : List ℕ) (args : List TypedVal) (a n : ℕ) : Type 0 where
  pub left : List TypedVal
  pub fields : Args m left (drop a (entries ks ws))
  pub sum : n + length left ≡ length args
  pub few : n ≤ a

abbrev pub Counting : (m : ℕ) (ks ws : List ℕ) (a n : ℕ) → Type 0
Counting m ks ws a n = (args : List TypedVal) → Args m args (entries ks ws) → Counted m ks ws args a n

module _ {m : ℕ} (ks ws : List ℕ) where
  pub count_start : Counting m ks ws 0 0
  count_start args f = record { left = args; fields = f; sum = omega arith; few = omega arith }

  module _ (a n : ℕ) (i : Counting m ks ws a n) where
    pub count_left : ArgsLent m (entries ks ws) → ArgsLent m (drop a (entries ks ws))
    count_left l = let q = i l.holds l.fields in record { holds = q.left; fields = q.fields }

    pub count_few : ArgsLent m (entries ks ws) → n ≤ a
    count_few l = (i l.holds l.fields).few

    pub count_done : slice_index_or ks a 0 ≡ 0 → (args : List TypedVal) → Args m args (entries ks ws) → n ≡ length args
    count_done z args f =
        let q = i args f in
        let e = ap length (args_none ks ws a q.left q.fields z) in
        omega (arith, q.sum, e)

    pub count_next : (slice_index ks a ≢ 0) → {v : ℕ} → v ≡ ty_len m (drop a (entries ks ws)) → Counting m ks ws (a + (v + 1)) (n + 1)
    count_next z e args f =
        let q = i args f in
        let o = args_one ks ws a q.left q.fields z in
        record {
          left = o.more;
          fields = next_args ks ws a o.fields e;
          sum = omega (arith, q.sum, ap length o.same);
          few = omega (arith, q.few);
        }

-- ---- pushed
pub record Pushed (m : ℕ) (ks ws : List ℕ) (args : List TypedVal) (work : List ℕ) (a : ℕ) (s t : Reached) (ls os ls' os' : List ℕ) : Type 0 where
  pub done : List TypedVal
  pub left : List TypedVal
  pub fields : Args m left (drop a (entries ks ws))
  pub same : done ++ left ≡ args
  pub puts : (c : FnCtx) → Locals c m work → Puts (push_args c done) s t ls os ls' os'

pub record Pushing (m : ℕ) (ks ws work : List ℕ) (a : ℕ) (s t : Reached) (ls os ls' os' : List ℕ) : Type 0 where
  pub some : (args : List TypedVal) → Args m args (entries ks ws) → Pushed m ks ws args work a s t ls os ls' os'
  pub long_lines : length ls' ≡ length ls
  pub long_operands : length os' ≡ length os

module _ {m : ℕ} (ks ws work : List ℕ) where
  pub push_start : (s : Reached) (ls os : List ℕ) → Pushing m ks ws work 0 s s ls os ls os
  unfolding push_args
  push_start s ls os =
      record {
        some = λ args f. record { done = []; left = args; fields = f; same = refl; puts = λ c k. none_puts (push_arg c) s ls os };
        long_lines = refl;
        long_operands = refl;
      }

  module _ (a : ℕ) {s t : Reached} {ls os ls' os' : List ℕ} (i : Pushing m ks ws work a s t ls os ls' os') where
    pub push_left : ArgsLent m (entries ks ws) → ArgsLent m (drop a (entries ks ws))
    push_left l = let q = i.some l.holds l.fields in record { holds = q.left; fields = q.fields }

    pub push_done : (c : FnCtx) → Locals c m work → slice_index ks a ≡ 0 → (args : List TypedVal) → Args m args (entries ks ws) → Puts (push_args c args) s t ls os ls' os'
    push_done c k z args f =
        let q = i.some args f in
        let e : q.done ≡ args = sym (append-nil q.done) ∙ ap (λ r. q.done ++ r) (sym (args_none ks ws a q.left q.fields z)) ∙ q.same in
        subst (λ (xs : List TypedVal). Puts (push_args c xs) s t ls os ls' os') e (q.puts c k)

    pub push_next : (slice_index ks a ≢ 0) → {v : ℕ} → v ≡ ty_len m (drop a (entries ks ws)) → {u : Reached} {ls'' os'' : List ℕ} → length ls'' ≡ length ls' → length os'' ≡ length os'
        → ((c : FnCtx) (x : TypedVal) (xs : List TypedVal) → Typed m ks ws a x xs → Locals c m work → Puts (push_typed c x.ty x.val) t u ls' os' ls'' os'')
        → Pushing m ks ws work (a + (v + 1)) s u ls os ls'' os''
    unfolding push_args push_arg
    push_next z e dl dr p =
        record {
          some = λ args f.
              let q = i.some args f in
              let o = args_one ks ws a q.left q.fields z in
              record {
                done = q.done ++ (o.first ∷ []);
                left = o.more;
                fields = next_args ks ws a o.fields e;
                same = append_assoc q.done (o.first ∷ []) o.more ∙ ap (λ r. q.done ++ r) (sym o.same) ∙ q.same;
                puts = λ c k. more_puts (push_arg c) q.done o.first (q.puts c k) (p c o.first o.more o.fields k);
              };
          long_lines = dl ∙ i.long_lines;
          long_operands = dr ∙ i.long_operands;
        }

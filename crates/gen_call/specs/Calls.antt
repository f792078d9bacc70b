-- Which way a callee is called, and calls from their parts.
use Rattle.std.specs.Prelude.{◌≡◌, ℕ, ◌+◌, ◌*◌, ◌%◌, ◌^◌, ◌<◌, ◌≤◌, Bool, true, false, cond, not, ◌||◌, ltb, List, [], ◌∷◌, ◌++◌, length, drop, ◌==◌, ◌≢◌, nat_le, nat_lt, slice_index, slice_index_or, ◌⊎◌}
use Rattle.std.proofs.Math.Path.{refl, sym, ap}
use Rattle.std.proofs.Common.{◌∙◌, arith, eqb-true, eq-eqb, ne_eqb, leb-true, leb-false, lt-ltb, le-ltb, ⊎_elim}
use Rattle.std.proofs.Math.Option.{Option, none, some}
use Rattle.std.proofs.lemmas.Bool.{eqb-false}
use Rattle.names.specs.Name.{name_at}
use Rattle.names.specs.Spelling.{is_syscall, is_bcmp, is_memcmp, has_overflow}
use Rattle.book.specs.Ast.{Ty, Value, TypedVal, Sizeless}
use Rattle.book.specs.Decode.{member}
use Rattle.book.specs.Encode.{enc_ty}
use Rattle.book.specs.Entry.{Entry, entries}
use Rattle.book.specs.Fields.{Item, Field, Meanings}
use Rattle.book.specs.Kinds.{ValTag, val_tag}
use Rattle.book.specs.Limits.{ValueLimits}
use Rattle.book.specs.Work.{name_words, mark_at}
use Rattle.layout_memo.specs.Front.{ty_len}
use Rattle.book_types.specs.Laws.{lent_from}
use Rattle.assembly.specs.Line.{Line}
use Rattle.assembly.specs.Number.{kind_of, operand_of}
use Rattle.lowering.specs.Gen.{refuse, when, choose}
use Rattle.lowering.specs.Context.{Codegen, FnCtx}
use Rattle.lowering.specs.Operand.{push_value, store_or_pop}
use Rattle.lowering.specs.Call.{is_void, push_args, call_target, gen_plain_call, gen_syscall, gen_memcmp_call, call_named, gen_call}
use Rattle.gen_lines.specs.declared.Reached.{Reached}
use Rattle.gen_lines.specs.Puts.{Puts, Lined, or_else, made_refused, line_puts, skip_puts, refuse_puts, same_puts, then_puts}
use Rattle.gen_values.specs.Values.{value_by, value_of}
use Rattle.gen_values.specs.Maps.{call_class, mark_word}
use Rattle.gen_values.specs.Push.{bare_puts, word_same}
use Rattle.gen_values.specs.Fields.{Fields, ValueAt, fields_part, entry_at, value_at, behind_value}
use Rattle.gen_fields.specs.Kinds.{NoName, is_local, is_global_lem, no_name}
use Rattle.gen_fields.specs.Items.{type_front}
use Rattle.gen_fields.specs.Tests.{need_puts}
use Rattle.gen_fields.specs.Places.{past_type}
use Rattle.gen_fields.specs.Given.{Given}
use Rattle.gen_call.specs.declared.Called.{Called}
use Rattle.gen_call.specs.declared.Called.TheVariants as called
use Rattle.gen_call.specs.Args.{Args, ArgsLent}

-- the callee and its arguments
abbrev pub callee : List Field
callee = Field.plain Item.value ∷ Field.list Item.typed ∷ []

-- ---- the class of a callee: 2 a syscall, 3 memcmp, 1 a function that is defined, 0 anything else
unfoldable pub class_of : Codegen → Value → ℕ
class_of g (Value.global x) = call_class g x
class_of g (Value.local x) = 0
class_of g (Value.int v) = 0
class_of g (Value.zero z) = 0
class_of g Value.other = 0

abbrev pub class_number : Called → ℕ
class_number called.Other = 0
class_number called.Defined = 1
class_number called.Syscall = 2
class_number called.Memcmp = 3

-- what is called plainly
pub plain_class : {q : Called} → (q ≡ called.Defined) ⊎ (q ≡ called.Other) → (class_number q ≢ 2) × (class_number q ≢ 3)
plain_class = ⊎_elim (λ e. (λ z. omega (arith, ap class_number e), λ z. omega (arith, ap class_number e))) (λ e. (λ z. omega (arith, ap class_number e), λ z. omega (arith, ap class_number e)))

-- the mark of each name
abbrev pub Marks : (m : ℕ) → FnCtx → List ℕ → Type 0
Marks m c work = (x : ℕ) → x < m → slice_index work (mark_at x) ≡ mark_word c.codegen x

-- a value is at the front, and a global's work words are there
pub record ClassReaches (ks ws work : List ℕ) : Type 0 where
  pub in_kinds : 0 < length ks
  pub in_words : 0 < length ws
  pub there : slice_index_or ks 0 0 ≡ 31 → mark_at (slice_index ws 0) < length work

class_few : (g : Codegen) (x : ℕ) → call_class g x ≤ 3
unfolding call_class
class_few g x = at (is_syscall (name_at g.names x)) (is_bcmp (name_at g.names x) || is_memcmp (name_at g.names x)) (member x g.defined)
  where
    at : (a b d : Bool) → cond a 2 (cond b 3 (cond d 1 0)) ≤ 3
    at true b d = omega arith
    at false true d = omega arith
    at false false true = omega arith
    at false false false = omega arith

mark_class : (g : Codegen) (x : ℕ) → mark_word g x % 4 ≡ call_class g x
unfolding mark_word
mark_class g x = at (has_overflow (name_at g.names x))
  where
    at : (b : Bool) → (call_class g x + cond b 4 0) % 4 ≡ call_class g x
    at true = omega (arith, class_few g x)
    at false = omega (arith, class_few g x)

module _ (m : ℕ) (c : FnCtx) (kind word : ℕ) where
  pub class_global : (work : List ℕ) → kind ≡ 31 → ValueLimits m (value_of kind word) → Marks m c work → slice_index work (mark_at word) % 4 ≡ class_of c.codegen (value_of kind word)
  unfolding class_of
  class_global work e l k =
      let g = is_global_lem kind word e in
      let b : word < m = rw g at l in
      rw (g, k word b) (mark_class c.codegen word)

  pub class_other : (kind ≢ 31) → 0 ≡ class_of c.codegen (value_of kind word)
  unfolding class_of
  class_other z = at (kind == 30) refl
    where
      nothing : (v : Value) → NoName v → 0 ≡ class_of c.codegen v
      nothing (Value.local x) n = refl
      nothing (Value.global x) n = absurd n
      nothing (Value.int x) n = refl
      nothing (Value.zero x) n = refl
      nothing Value.other n = refl

      at : (b : Bool) → (kind == 30) ≡ b → 0 ≡ class_of c.codegen (value_of kind word)
      at true e = rw (is_local kind word (eqb-true kind 30 e)) refl
      at false e = nothing (value_of kind word) (no_name kind word (eqb-false kind 30 e) z)

-- ---- whether a global is defined, where it is called plainly
abbrev pub Defined : FnCtx → Value → Bool → Type 0
Defined c (Value.global x) b = b ≡ member x c.codegen.defined
Defined c (Value.local x) b = Unit {0}
Defined c (Value.int v) b = Unit {0}
Defined c (Value.zero z) b = Unit {0}
Defined c Value.other b = Unit {0}

-- a global by its spelling: a syscall, or bcmp or memcmp
abbrev system : FnCtx → ℕ → Bool
system c x = is_syscall (name_at c.codegen.names x)

abbrev memory : FnCtx → ℕ → Bool
memory c x = is_bcmp (name_at c.codegen.names x) || is_memcmp (name_at c.codegen.names x)

class_plain : (a b d : Bool) {k : ℕ} → k ≡ cond a 2 (cond b 3 (cond d 1 0)) → (k ≢ 2) → (k ≢ 3) → (a ≡ false) × (b ≡ false) × ((k == 1) ≡ d)
class_plain true b d e y z = absurd (y e)
class_plain false true d e y z = absurd (z e)
class_plain false false true {k} e y z = (refl, refl, eq-eqb k 1 e)
class_plain false false false {k} e y z = (refl, refl, ne_eqb k 1 (λ q. omega arith))

pub defined_by_lem : (c : FnCtx) (v : Value) {k : ℕ} → k ≡ class_of c.codegen v → (k ≢ 2) → (k ≢ 3) → Defined c v (k == 1)
unfolding class_of call_class
defined_by_lem c (Value.global x) e y z = (class_plain (system c x) (memory c x) (member x c.codegen.defined) e y z).2
defined_by_lem c (Value.local x) e y z = tt
defined_by_lem c (Value.int x) e y z = tt
defined_by_lem c (Value.zero x) e y z = tt
defined_by_lem c Value.other e y z = tt

-- the name of a global
pub global_word : (k w : ℕ) {x : ℕ} → value_of k w ≡ Value.global x → w ≡ x
unfolding value_of
global_word k w {x} = at (val_tag k)
  where
    at : (t : Option ValTag) → value_by w t ≡ Value.global x → w ≡ x
    at none e = cc
    at (some ValTag.local) e = cc
    at (some ValTag.global) e = cc
    at (some ValTag.int) e = cc
    at (some (ValTag.zero z)) e = cc
    at (some ValTag.other) e = cc

-- ---- which call it is
module _ (c : FnCtx) (dest : Option ℕ) (ty : Ty) (args : List TypedVal) {k : ℕ} {s t : Reached} {ks os ks' os' : List ℕ} where
  pub system_puts : (v : Value) → k ≡ class_of c.codegen v → k ≡ 2 → ((x : ℕ) → v ≡ Value.global x → Puts (gen_syscall c dest x ty args) s t ks os ks' os')
      → Puts (gen_call c dest ty v args) s t ks os ks' os'
  unfolding class_of call_class gen_call call_named choose
  system_puts (Value.global x) e z p = at (system c x) (memory c x) (member x c.codegen.defined) e
    where
      at : (a b d : Bool) → k ≡ cond a 2 (cond b 3 (cond d 1 0))
          → Puts (choose a (gen_syscall c dest x ty args) (choose b (gen_memcmp_call c dest args) (gen_plain_call c dest (Value.global x) args))) s t ks os ks' os'
      at true b d e = p x refl
      at false true d e = absurd (omega arith)
      at false false true e = absurd (omega arith)
      at false false false e = absurd (omega arith)
  system_puts (Value.local x) e z p = absurd (omega arith)
  system_puts (Value.int x) e z p = absurd (omega arith)
  system_puts (Value.zero x) e z p = absurd (omega arith)
  system_puts Value.other e z p = absurd (omega arith)

  pub memory_puts : (v : Value) → k ≡ class_of c.codegen v → k ≡ 3 → Puts (gen_memcmp_call c dest args) s t ks os ks' os' → Puts (gen_call c dest ty v args) s t ks os ks' os'
  unfolding class_of call_class gen_call call_named choose
  memory_puts (Value.global x) e z p = at (system c x) (memory c x) (member x c.codegen.defined) e
    where
      at : (a b d : Bool) → k ≡ cond a 2 (cond b 3 (cond d 1 0))
          → Puts (choose a (gen_syscall c dest x ty args) (choose b (gen_memcmp_call c dest args) (gen_plain_call c dest (Value.global x) args))) s t ks os ks' os'
      at true b d e = absurd (omega arith)
      at false true d e = p
      at false false true e = absurd (omega arith)
      at false false false e = absurd (omega arith)
  memory_puts (Value.local x) e z p = absurd (omega arith)
  memory_puts (Value.int x) e z p = absurd (omega arith)
  memory_puts (Value.zero x) e z p = absurd (omega arith)
  memory_puts Value.other e z p = absurd (omega arith)

  pub other_puts : (v : Value) → k ≡ class_of c.codegen v → (k ≢ 2) → (k ≢ 3) → Puts (gen_plain_call c dest v args) s t ks os ks' os' → Puts (gen_call c dest ty v args) s t ks os ks' os'
  unfolding class_of call_class gen_call call_named choose
  other_puts (Value.global x) e y z p = let q = class_plain (system c x) (memory c x) (member x c.codegen.defined) e y z in rw (q.0, q.1) p
  other_puts (Value.local x) e y z p = p
  other_puts (Value.int x) e y z p = p
  other_puts (Value.zero x) e y z p = p
  other_puts Value.other e y z p = p

-- ---- the target
module _ (c : FnCtx) (kind word n : ℕ) {s t u : Reached} {ks os ks₁ os₁ : List ℕ} where
  pub target_global : kind ≡ 31 → (b : Bool) {x : ℕ} → Defined c (value_of kind word) b → t ≡ or_else b s (made_refused s 15) → x ≡ (word * 256 + n) % 2 ^ 64
      → Lined 5 x t u ks os ks₁ os₁ → Puts (call_target c (value_of kind word) n) s u ks os ks₁ os₁
  unfolding call_target kind_of operand_of
  target_global e b d h i l =
      let g = is_global_lem kind word e in
      let d' : b ≡ member word c.codegen.defined = rw g at d in
      rw g (then_puts (same_puts (λ k. ap (λ y. when (not y) (refuse 15) k) d') (need_puts b 15 (omega arith) s ks os h)) (line_puts (Line.call word n) refl i l))

module _ (c : FnCtx) (kind word n : ℕ) {s t u : Reached} {ks os ks₁ os₁ ks₂ os₂ : List ℕ} where
  pub target_local : kind ≡ 30 → n < 2 ^ 64 → Puts (push_value c (value_of kind word) 64) s t ks os ks₁ os₁ → Lined 12 n t u ks₁ os₁ ks₂ os₂
      → Puts (call_target c (value_of kind word) n) s u ks os ks₂ os₂
  unfolding call_target kind_of operand_of
  target_local e few p l = let g = is_local kind word e in rw g (then_puts (rw g at p) (line_puts (Line.call_fp n) refl (word_same few) l))

module _ (c : FnCtx) (kind word n : ℕ) {s t : Reached} (ks os : List ℕ) where
  pub target_none : (kind ≢ 31) → (kind ≢ 30) → t ≡ made_refused s 15 → Puts (call_target c (value_of kind word) n) s t ks os ks os
  unfolding call_target
  target_none y z h = at (value_of kind word) (no_name kind word z y)
    where
      at : (v : Value) → NoName v → Puts (call_target c v n) s t ks os ks os
      at (Value.local x) e = absurd e
      at (Value.global x) e = absurd e
      at (Value.int x) e = refuse_puts 15 (omega arith) s ks os h
      at (Value.zero x) e = refuse_puts 15 (omega arith) s ks os h
      at Value.other e = refuse_puts 15 (omega arith) s ks os h

-- ---- `gen_call`
few_test : (n : ℕ) → not (nat_le n 255) ≡ nat_lt 255 n
few_test n = at (nat_le n 255) refl
  where
    at : (b : Bool) → nat_le n 255 ≡ b → not b ≡ nat_lt 255 n
    at true e = sym (le-ltb 255 n (leb-true n 255 e))
    at false e = sym (lt-ltb 255 n (leb-false n 255 e))

module _ (c : FnCtx) (dest : Option ℕ) (v : Value) (args : List TypedVal) {n : ℕ} {s t₁ t₂ t₃ t₄ : Reached} {ks os ks₁ os₁ ks₂ os₂ ks₃ os₃ : List ℕ} where
  pub plain_puts : n ≡ length args → t₁ ≡ or_else (nat_le n 255) s (made_refused s 15) → Puts (push_args c args) t₁ t₂ ks os ks₁ os₁ → Puts (call_target c v n) t₂ t₃ ks₁ os₁ ks₂ os₂
      → Puts (store_or_pop c dest) t₃ t₄ ks₂ os₂ ks₃ os₃ → Puts (gen_plain_call c dest v args) s t₄ ks os ks₃ os₃
  unfolding gen_plain_call
  plain_puts e h p q r =
      then_puts (same_puts (λ i. ap (λ b. when b (refuse 15) i) (few_test n ∙ ap (ltb 255) e)) (need_puts (nat_le n 255) 15 (omega arith) s ks os h))
      (then_puts p (then_puts (same_puts (λ i. ap (λ y. call_target c v y i) e) q) r))

-- ---- `gen_syscall`
module _ (c : FnCtx) (dest : Option ℕ) (name : ℕ) (ty : Ty) (args : List TypedVal) (few : name < 2 ^ 64) {s t u : Reached} {ks os ks₁ os₁ ks₂ os₂ : List ℕ} where
  pub void_puts : {b : Bool} → b ≡ is_void ty → b ≡ true → Puts (push_args c args) s t ks os ks₁ os₁ → Lined 6 name t u ks₁ os₁ ks₂ os₂ → Puts (gen_syscall c dest name ty args) s u ks os ks₂ os₂
  unfolding gen_syscall kind_of operand_of when
  void_puts e z p l = let v : is_void ty ≡ true = sym e ∙ z in rw v (then_puts p (then_puts (line_puts (Line.syscall name) refl (word_same few) l) (skip_puts u ks₂ os₂)))

  pub result_puts : {w : Reached} {ks₃ os₃ : List ℕ} {b : Bool} → b ≡ is_void ty → b ≡ false → Puts (push_args c args) s t ks os ks₁ os₁ → Lined 6 name t u ks₁ os₁ ks₂ os₂
      → Puts (store_or_pop c dest) u w ks₂ os₂ ks₃ os₃ → Puts (gen_syscall c dest name ty args) s w ks os ks₃ os₃
  unfolding gen_syscall kind_of operand_of when
  result_puts e z p l r = let v : is_void ty ≡ false = sym e ∙ z in rw v (then_puts p (then_puts (line_puts (Line.syscall name) refl (word_same few) l) r))

-- ---- `gen_memcmp_call`
module _ (c : FnCtx) (dest : Option ℕ) (args : List TypedVal) {s t u w : Reached} {ks os ks₁ os₁ ks₂ os₂ ks₃ os₃ : List ℕ} where
  pub memcmp_puts : Puts (push_args c args) s t ks os ks₁ os₁ → Lined 86 0 t u ks₁ os₁ ks₂ os₂ → Puts (store_or_pop c dest) u w ks₂ os₂ ks₃ os₃
      → Puts (gen_memcmp_call c dest args) s w ks os ks₃ os₃
  unfolding gen_memcmp_call kind_of operand_of
  memcmp_puts p l r = then_puts p (then_puts (bare_puts Line.sys_memcmp refl refl l) r)

-- ---- the return type
void_entry : (t : Ty) (ks ws : List ℕ) (a : ℕ) (tail : List Entry) → drop a (entries ks ws) ≡ enc_ty t ++ tail → (slice_index ks a == 10) ≡ is_void t
unfolding enc_ty is_void
void_entry Ty.void ks ws a tail h = rw (entry_at ks ws a _ _ h).0
void_entry Ty.ptr ks ws a tail h = rw (entry_at ks ws a _ _ h).0
void_entry (Ty.sizeless Sizeless.func) ks ws a tail h = rw (entry_at ks ws a _ _ h).0
void_entry (Ty.sizeless Sizeless.label) ks ws a tail h = rw (entry_at ks ws a _ _ h).0
void_entry (Ty.sizeless Sizeless.metadata) ks ws a tail h = rw (entry_at ks ws a _ _ h).0
void_entry (Ty.int w) ks ws a tail h = rw (entry_at ks ws a _ _ h).0
void_entry (Ty.array false n t) ks ws a tail h = rw (entry_at ks ws a _ _ h).0
void_entry (Ty.array true n t) ks ws a tail h = rw (entry_at ks ws a _ _ h).0
void_entry (Ty.named_struct x) ks ws a tail h = rw (entry_at ks ws a _ _ h).0
void_entry (Ty.struct false ts) ks ws a tail h = rw (entry_at ks ws a _ _ h).0
void_entry (Ty.struct true ts) ks ws a tail h = rw (entry_at ks ws a _ _ h).0

pub void_kind : {m : ℕ} {fs : List Field} {p : Meanings (Field.plain Item.type ∷ fs)} (ks ws : List ℕ) → Fields m (Field.plain Item.type ∷ fs) p (entries ks ws) → (slice_index ks 0 == 10) ≡ is_void p.0
void_kind {m} {fs} {p} ks ws f = void_entry p.0 ks ws 0 _ (type_front f)

-- ---- the callee at the front and the arguments behind it
pub class_reaches : (m : ℕ) (ks ws : List ℕ) {v : Value} {work : List ℕ} → ValueAt m ks ws 0 v → name_words m ≤ length work → ClassReaches ks ws work
class_reaches m ks ws q room =
    record {
      in_kinds = q.in_kinds;
      in_words = q.in_words;
      there = λ e.
          let l : ValueLimits m (Value.global (slice_index ws 0)) = rw (sym q.is ∙ is_global_lem (slice_index ks 0) (slice_index ws 0) e) at q.limits in
          omega (arith, l);
    }

pub args_part : {m : ℕ} {p : Meanings callee} (ks ws : List ℕ) → Fields m callee p (entries ks ws) → Args m p.1.0 (lent_from ks ws 1)
args_part ks ws f = fields_part ks ws 1 (behind_value ks ws 0 f)

pub lent_args : {m dest : ℕ} {work : List ℕ} (ks ws : List ℕ) → Given m callee (entries ks ws) dest work → ArgsLent m (lent_from ks ws 1)
lent_args ks ws g = record { holds = g.holds.1.0; fields = args_part ks ws g.fields }

pub callee_in : {m : ℕ} {p : Meanings callee} (ks ws : List ℕ) → Fields m callee p (entries ks ws) → (1 ≤ length ks) × (1 ≤ length ws)
callee_in ks ws f = let v = value_at ks ws 0 f in (omega (arith, v.in_kinds), omega (arith, v.in_words))

-- behind the return type in front
pub callee_part : {m : ℕ} {p : Meanings (Field.plain Item.type ∷ callee)} (ks ws : List ℕ) {a : ℕ} → Fields m (Field.plain Item.type ∷ callee) p (entries ks ws) → a ≡ ty_len m (entries ks ws)
    → (a < length ks) × (a < length ws) × Fields m callee p.1 (lent_from ks ws a)
callee_part ks ws {a} f e =
    let c = past_type ks ws f e in
    let v = value_at ks ws a c in
    (v.in_kinds, v.in_words, fields_part ks ws a c)

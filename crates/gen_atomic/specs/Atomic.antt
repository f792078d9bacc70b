-- Atomics, `gen_cmpxchg` and `gen_extractvalue` from their parts.
use Rattle.std.specs.Prelude.{◌≡◌, ℕ, ◌+◌, ◌-◌, ◌%◌, ◌^◌, ◌<◌, Bool, true, false, not, List, ◌==◌, ◌≢◌, nat_le, nat_lt, slice_index}
use Rattle.std.proofs.Math.Path.{refl, ap}
use Rattle.std.proofs.Common.{sym, ◌∙◌, arith, eq-eqb, ne_eqb, leb-true, leb-false, lt-ltb, le-ltb}
use Rattle.std.proofs.Math.Option.{Option}
use Rattle.book.specs.Ast.{Ty, Value, ICmpPred}
use Rattle.book.specs.Work.{slot_at}
use Rattle.book.specs.Map.{lookup}
use Rattle.book.specs.Result.{ok_or}
use Rattle.layout.specs.Layout.{size_of}
use Rattle.assembly.specs.Line.{Line, Work}
use Rattle.assembly.specs.Number.{kind_of, operand_of, operation, icmp_number}
use Rattle.lowering.specs.Gen.{Gen, line, refuse, ◌>>◌, when}
use Rattle.lowering.specs.Context.{FnCtx, named, slot_of}
use Rattle.lowering.specs.Operand.{push_value, store_dest}
use Rattle.lowering.specs.Memory.{require_atomic_width, gen_atomic_load, gen_atomic_store, gen_cmpxchg, agg_slot, gen_extract_value}
use Rattle.gen_lines.specs.declared.Reached.{Reached}
use Rattle.gen_lines.specs.Puts.{Puts, Lined, or_else, made_refused, line_puts, then_puts, same_puts}
use Rattle.gen_lines.specs.Follow.{Asked, asked_ok, asked_err, asked_puts}
use Rattle.gen_values.specs.Values.{value_of, dest_of}
use Rattle.gen_values.specs.Maps.{Locals}
use Rattle.gen_values.specs.Push.{some_of, none_of, bare_puts, set_local_puts}
use Rattle.gen_fields.specs.Kinds.{NoLocal, is_local, no_local}
use Rattle.gen_fields.specs.Tests.{need_puts}

-- ---- atomics
module _ (c : FnCtx) (ty : Ty) {n : ℕ} {s s₁ t : Reached} (ks os : List ℕ) where
  pub width_puts : Asked (size_of c.codegen.structs ty) s s₁ n → t ≡ or_else (n == 8) s₁ (made_refused s₁ 12) → Puts (require_atomic_width c ty) s t ks os ks os
  unfolding require_atomic_width
  width_puts a h = asked_puts (λ k. when (not (k == 8)) (refuse 12)) a (need_puts (n == 8) 12 (omega arith) s₁ ks os h)

module _ (c : FnCtx) (ty : Ty) {s t u v : Reached} {ks os ks₁ os₁ ks₂ os₂ : List ℕ} where
  pub load_puts : (ptr : Value) → Puts (require_atomic_width c ty) s t ks os ks os → Puts (push_value c ptr 64) t u ks os ks₁ os₁ → Lined 83 0 u v ks₁ os₁ ks₂ os₂
      → Puts (gen_atomic_load c ty ptr) s v ks os ks₂ os₂
  unfolding gen_atomic_load kind_of operand_of
  load_puts ptr p q h = then_puts p (then_puts q (bare_puts Line.atomic_load refl refl h))

module _ (c : FnCtx) (ty : Ty) {s t u v w : Reached} {ks os ks₁ os₁ ks₂ os₂ ks₃ os₃ : List ℕ} where
  pub store_puts : (val ptr : Value) → Puts (require_atomic_width c ty) s t ks os ks os → Puts (push_value c ptr 64) t u ks os ks₁ os₁
      → Puts (push_value c val 64) u v ks₁ os₁ ks₂ os₂ → Lined 84 0 v w ks₂ os₂ ks₃ os₃ → Puts (gen_atomic_store c ty val ptr) s w ks os ks₃ os₃
  unfolding gen_atomic_store kind_of operand_of
  store_puts val ptr p q r h = then_puts p (then_puts q (then_puts r (bare_puts Line.atomic_store refl refl h)))

-- ---- slots
module _ (c : FnCtx) (m x e : ℕ) (work : List ℕ) (below : x < m) (k : Locals c m work) (s : Reached) {w : ℕ} (is : w ≡ slice_index work (slot_at x)) where
  pub slot_found : (w ≢ 0) → Asked (ok_or e (lookup x c.slots)) s s (w - 1)
  unfolding ok_or
  slot_found z = rw (some_of (lookup x c.slots) w (is ∙ k.slots x below) z) (asked_ok s (w - 1))

  pub slot_missing : {t : Reached} → 0 < e → w ≡ 0 → t ≡ made_refused s e → Asked (ok_or e (lookup x c.slots)) s t 0
  unfolding ok_or
  slot_missing p z h = rw (none_of (lookup x c.slots) w (is ∙ k.slots x below) z) (asked_err e p s 0 h)

module _ (c : FnCtx) (dest : ℕ) (s : Reached) where
  pub nameless : {t : Reached} → dest ≡ 0 → t ≡ made_refused s 5 → Asked (slot_of c (dest_of dest)) s t 0
  unfolding slot_of dest_of named ok_or
  nameless z h = rw (eq-eqb dest 0 z) (asked_err 5 (omega arith) s 0 h)

  pub result_slot : {t : Reached} {x : ℕ} → (dest ≢ 0) → Asked (ok_or 5 (lookup (dest - 1) c.slots)) s t x → Asked (slot_of c (dest_of dest)) s t x
  unfolding slot_of dest_of named
  result_slot z a = rw (ne_eqb dest 0 z) a

module _ (c : FnCtx) (kind word : ℕ) (s : Reached) where
  pub agg_local : {t : Reached} {x : ℕ} → kind ≡ 30 → Asked (ok_or 16 (lookup word c.slots)) s t x → Asked (ok_or 16 (agg_slot c (value_of kind word))) s t x
  unfolding agg_slot
  agg_local e a = rw (is_local kind word e) a

  pub agg_none : {t : Reached} → (kind ≢ 30) → t ≡ made_refused s 16 → Asked (ok_or 16 (agg_slot c (value_of kind word))) s t 0
  unfolding agg_slot ok_or
  agg_none {t} z h = at (value_of kind word) (no_local kind word z)
    where
      at : (v : Value) → NoLocal v → Asked (ok_or 16 (agg_slot c v)) s t 0
      at (Value.local x) n = absurd n
      at (Value.global x) n = asked_err 16 (omega arith) s 0 h
      at (Value.int x) n = asked_err 16 (omega arith) s 0 h
      at (Value.zero x) n = asked_err 16 (omega arith) s 0 h
      at Value.other n = asked_err 16 (omega arith) s 0 h

-- ---- `gen_cmpxchg`
-- the two slots
unfoldable pub set_both : FnCtx → Value → ℕ → Gen
set_both c cmp base = do
  line Line.dup
  line (Line.set_local base)
  push_value c cmp 64
  line (Line.icmp ICmpPred.eq Work.w64)
  line (Line.set_local (base + 1))

module _ {s t : Reached} {ks os ks' os' : List ℕ} where
  -- a slot that is a sum
  pub next_slot : (x y : ℕ) {z : ℕ} → z ≡ (x + y) % 2 ^ 64 → Lined 11 z s t ks os ks' os' → Puts (line (Line.set_local (x + y))) s t ks os ks' os'
  unfolding kind_of operand_of
  next_slot x y e h = line_puts (Line.set_local (x + y)) refl e h

  pub sum_slot : (x y : ℕ) {z : ℕ} → z ≡ (x + y) % 2 ^ 64 → Lined 10 z s t ks os ks' os' → Puts (line (Line.get_local (x + y))) s t ks os ks' os'
  unfolding kind_of operand_of
  sum_slot x y e h = line_puts (Line.get_local (x + y)) refl e h

module _ (c : FnCtx) (v : Value) (base : ℕ) {next : ℕ} {s t₁ t₂ t₃ t₄ t₅ : Reached} {ks os ks₁ os₁ ks₂ os₂ ks₃ os₃ ks₄ os₄ ks₅ os₅ : List ℕ} where
  pub both_puts : base < 2 ^ 64 → Lined 87 0 s t₁ ks os ks₁ os₁ → Lined 11 base t₁ t₂ ks₁ os₁ ks₂ os₂ → Puts (push_value c v 64) t₂ t₃ ks₂ os₂ ks₃ os₃
      → Lined 57 0 t₃ t₄ ks₃ os₃ ks₄ os₄ → next ≡ (base + 1) % 2 ^ 64 → Lined 11 next t₄ t₅ ks₄ os₄ ks₅ os₅ → Puts (set_both c v base) s t₅ ks os ks₅ os₅
  unfolding set_both kind_of operand_of operation icmp_number
  both_puts few a b p d i e =
      then_puts (bare_puts Line.dup refl refl a)
      (then_puts (set_local_puts base few b) (then_puts p (then_puts (bare_puts (Line.icmp ICmpPred.eq Work.w64) refl refl d) (next_slot base 1 i e))))

module _ (c : FnCtx) (ptr cmp new : Value) (dest : Option ℕ) {base : ℕ} {s t₁ t₂ t₃ t₄ t₅ t₆ : Reached} {ks os ks₁ os₁ ks₂ os₂ ks₃ os₃ ks₄ os₄ ks₅ os₅ : List ℕ} where
  pub cmpxchg_puts : Asked (slot_of c dest) s t₁ base → Puts (push_value c ptr 64) t₁ t₂ ks os ks₁ os₁ → Puts (push_value c cmp 64) t₂ t₃ ks₁ os₁ ks₂ os₂
      → Puts (push_value c new 64) t₃ t₄ ks₂ os₂ ks₃ os₃ → Lined 85 0 t₄ t₅ ks₃ os₃ ks₄ os₄ → Puts (set_both c cmp base) t₅ t₆ ks₄ os₄ ks₅ os₅
      → Puts (gen_cmpxchg c ptr cmp new dest) s t₆ ks os ks₅ os₅
  unfolding gen_cmpxchg set_both kind_of operand_of
  cmpxchg_puts a p q r h b =
      asked_puts (λ x. push_value c ptr 64 >> (push_value c cmp 64 >> (push_value c new 64 >> (line Line.atomic_cas >> set_both c cmp x)))) a
      (then_puts p (then_puts q (then_puts r (then_puts (bare_puts Line.atomic_cas refl refl h) b))))

-- ---- `gen_extractvalue`
index_test : (i : ℕ) → not (nat_le i 1) ≡ nat_lt 1 i
index_test i = at (nat_le i 1) refl
  where
    at : (b : Bool) → nat_le i 1 ≡ b → not b ≡ nat_lt 1 i
    at true e = sym (le-ltb 1 i (leb-true i 1 e))
    at false e = sym (lt-ltb 1 i (leb-false i 1 e))

module _ (c : FnCtx) (agg : Value) (index : ℕ) (dest : Option ℕ) {base own : ℕ} {s t₁ t₂ t₃ t₄ : Reached} {ks os ks₁ os₁ ks₂ os₂ : List ℕ} where
  pub extract_puts : Asked (ok_or 16 (agg_slot c agg)) s t₁ base → t₂ ≡ or_else (nat_le index 1) t₁ (made_refused t₁ 16) → own ≡ (base + index) % 2 ^ 64 → Lined 10 own t₂ t₃ ks os ks₁ os₁
      → Puts (store_dest c dest) t₃ t₄ ks₁ os₁ ks₂ os₂ → Puts (gen_extract_value c agg index dest) s t₄ ks os ks₂ os₂
  unfolding gen_extract_value
  extract_puts a h i l p =
      asked_puts (λ x. when (nat_lt 1 index) (refuse 16) >> (line (Line.get_local (x + index)) >> store_dest c dest)) a
      (then_puts (same_puts (λ n. ap (λ b. when b (refuse 16) n) (index_test index)) (need_puts (nat_le index 1) 16 (omega arith) t₁ ks os h)) (then_puts (sum_slot base index i l) p))

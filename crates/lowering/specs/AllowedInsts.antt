-- The lines of instructions are allowed.
use Rattle.std.specs.Prelude.{ℕ, ◌+◌, ◌<◌}
use Rattle.std.proofs.Math.Path.{◌≡◌}
use Rattle.std.proofs.Math.Option.{Option, none, some}
use mathlib.Core.List.{List, [], ◌∷◌, ◌++◌}
use Rattle.std.proofs.Common.{arith}
use borrow.Author.Tests.{ltb-false}
use Rattle.book.specs.Ast.{Ty, Value, TypedVal, BinOp, ConvOp, ICmpPred, StructType, Book}
use Rattle.book.specs.Result.{ok, bind, bind_ok}
use Rattle.book.specs.Limits.{Each, Maybe, ValueLimits, TypedLimits, IndexLimits}
use Rattle.layout.specs.Step.{Step, gep_step}
use Rattle.lowering.specs.Context.{FnCtx}
use Rattle.lowering.specs.Operand.{int_width}
use Rattle.lowering.specs.Arith.{emit_conv_op, gen_bin, gen_icmp, gen_widths, gen_conv, gen_select, gen_freeze}
use Rattle.lowering.specs.Memory.{gen_load, gen_store, push_count, gen_dynamic_alloca, fixed_place, place_of, gen_alloca, require_atomic_width, gen_atomic_load, gen_atomic_store, gen_cmpxchg, agg_slot, gen_extract_value}
use Rattle.lowering.specs.Gep.{VarTerm, Walk, start, var_term, took, first_step, walk_rest, walk, gen_var_term, gen_gep}
use Rattle.lowering.specs.Allows.{Allows, skip_allows, bind_allows, any_allows, then_allows, guard_allows, fresh_allows, each_allows, plain}
use Rattle.lowering.specs.Allowed.{count, Within, ok_some, trunc_allows, sext_allows, int_allows, add_allows, mul_allows, Fine, get_slot, set_slot, base_line, push_allows, typed_allows, slot_below, dest_allows}

module _ (names : List (List ℕ)) (b : Book) where
  conv_op_allows : (op : ConvOp) (fw tw : ℕ) → Allows names b (emit_conv_op op fw tw)
  unfolding emit_conv_op
  conv_op_allows ConvOp.trunc fw tw = trunc_allows names b tw
  conv_op_allows ConvOp.zext fw tw = skip_allows names b
  conv_op_allows ConvOp.sext fw tw = sext_allows names b fw tw
  conv_op_allows ConvOp.ptr_to_int fw tw = search (plain, trunc_allows)
  conv_op_allows ConvOp.int_to_ptr fw tw = skip_allows names b
  conv_op_allows ConvOp.bit_cast fw tw = skip_allows names b

-- the values of a walk over indices are those of the indices
module _ (m : ℕ) where
  abbrev Terms : List VarTerm → Type 0
  Terms ts = Each (λ t. ValueLimits m t.val) ts

  terms_append : (ts us : List VarTerm) → Terms ts → Terms us → Terms (ts ++ us)
  terms_append [] us p q = q
  terms_append (t ∷ ts) us p q = (p.0, terms_append ts us p.1 q)

  same_walk : {v w : Walk} → ok v ≡ ok w → v ≡ w
  same_walk h = cc

  took_terms : (s : Step) (idx : TypedVal) (v w : Walk) → ValueLimits m idx.val → Terms v.var_terms → took s idx v ≡ ok w → Terms w.var_terms
  unfolding took var_term
  took_terms (Step.const off next) idx v w k p h =
      let q = same_walk h in
      rw (← q) p
  took_terms (Step.var s next) idx v w k p h =
      let x = bind_ok (int_width idx.ty) (λ iw. ok (record { const_off = v.const_off; var_terms = v.var_terms ++ (var_term idx iw s ∷ []); cur_ty = next })) w h in
      let q = same_walk x.2 in
      rw (← q) (terms_append v.var_terms _ p (k, tt))

  module _ (structs : List StructType) where
    rest_terms : (is : List TypedVal) (v w : Walk) → Each (IndexLimits m) is → Terms v.var_terms → walk_rest structs is v ≡ ok w → Terms w.var_terms
    unfolding walk_rest
    rest_terms [] v w k p h =
        let q = same_walk h in
        rw (← q) p
    rest_terms (idx ∷ is) v w k p h =
        let x = bind_ok (gep_step structs v.cur_ty idx.val) (λ s. bind (took s idx v) (walk_rest structs is)) w h in
        let y = bind_ok (took x.0 idx v) (walk_rest structs is) w x.2 in
        rest_terms is y.0 w k.1 (took_terms x.0 idx v y.0 k.0.0.1 p y.1) y.2

    walk_terms : (ty : Ty) (is : List TypedVal) (w : Walk) → Each (IndexLimits m) is → walk structs ty is ≡ ok w → Terms w.var_terms
    unfolding walk start
    walk_terms ty [] w k h =
        let q = same_walk h in
        rw (← q) tt
    walk_terms ty (idx ∷ is) w k h =
        let x = bind_ok (first_step structs ty idx.val) (λ s. bind (took s idx (start ty)) (walk_rest structs is)) w h in
        let y = bind_ok (took x.0 idx (start ty)) (walk_rest structs is) w x.2 in
        rest_terms is y.0 w k.1 (took_terms x.0 idx (start ty) y.0 k.0.0.1 tt y.1) y.2

module _ (b : Book) (c : FnCtx) (w : Within c) where
  abbrev pub Value' : Value → Type 0
  Value' v = ValueLimits (count c) v

  -- ---- `gen_bin`, `gen_icmp`, `gen_conv`, `gen_select`, `freeze`
  pub bin_allows : (op : BinOp) (ty : Ty) (x y : Value) → Value' x → Value' y → Fine b c w (gen_bin c op ty x y)
  unfolding gen_bin
  bin_allows op ty x y h k = search (plain, push_allows, sext_allows, trunc_allows) depth 9

  pub icmp_allows : (p : ICmpPred) (ty : Ty) (x y : Value) → Value' x → Value' y → Fine b c w (gen_icmp c p ty x y)
  unfolding gen_icmp
  icmp_allows p ty x y h k = search (plain, push_allows, sext_allows) depth 9

  widths_allows : (op : ConvOp) (t : Ty) (v : Value) (u : Ty) → Value' v → Fine b c w (gen_widths c op t v u)
  unfolding gen_widths
  widths_allows op t v u h = search (plain, push_allows, conv_op_allows)

  pub conv_allows : (op : ConvOp) (t : Ty) (v : Value) (u : Ty) → Value' v → Fine b c w (gen_conv c op t v u)
  unfolding gen_conv
  conv_allows ConvOp.trunc t v u h = widths_allows ConvOp.trunc t v u h
  conv_allows ConvOp.zext t v u h = widths_allows ConvOp.zext t v u h
  conv_allows ConvOp.sext t v u h = widths_allows ConvOp.sext t v u h
  conv_allows ConvOp.ptr_to_int t v u h = widths_allows ConvOp.ptr_to_int t v u h
  conv_allows ConvOp.int_to_ptr t v u h = widths_allows ConvOp.int_to_ptr t v u h
  conv_allows ConvOp.bit_cast t v u h = typed_allows b c w t v h

  pub select_allows : (v : Value) (ty : Ty) (x y : Value) → Value' v → Value' x → Value' y → Fine b c w (gen_select c v ty x y)
  unfolding gen_select
  select_allows v ty x y h i k = any_allows _ _ _ _ (λ wd. fresh_allows _ _ _ (λ l. fresh_allows _ _ _ (λ m. search (plain, push_allows) depth 9)))

  pub freeze_allows : (ty : Ty) (v : Value) → Value' v → Fine b c w (gen_freeze c ty v)
  unfolding gen_freeze
  freeze_allows ty v h = search (plain, push_allows)

  -- ---- memory
  pub load_allows : (ty : Ty) (p : Value) → Value' p → Fine b c w (gen_load c ty p)
  unfolding gen_load
  load_allows ty p h = search (plain, push_allows) depth 9

  pub store_allows : (ty : Ty) (v p : Value) → Value' v → Value' p → Fine b c w (gen_store c ty v p)
  unfolding gen_store
  store_allows ty v p h k = search (plain, push_allows, typed_allows) depth 9

  count_allows : (n : Option TypedVal) → Maybe (TypedLimits (count c)) n → Fine b c w (push_count c n)
  unfolding push_count
  count_allows none h = int_allows _ b 1 64
  count_allows (some tv) h = push_allows b c w tv.val 64 h.1

  dynamic_allows : (ty : Ty) (n : Option TypedVal) (a : Option ℕ) → Maybe (TypedLimits (count c)) n → Fine b c w (gen_dynamic_alloca c ty n a)
  unfolding gen_dynamic_alloca
  dynamic_allows ty n a h = search (plain, int_allows, add_allows, mul_allows, count_allows) depth 16

  fixed_allows : (off : ℕ) → Fine b c w (fixed_place c off)
  unfolding fixed_place
  fixed_allows off = search (plain, base_line, int_allows, add_allows)

  place_allows : (off : Option ℕ) (ty : Ty) (n : Option TypedVal) (a : Option ℕ) → Maybe (TypedLimits (count c)) n → Fine b c w (place_of c off ty n a)
  unfolding place_of
  place_allows (some off) ty n a h = fixed_allows off
  place_allows none ty n a h = dynamic_allows ty n a h

  pub alloca_allows : (d : Option ℕ) (ty : Ty) (n : Option TypedVal) (a : Option ℕ) → Maybe (TypedLimits (count c)) n → Fine b c w (gen_alloca c d ty n a)
  unfolding gen_alloca
  alloca_allows d ty n a h = search (plain, place_allows, dest_allows)

  -- ---- atomics, extractvalue
  pub width_allows : (ty : Ty) → Fine b c w (require_atomic_width c ty)
  unfolding require_atomic_width
  width_allows ty = search plain

  pub atomic_load_allows : (ty : Ty) (p : Value) → Value' p → Fine b c w (gen_atomic_load c ty p)
  unfolding gen_atomic_load
  atomic_load_allows ty p h = search (plain, width_allows, push_allows)

  pub atomic_store_allows : (ty : Ty) (v p : Value) → Value' v → Value' p → Fine b c w (gen_atomic_store c ty v p)
  unfolding gen_atomic_store
  atomic_store_allows ty v p h k = search (plain, width_allows, push_allows)

  pub cmpxchg_allows : (p x y : Value) (d : Option ℕ) → Value' p → Value' x → Value' y → Fine b c w (gen_cmpxchg c p x y d)
  unfolding gen_cmpxchg
  cmpxchg_allows p x y d h i k =
      bind_allows _ _ _ _ (λ s e.
      let below = slot_below b c w d s e in
      let one = set_slot b c w s (omega arith) in
      let two = set_slot b c w (s + 1) (omega arith) in
      search (plain, push_allows) depth 16)

  agg_below : (v : Value) (s : ℕ) → agg_slot c v ≡ some s → s < 65535
  unfolding agg_slot
  agg_below (Value.local x) s h = w.slots x s h
  agg_below (Value.global x) s h = absurd (let z : ◌≡◌ {A = ℕ} 0 1 = cc in omega arith)
  agg_below (Value.int v) s h = absurd (let z : ◌≡◌ {A = ℕ} 0 1 = cc in omega arith)
  agg_below (Value.zero z) s h = absurd (let z : ◌≡◌ {A = ℕ} 0 1 = cc in omega arith)
  agg_below Value.other s h = absurd (let z : ◌≡◌ {A = ℕ} 0 1 = cc in omega arith)

  pub extract_allows : (v : Value) (i : ℕ) (d : Option ℕ) → Fine b c w (gen_extract_value c v i d)
  unfolding gen_extract_value
  extract_allows v i d =
      bind_allows _ _ _ _ (λ s e. guard_allows _ _ _ _ _ (λ k.
      let below = agg_below v s (ok_some 16 _ s e) in
      let small = ltb-false 1 i k in
      then_allows _ _ _ _ (get_slot b c w (s + i) (omega arith)) (dest_allows b c w d)))

  -- ---- getelementptr
  term_allows : (t : VarTerm) → Value' t.val → Fine b c w (gen_var_term c t)
  unfolding gen_var_term
  term_allows t h = search (plain, push_allows, sext_allows, int_allows, add_allows, mul_allows) depth 9

  pub gep_allows : (ty : Ty) (p : Value) (is : List TypedVal) → Value' p → Each (IndexLimits (count c)) is → Fine b c w (gen_gep c ty p is)
  unfolding gen_gep
  gep_allows ty p is h k =
      bind_allows _ _ _ _ (λ v e.
      let terms = each_allows _ b (λ (t : VarTerm). Value' t.val) (gen_var_term c) term_allows v.var_terms (walk_terms (count c) c.codegen.structs ty is v k e) in
      search (plain, push_allows, int_allows, add_allows) depth 9)

-- What a function's lines depend on: of the names that count as defined, on the callees' alone. What the law of `OneByOne` is made of.
use Rattle.std.specs.Prelude.{ℕ, suc, ◌≡◌, Bool, true, false, ◌||◌, length}
use Rattle.std.proofs.Math.Path.{refl}
use Rattle.std.proofs.Common.{sym}
use Rattle.std.proofs.lemmas.Bool.{false≢true}
use Rattle.std.proofs.Math.Option.{Option, none, some}
use mathlib.Core.List.{List, [], ◌∷◌}
use Rattle.book.specs.Ast.{Ty, Value, TypedVal, BinOp, ConvOp, ICmpPred, Case, InstKind, Inst, Terminator, BasicBlock, Function}
use Rattle.book.specs.Decode.{member}
use Rattle.book.specs.Shape.{Shape, shape, all_insts}
use Rattle.book.specs.Result.{Result}
use Rattle.book.specs.Forbidden.{any, barred_callee, barred_shape, forbidden_inst, forbidden_block, forbidden_function, other_inst, other_term}
use Rattle.layout.specs.Frame.{frame_pass, no_frame}
use Rattle.lowering.specs.Gen.{◌>>=◌, each}
use Rattle.lowering.specs.Context.{Codegen, FnCtx, slot_of}
use Rattle.lowering.specs.Operand.{push_value, push_typed, store_dest, store_or_pop}
use Rattle.lowering.specs.Arith.{gen_bin, gen_icmp, gen_widths, gen_conv, gen_select, gen_freeze}
use Rattle.lowering.specs.Memory.{gen_load, gen_store, align_or, push_count, gen_dynamic_alloca, fixed_place, place_of, gen_alloca, require_atomic_width, gen_atomic_load, gen_atomic_store, gen_cmpxchg, agg_slot, gen_extract_value}
use Rattle.lowering.specs.Gep.{VarTerm, gen_var_term, gen_gep}
use Rattle.lowering.specs.Call.{push_arg, push_args, call_target, gen_plain_call, gen_syscall, gen_memcmp_call, call_named, gen_call}
use Rattle.lowering.specs.Inst.{gen_kind, gen_inst}
use Rattle.lowering.specs.Edge.{Copy, copy_of, copy_step, copies, push_copy, set_copy, emit_edge_copies, edge}
use Rattle.lowering.specs.Term.{emit_frame_leave, ret_value, gen_ret, gen_cond_br, gen_br, case_tests, case_edges, gen_switch, gen_term}
use Rattle.lowering.specs.Function.{gen_block, prologue, gen_lines, slots_of, context_of, total_slots, gen_function}

-- what the functions share, and a function's context, with other names defined
abbrev pub defining : List ℕ → Codegen → Codegen
defining d g = record { names = g.names; structs = g.structs; defined = d }

abbrev pub within : List ℕ → FnCtx → FnCtx
within d c =
    record {
      codegen = defining d c.codegen;
      params = c.params;
      slots = c.slots;
      blocks = c.blocks;
      alloca_offsets = c.alloca_offsets;
      frame_size = c.frame_size;
      has_frame = c.has_frame;
      bp_slot = c.bp_slot;
    }

pub neither : (a b : Bool) → (a || b) ≡ false → (a ≡ false) × (b ≡ false)
neither false b h = (refl, h)
neither true b h = absurd (false≢true (sym h))

module _ (c : FnCtx) (d : List ℕ) where
  -- ---- operands
  push_alike : (v : Value) (w : ℕ) → push_value c v w ≡ push_value (within d c) v w
  unfolding push_value
  push_alike (Value.local x) w = refl
  push_alike (Value.int v) w = refl
  push_alike (Value.zero z) w = refl
  push_alike (Value.global x) w = refl
  push_alike Value.other w = refl

  typed_alike : (ty : Ty) (v : Value) → push_typed c ty v ≡ push_typed (within d c) ty v
  unfolding push_typed
  typed_alike ty v = simp push_alike

  dest_alike : (x : Option ℕ) → store_dest c x ≡ store_dest (within d c) x
  unfolding store_dest slot_of
  dest_alike x = refl

  pop_alike : (x : Option ℕ) → store_or_pop c x ≡ store_or_pop (within d c) x
  unfolding store_or_pop
  pop_alike none = refl
  pop_alike (some x) = dest_alike (some x)

  -- ---- instructions
  bin_alike : (op : BinOp) (ty : Ty) (a b : Value) → gen_bin c op ty a b ≡ gen_bin (within d c) op ty a b
  unfolding gen_bin
  bin_alike op ty a b = simp push_alike

  icmp_alike : (p : ICmpPred) (ty : Ty) (a b : Value) → gen_icmp c p ty a b ≡ gen_icmp (within d c) p ty a b
  unfolding gen_icmp
  icmp_alike p ty a b = simp push_alike

  widths_alike : (op : ConvOp) (t : Ty) (v : Value) (u : Ty) → gen_widths c op t v u ≡ gen_widths (within d c) op t v u
  unfolding gen_widths
  widths_alike op t v u = simp push_alike

  conv_alike : (op : ConvOp) (t : Ty) (v : Value) (u : Ty) → gen_conv c op t v u ≡ gen_conv (within d c) op t v u
  unfolding gen_conv
  conv_alike ConvOp.trunc t v u = widths_alike ConvOp.trunc t v u
  conv_alike ConvOp.zext t v u = widths_alike ConvOp.zext t v u
  conv_alike ConvOp.sext t v u = widths_alike ConvOp.sext t v u
  conv_alike ConvOp.ptr_to_int t v u = widths_alike ConvOp.ptr_to_int t v u
  conv_alike ConvOp.int_to_ptr t v u = widths_alike ConvOp.int_to_ptr t v u
  conv_alike ConvOp.bit_cast t v u = typed_alike t v

  select_alike : (v : Value) (ty : Ty) (a b : Value) → gen_select c v ty a b ≡ gen_select (within d c) v ty a b
  unfolding gen_select
  select_alike v ty a b = simp push_alike

  freeze_alike : (ty : Ty) (v : Value) → gen_freeze c ty v ≡ gen_freeze (within d c) ty v
  unfolding gen_freeze
  freeze_alike ty v = simp push_alike

  load_alike : (ty : Ty) (p : Value) → gen_load c ty p ≡ gen_load (within d c) ty p
  unfolding gen_load
  load_alike ty p = simp push_alike

  store_alike : (ty : Ty) (v p : Value) → gen_store c ty v p ≡ gen_store (within d c) ty v p
  unfolding gen_store
  store_alike ty v p = simp (push_alike, typed_alike)

  align_alike : (a : Option ℕ) (ty : Ty) → align_or c a ty ≡ align_or (within d c) a ty
  unfolding align_or
  align_alike none ty = refl
  align_alike (some a) ty = refl

  count_alike : (n : Option TypedVal) → push_count c n ≡ push_count (within d c) n
  unfolding push_count
  count_alike none = refl
  count_alike (some tv) = push_alike tv.val 64

  dynamic_alike : (ty : Ty) (n : Option TypedVal) (a : Option ℕ) → gen_dynamic_alloca c ty n a ≡ gen_dynamic_alloca (within d c) ty n a
  unfolding gen_dynamic_alloca
  dynamic_alike ty n a = simp (align_alike, count_alike)

  place_alike : (off : Option ℕ) (ty : Ty) (n : Option TypedVal) (a : Option ℕ) → place_of c off ty n a ≡ place_of (within d c) off ty n a
  unfolding place_of fixed_place
  place_alike (some off) ty n a = refl
  place_alike none ty n a = dynamic_alike ty n a

  alloca_alike : (x : Option ℕ) (ty : Ty) (n : Option TypedVal) (a : Option ℕ) → gen_alloca c x ty n a ≡ gen_alloca (within d c) x ty n a
  unfolding gen_alloca
  alloca_alike x ty n a = simp (place_alike, dest_alike)

  width_alike : (ty : Ty) → require_atomic_width c ty ≡ require_atomic_width (within d c) ty
  unfolding require_atomic_width
  width_alike ty = refl

  atomic_load_alike : (ty : Ty) (p : Value) → gen_atomic_load c ty p ≡ gen_atomic_load (within d c) ty p
  unfolding gen_atomic_load
  atomic_load_alike ty p = simp (width_alike, push_alike)

  atomic_store_alike : (ty : Ty) (v p : Value) → gen_atomic_store c ty v p ≡ gen_atomic_store (within d c) ty v p
  unfolding gen_atomic_store
  atomic_store_alike ty v p = simp (width_alike, push_alike)

  cmpxchg_alike : (p x y : Value) (z : Option ℕ) → gen_cmpxchg c p x y z ≡ gen_cmpxchg (within d c) p x y z
  unfolding gen_cmpxchg slot_of
  cmpxchg_alike p x y z = simp push_alike

  agg_alike : (v : Value) → agg_slot c v ≡ agg_slot (within d c) v
  unfolding agg_slot
  agg_alike (Value.local x) = refl
  agg_alike (Value.int v) = refl
  agg_alike (Value.zero z) = refl
  agg_alike (Value.global x) = refl
  agg_alike Value.other = refl

  extract_alike : (v : Value) (i : ℕ) (x : Option ℕ) → gen_extract_value c v i x ≡ gen_extract_value (within d c) v i x
  unfolding gen_extract_value
  extract_alike v i x = simp (agg_alike, dest_alike)

  term_alike : (t : VarTerm) → gen_var_term c t ≡ gen_var_term (within d c) t
  unfolding gen_var_term
  term_alike t = simp push_alike

  terms_alike : (ts : List VarTerm) → each (gen_var_term c) ts ≡ each (gen_var_term (within d c)) ts
  terms_alike ts i = each (λ t. term_alike t i) ts

  gep_alike : (ty : Ty) (p : Value) (is : List TypedVal) → gen_gep c ty p is ≡ gen_gep (within d c) ty p is
  unfolding gen_gep
  gep_alike ty p is = simp (push_alike, terms_alike)

  -- ---- calls
  args_alike : (as' : List TypedVal) → push_args c as' ≡ push_args (within d c) as'
  unfolding push_args push_arg
  args_alike as' i = each (λ a. typed_alike a.ty a.val i) as'

  syscall_alike : (x : Option ℕ) (y : ℕ) (t : Ty) (as' : List TypedVal) → gen_syscall c x y t as' ≡ gen_syscall (within d c) x y t as'
  unfolding gen_syscall
  syscall_alike x y t as' = simp (args_alike, pop_alike)

  memcmp_alike : (x : Option ℕ) (as' : List TypedVal) → gen_memcmp_call c x as' ≡ gen_memcmp_call (within d c) x as'
  unfolding gen_memcmp_call
  memcmp_alike x as' = simp (args_alike, pop_alike)

  -- ---- edges and terminators
  copy_alike : (pred : ℕ) (x : Option ℕ) (s : Shape) (rest : Result (List Copy)) → copy_step c pred x s rest ≡ copy_step (within d c) pred x s rest
  unfolding copy_step copy_of slot_of
  copy_alike pred x (Shape.phi ty is) rest = refl
  copy_alike pred x (Shape.alloca ty n) rest = refl
  copy_alike pred x (Shape.call v) rest = refl
  copy_alike pred x Shape.cmpxchg rest = refl
  copy_alike pred x Shape.plain rest = refl

  copies_alike : (pred : ℕ) (is : List Inst) → copies c pred is ≡ copies (within d c) pred is
  unfolding copies
  copies_alike pred [] = refl
  copies_alike pred (i ∷ is) = rw (copies_alike pred is) (copy_alike pred i.dest (shape i.kind) (copies (within d c) pred is))

  pushes_alike : (cps : List Copy) → each (push_copy c) cps ≡ each (push_copy (within d c)) cps
  unfolding push_copy
  pushes_alike cps i = each (λ cp. typed_alike cp.ty cp.val i) cps

  sets_alike : (cps : List Copy) → each (set_copy c) cps ≡ each (set_copy (within d c)) cps
  unfolding set_copy
  sets_alike cps = refl

  edge_alike : (p s : ℕ) → edge c p s ≡ edge (within d c) p s
  unfolding edge emit_edge_copies
  edge_alike p s = simp (copies_alike, pushes_alike, sets_alike)

  ret_value_alike : (v : Option TypedVal) → ret_value c v ≡ ret_value (within d c) v
  unfolding ret_value
  ret_value_alike none = refl
  ret_value_alike (some tv) = typed_alike tv.ty tv.val

  ret_alike : (v : Option TypedVal) → gen_ret c v ≡ gen_ret (within d c) v
  unfolding gen_ret emit_frame_leave
  ret_alike v = simp ret_value_alike

  br_alike : (p : ℕ) (v : Option Value) (t : ℕ) (f : Option ℕ) → gen_br c p v t f ≡ gen_br (within d c) p v t f
  unfolding gen_br gen_cond_br
  br_alike p none t f = edge_alike p t
  br_alike p (some v) t f = simp (push_alike, edge_alike)

  tests_alike : (w : ℕ) (v : Value) (l : ℕ) (ks : List Case) → case_tests c w v l ks ≡ case_tests (within d c) w v l ks
  unfolding case_tests
  tests_alike w v l [] = refl
  tests_alike w v l (k ∷ ks) = rw (tests_alike w v (suc l) ks, push_alike v w)

  case_edges_alike : (p l : ℕ) (ks : List Case) → case_edges c p l ks ≡ case_edges (within d c) p l ks
  unfolding case_edges
  case_edges_alike p l [] = refl
  case_edges_alike p l (k ∷ ks) = rw (case_edges_alike p (suc l) ks, edge_alike p k.label)

  switch_alike : (p : ℕ) (ty : Ty) (v : Value) (x : ℕ) (ks : List Case) → gen_switch c p ty v x ks ≡ gen_switch (within d c) p ty v x ks
  unfolding gen_switch
  switch_alike p ty v x ks = simp (tests_alike, edge_alike, case_edges_alike)

  terminator_alike : (p : ℕ) (t : Terminator) → gen_term c p t ≡ gen_term (within d c) p t
  unfolding gen_term
  terminator_alike p (Terminator.ret v) = ret_alike v
  terminator_alike p (Terminator.br v t f) = br_alike p v t f
  terminator_alike p (Terminator.switch ty v x ks) = switch_alike p ty v x ks
  terminator_alike p Terminator.unreachable = refl

  -- ---- where every name that may be called is defined in both or in neither
  module _ (barred : ℕ → Bool) (same : (x : ℕ) → barred x ≡ false → member x c.codegen.defined ≡ member x d) where
    target_alike : (v : Value) (n : ℕ) → barred_callee barred v ≡ false → call_target c v n ≡ call_target (within d c) v n
    unfolding call_target barred_callee
    target_alike (Value.global x) n h = rw (same x h)
    target_alike (Value.local x) n h = simp push_alike
    target_alike (Value.int v) n h = refl
    target_alike (Value.zero z) n h = refl
    target_alike Value.other n h = refl

    plain_call_alike : (x : Option ℕ) (v : Value) (as' : List TypedVal) → barred_callee barred v ≡ false → gen_plain_call c x v as' ≡ gen_plain_call (within d c) x v as'
    unfolding gen_plain_call
    plain_call_alike x v as' h = simp (args_alike, target_alike v (length as') h, pop_alike)

    call_alike : (x : Option ℕ) (t : Ty) (v : Value) (as' : List TypedVal) → barred_callee barred v ≡ false → gen_call c x t v as' ≡ gen_call (within d c) x t v as'
    unfolding gen_call call_named
    call_alike x t (Value.global y) as' h = simp (syscall_alike, memcmp_alike, plain_call_alike x (Value.global y) as' h)
    call_alike x t (Value.local y) as' h = plain_call_alike x (Value.local y) as' h
    call_alike x t (Value.int v) as' h = plain_call_alike x (Value.int v) as' h
    call_alike x t (Value.zero z) as' h = plain_call_alike x (Value.zero z) as' h
    call_alike x t Value.other as' h = plain_call_alike x Value.other as' h

    kind_alike : (x : Option ℕ) (i : InstKind) → barred_shape barred (shape i) ≡ false → gen_kind c x i ≡ gen_kind (within d c) x i
    unfolding gen_kind shape
    kind_alike x (InstKind.bin op ty a b) h = simp (bin_alike, dest_alike)
    kind_alike x (InstKind.conv op t v u) h = simp (conv_alike, dest_alike)
    kind_alike x (InstKind.icmp p ty a b) h = simp (icmp_alike, dest_alike)
    kind_alike x (InstKind.select v ty a b) h = simp (select_alike, dest_alike)
    kind_alike x (InstKind.load ty p a) h = simp (load_alike, dest_alike)
    kind_alike x (InstKind.store ty v p a) h = store_alike ty v p
    kind_alike x (InstKind.alloca ty n a) h = alloca_alike x ty n a
    kind_alike x (InstKind.get_element_ptr ty p is) h = simp (gep_alike, dest_alike)
    kind_alike x (InstKind.call t v as') h = call_alike x t v as' h
    kind_alike x (InstKind.phi ty is) h = refl
    kind_alike x (InstKind.atomic_load ty p) h = simp (atomic_load_alike, dest_alike)
    kind_alike x (InstKind.atomic_store ty v p) h = atomic_store_alike ty v p
    kind_alike x (InstKind.cmpxchg ty p v w) h = simp (width_alike, cmpxchg_alike)
    kind_alike x (InstKind.extract_value v i) h = extract_alike v i x
    kind_alike x (InstKind.freeze ty v) h = simp (freeze_alike, dest_alike)
    kind_alike x InstKind.fence h = refl

    insts_alike : (is : List Inst) → any (forbidden_inst barred) is ≡ false → each (gen_inst c) is ≡ each (gen_inst (within d c)) is
    unfolding any each gen_inst
    insts_alike [] h = refl
    insts_alike (i ∷ is) h =
        let p = neither _ _ h in
        let q = neither (other_inst i) _ p.0 in
        rw (kind_alike i.dest i.kind q.1, insts_alike is p.1)

    blocks_alike : (bs : List BasicBlock) → any (forbidden_block barred) bs ≡ false → each (gen_block c) bs ≡ each (gen_block (within d c)) bs
    unfolding any each gen_block
    blocks_alike [] h = refl
    blocks_alike (b ∷ bs) h =
        let p = neither _ _ h in
        let q = neither _ (other_term b.term) p.0 in
        rw (insts_alike b.insts q.0, terminator_alike b.label b.term, blocks_alike bs p.1)

    lines_alike : (f : Function) (n : ℕ) → forbidden_function barred f ≡ false → gen_lines c f n ≡ gen_lines (within d c) f n
    unfolding gen_lines prologue
    lines_alike f n h = rw (blocks_alike f.blocks h)

-- a function has the same lines, the same next counter or the same refusal wherever the names that it may call are defined alike
pub function_alike : (g : Codegen) (d : List ℕ) (barred : ℕ → Bool) → ((x : ℕ) → barred x ≡ false → member x g.defined ≡ member x d)
    → (f : Function) → forbidden_function barred f ≡ false → gen_function g f ≡ gen_function (defining d g) f
unfolding gen_function context_of total_slots slots_of
function_alike g d barred same f h i = do
  fr ← frame_pass g.structs (all_insts f.blocks) no_frame
  lines_alike (context_of g f fr) d barred same f (total_slots g f fr) h i

-- What takes no label: operands, every instruction but select, edges.
use Rattle.std.specs.Prelude.{ℕ, suc}
use Rattle.std.proofs.Math.Option.{Option, none, some}
use mathlib.Core.List.{List, [], ◌∷◌}
use Rattle.book.specs.Ast.{Ty, Value, TypedVal, BinOp, ConvOp, ICmpPred, Case}
use Rattle.lowering.specs.Takes.{Takes, skip_takes, refuse_takes, quiet}
use Rattle.lowering.specs.Context.{FnCtx}
use Rattle.lowering.specs.Operand.{emit_trunc_to, sext_bit, sext_more, emit_sext, push_int, add64, mul64, push_value, push_typed, store_dest, store_or_pop}
use Rattle.lowering.specs.Memory.{gen_load, gen_store, push_count, gen_dynamic_alloca, fixed_place, place_of, gen_alloca, require_atomic_width, gen_atomic_load, gen_atomic_store, gen_cmpxchg, gen_extract_value}
use Rattle.lowering.specs.Gep.{VarTerm, gen_var_term, gen_gep}
use Rattle.lowering.specs.Call.{push_arg, push_args, call_target, gen_plain_call, gen_syscall, gen_memcmp_call, call_named, gen_call}
use Rattle.lowering.specs.Edge.{push_copy, set_copy, emit_edge_copies, edge}
use Rattle.lowering.specs.Arith.{emit_conv_op, gen_bin, gen_icmp, gen_widths, gen_conv, gen_freeze}
use Rattle.lowering.specs.Term.{emit_frame_leave, ret_value, gen_ret, case_tests, case_edges}

-- ---- operands
trunc_takes : (w : ℕ) → Takes (emit_trunc_to w) 0
unfolding emit_trunc_to
trunc_takes w = search quiet

sext_bit_takes : (to : ℕ) → Takes (sext_bit to) 0
unfolding sext_bit
sext_bit_takes to = search quiet

sext_more_takes : (from to : ℕ) → Takes (sext_more from to) 0
unfolding sext_more
sext_more_takes from to = search (quiet, trunc_takes)

sext_takes : (from to : ℕ) → Takes (emit_sext from to) 0
unfolding emit_sext
sext_takes from to = search (quiet, sext_bit_takes, sext_more_takes)

push_int_takes : (v w : ℕ) → Takes (push_int v w) 0
unfolding push_int
push_int_takes v w = search quiet

pub add_takes : Takes add64 0
unfolding add64
add_takes = search quiet

mul_takes : Takes mul64 0
unfolding mul64
mul_takes = search quiet

module _ (c : FnCtx) where
  pub push_takes : (v : Value) (w : ℕ) → Takes (push_value c v w) 0
  unfolding push_value
  push_takes (Value.local x) w = search quiet
  push_takes (Value.int v) w = push_int_takes v w
  push_takes (Value.zero z) w = search quiet
  push_takes (Value.global x) w = search quiet
  push_takes Value.other w = search quiet

  typed_takes : (ty : Ty) (v : Value) → Takes (push_typed c ty v) 0
  unfolding push_typed
  typed_takes ty v = search (quiet, push_takes)

  pub dest_takes : (d : Option ℕ) → Takes (store_dest c d) 0
  unfolding store_dest
  dest_takes d = search quiet

  pop_takes : (d : Option ℕ) → Takes (store_or_pop c d) 0
  unfolding store_or_pop
  pop_takes none = search quiet
  pop_takes (some x) = dest_takes (some x)

  -- ---- instructions
  pub bin_takes : (op : BinOp) (ty : Ty) (a b : Value) → Takes (gen_bin c op ty a b) 0
  unfolding gen_bin
  bin_takes op ty a b = search (quiet, push_takes, sext_takes, trunc_takes) depth 9

  pub icmp_takes : (p : ICmpPred) (ty : Ty) (a b : Value) → Takes (gen_icmp c p ty a b) 0
  unfolding gen_icmp
  icmp_takes p ty a b = search (quiet, push_takes, sext_takes) depth 9

  conv_op_takes : (op : ConvOp) (fw tw : ℕ) → Takes (emit_conv_op op fw tw) 0
  unfolding emit_conv_op
  conv_op_takes ConvOp.trunc fw tw = trunc_takes tw
  conv_op_takes ConvOp.zext fw tw = skip_takes
  conv_op_takes ConvOp.sext fw tw = sext_takes fw tw
  conv_op_takes ConvOp.ptr_to_int fw tw = search (quiet, trunc_takes)
  conv_op_takes ConvOp.int_to_ptr fw tw = skip_takes
  conv_op_takes ConvOp.bit_cast fw tw = skip_takes

  widths_takes : (op : ConvOp) (t : Ty) (v : Value) (u : Ty) → Takes (gen_widths c op t v u) 0
  unfolding gen_widths
  widths_takes op t v u = search (quiet, push_takes, conv_op_takes)

  pub conv_takes : (op : ConvOp) (t : Ty) (v : Value) (u : Ty) → Takes (gen_conv c op t v u) 0
  unfolding gen_conv
  conv_takes ConvOp.trunc t v u = widths_takes ConvOp.trunc t v u
  conv_takes ConvOp.zext t v u = widths_takes ConvOp.zext t v u
  conv_takes ConvOp.sext t v u = widths_takes ConvOp.sext t v u
  conv_takes ConvOp.ptr_to_int t v u = widths_takes ConvOp.ptr_to_int t v u
  conv_takes ConvOp.int_to_ptr t v u = widths_takes ConvOp.int_to_ptr t v u
  conv_takes ConvOp.bit_cast t v u = typed_takes t v

  pub freeze_takes : (ty : Ty) (v : Value) → Takes (gen_freeze c ty v) 0
  unfolding gen_freeze
  freeze_takes ty v = search (quiet, push_takes)

  pub load_takes : (ty : Ty) (p : Value) → Takes (gen_load c ty p) 0
  unfolding gen_load
  load_takes ty p = search (quiet, push_takes) depth 9

  pub store_takes : (ty : Ty) (v p : Value) → Takes (gen_store c ty v p) 0
  unfolding gen_store
  store_takes ty v p = search (quiet, push_takes, typed_takes) depth 9

  count_takes : (n : Option TypedVal) → Takes (push_count c n) 0
  unfolding push_count
  count_takes none = push_int_takes 1 64
  count_takes (some tv) = push_takes tv.val 64

  dynamic_takes : (ty : Ty) (n : Option TypedVal) (a : Option ℕ) → Takes (gen_dynamic_alloca c ty n a) 0
  unfolding gen_dynamic_alloca
  dynamic_takes ty n a = search (quiet, push_int_takes, add_takes, mul_takes, count_takes) depth 16

  fixed_takes : (off : ℕ) → Takes (fixed_place c off) 0
  unfolding fixed_place
  fixed_takes off = search (quiet, push_int_takes, add_takes)

  place_takes : (off : Option ℕ) (ty : Ty) (n : Option TypedVal) (a : Option ℕ) → Takes (place_of c off ty n a) 0
  unfolding place_of
  place_takes (some off) ty n a = fixed_takes off
  place_takes none ty n a = dynamic_takes ty n a

  pub alloca_takes : (d : Option ℕ) (ty : Ty) (n : Option TypedVal) (a : Option ℕ) → Takes (gen_alloca c d ty n a) 0
  unfolding gen_alloca
  alloca_takes d ty n a = search (quiet, place_takes, dest_takes)

  pub width_takes : (ty : Ty) → Takes (require_atomic_width c ty) 0
  unfolding require_atomic_width
  width_takes ty = search quiet

  pub atomic_load_takes : (ty : Ty) (p : Value) → Takes (gen_atomic_load c ty p) 0
  unfolding gen_atomic_load
  atomic_load_takes ty p = search (quiet, width_takes, push_takes)

  pub atomic_store_takes : (ty : Ty) (v p : Value) → Takes (gen_atomic_store c ty v p) 0
  unfolding gen_atomic_store
  atomic_store_takes ty v p = search (quiet, width_takes, push_takes)

  pub cmpxchg_takes : (p x y : Value) (d : Option ℕ) → Takes (gen_cmpxchg c p x y d) 0
  unfolding gen_cmpxchg
  cmpxchg_takes p x y d = search (quiet, push_takes) depth 16

  pub extract_takes : (v : Value) (i : ℕ) (d : Option ℕ) → Takes (gen_extract_value c v i d) 0
  unfolding gen_extract_value
  extract_takes v i d = search (quiet, dest_takes)

  term_takes : (t : VarTerm) → Takes (gen_var_term c t) 0
  unfolding gen_var_term
  term_takes t = search (quiet, push_takes, sext_takes, push_int_takes, add_takes, mul_takes) depth 9

  pub gep_takes : (ty : Ty) (p : Value) (is : List TypedVal) → Takes (gen_gep c ty p is) 0
  unfolding gen_gep
  gep_takes ty p is = search (quiet, push_takes, term_takes, push_int_takes, add_takes) depth 9

  args_takes : (as' : List TypedVal) → Takes (push_args c as') 0
  unfolding push_args push_arg
  args_takes as' = search (quiet, typed_takes)

  target_takes : (v : Value) (n : ℕ) → Takes (call_target c v n) 0
  unfolding call_target
  target_takes (Value.global x) n = search quiet
  target_takes (Value.local x) n = search (quiet, push_takes)
  target_takes (Value.int v) n = refuse_takes 15 0
  target_takes (Value.zero z) n = refuse_takes 15 0
  target_takes Value.other n = refuse_takes 15 0

  plain_call_takes : (d : Option ℕ) (v : Value) (as' : List TypedVal) → Takes (gen_plain_call c d v as') 0
  unfolding gen_plain_call
  plain_call_takes d v as' = search (quiet, args_takes, target_takes, pop_takes)

  syscall_takes : (d : Option ℕ) (x : ℕ) (t : Ty) (as' : List TypedVal) → Takes (gen_syscall c d x t as') 0
  unfolding gen_syscall
  syscall_takes d x t as' = search (quiet, args_takes, pop_takes)

  memcmp_takes : (d : Option ℕ) (as' : List TypedVal) → Takes (gen_memcmp_call c d as') 0
  unfolding gen_memcmp_call
  memcmp_takes d as' = search (quiet, args_takes, pop_takes)

  named_takes : (s : List ℕ) (d : Option ℕ) (x : ℕ) (t : Ty) (as' : List TypedVal) → Takes (call_named c s d x t as') 0
  unfolding call_named
  named_takes s d x t as' = search (quiet, syscall_takes, memcmp_takes, plain_call_takes)

  pub call_takes : (d : Option ℕ) (t : Ty) (v : Value) (as' : List TypedVal) → Takes (gen_call c d t v as') 0
  unfolding gen_call
  call_takes d t (Value.global x) as' = named_takes _ d x t as'
  call_takes d t (Value.local x) as' = plain_call_takes d (Value.local x) as'
  call_takes d t (Value.int v) as' = plain_call_takes d (Value.int v) as'
  call_takes d t (Value.zero z) as' = plain_call_takes d (Value.zero z) as'
  call_takes d t Value.other as' = plain_call_takes d Value.other as'

  -- ---- edges
  pub edge_takes : (p s : ℕ) → Takes (edge c p s) 0
  unfolding edge emit_edge_copies push_copy set_copy
  edge_takes p s = search (quiet, typed_takes) depth 9

  leave_takes : Takes (emit_frame_leave c) 0
  unfolding emit_frame_leave
  leave_takes = search quiet

  ret_value_takes : (v : Option TypedVal) → Takes (ret_value c v) 0
  unfolding ret_value
  ret_value_takes none = search quiet
  ret_value_takes (some tv) = typed_takes tv.ty tv.val

  pub ret_takes : (v : Option TypedVal) → Takes (gen_ret c v) 0
  unfolding gen_ret
  ret_takes v = search (quiet, ret_value_takes, leave_takes)

  pub tests_takes : (w : ℕ) (v : Value) (l : ℕ) (ks : List Case) → Takes (case_tests c w v l ks) 0
  unfolding case_tests
  tests_takes w v l [] = skip_takes
  tests_takes w v l (k ∷ ks) = step (tests_takes w v (suc l) ks)
    where
      step : Takes (case_tests c w v (suc l) ks) 0 → Takes (case_tests c w v l (k ∷ ks)) 0
      step rest = search (quiet, push_takes, push_int_takes) depth 9

  pub case_edges_takes : (p l : ℕ) (ks : List Case) → Takes (case_edges c p l ks) 0
  unfolding case_edges
  case_edges_takes p l [] = skip_takes
  case_edges_takes p l (k ∷ ks) = step (case_edges_takes p (suc l) ks)
    where
      step : Takes (case_edges c p (suc l) ks) 0 → Takes (case_edges c p l (k ∷ ks)) 0
      step rest = search (quiet, edge_takes)

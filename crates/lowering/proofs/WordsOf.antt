-- The numbers of operands, instructions, edges and terminators fit a word.
use Prim.Native.Nat.{ℕ, suc, ◌+◌, ◌<◌, ◌≤◌, ◌^◌, min}
use Rattle.std.proofs.Math.Path.{◌≡◌}
use Rattle.std.specs.Prelude.{refl, Bool, cond, eqb}
use Rattle.std.proofs.Math.Bool.{true, false}
use Rattle.std.proofs.Math.Option.{Option, none, some}
use mathlib.Core.List.{List, [], ◌∷◌}
use Rattle.std.proofs.Math.ListN.{length}
use Rattle.std.proofs.Math.Pow.{pow_mono}
use native.Mathlib.Omega.{arith}
use Rattle.numbers.specs.Width.{mask_to_width, mask_lt_word}
use Rattle.book.specs.Ast.{Ty, Value, TypedVal, BinOp, ConvOp, ICmpPred, Case, InstKind, Inst, Terminator, BasicBlock}
use Rattle.book.specs.Result.{ok, err_no_ok}
use Rattle.book.specs.Limits.{Each}
use Rattle.book.specs.Map.{lookup}
use Rattle.book.specs.Rule.{pick}
use Rattle.assembly.specs.Line.{Line, Work, Hint}
use Rattle.lowering.specs.Context.{FnCtx}
use Rattle.lowering.specs.Operand.{trunc_lines, emit_trunc_to, ones, sext_bit, sx32_to, sx_line, sext_more, emit_sext, push_int, local_line, add64, mul64, push_value, push_typed, store_dest, store_or_pop, work_of}
use Rattle.lowering.specs.Arith.{emit_conv_op, gen_bin, gen_icmp, gen_widths, gen_conv, gen_select, gen_freeze}
use Rattle.lowering.specs.Memory.{gen_load, gen_store, push_count, gen_dynamic_alloca, fixed_place, place_of, gen_alloca, require_atomic_width, gen_atomic_load, gen_atomic_store, gen_cmpxchg, gen_extract_value}
use Rattle.lowering.specs.Gep.{VarTerm, gen_var_term, gen_gep}
use Rattle.lowering.specs.Call.{push_arg, push_args, call_target, gen_plain_call, gen_syscall, gen_memcmp_call, call_named, gen_call}
use Rattle.lowering.specs.Edge.{push_copy, set_copy, emit_edge_copies, edge}
use Rattle.lowering.specs.Term.{emit_frame_leave, ret_value, gen_ret, gen_cond_br, gen_br, case_tests, case_edges, gen_switch, gen_term}
use Rattle.lowering.specs.Inst.{gen_kind, gen_inst}
use Rattle.lowering.specs.Function.{gen_block, prologue}
use Rattle.lowering.specs.Allowed.{ok_some}
use Rattle.lowering.specs.Words.{number_of, label_end, Word, Words, lines_words, line_words, skip_words, refuse_words, bind_words, any_words, then_words, fresh_words, reserve_words, number_words, label_words, jump_words, worded}

-- ---- operands
module _ (k : ℕ) where
  words_cond : (t : Bool) (ls ms : List Line) → Each (Word k) ls → Each (Word k) ms → Each (Word k) (cond t ls ms)
  words_cond true ls ms p q = p
  words_cond false ls ms p q = q

  trunc_lines_lem : (w : ℕ) → Each (Word k) (trunc_lines w)
  unfolding trunc_lines
  trunc_lines_lem w =
      let plain : (l : Line) → number_of l < 2 ^ 64 → label_end l ≤ 0 → Word k l = λ l a b. record { small = a; below = omega arith } in
      words_cond (eqb w 1) _ _ (plain _ (omega arith) (omega arith), (plain _ (omega arith) (omega arith), tt))
      (words_cond (eqb w 8) _ _ (plain _ (omega arith) (omega arith), tt)
      (words_cond (eqb w 16) _ _ (plain _ (omega arith) (omega arith), tt)
      (words_cond (eqb w 32) _ _ (plain _ (omega arith) (omega arith), tt) tt)))

  trunc_words : (w : ℕ) → Words k (emit_trunc_to w)
  unfolding emit_trunc_to
  trunc_words w = lines_words k (trunc_lines w) (trunc_lines_lem w)

  ones_small : (w : ℕ) → ones w < 2 ^ 64
  unfolding ones
  ones_small w =
      let q : min w 64 ≤ 64 = omega arith in
      let p = pow_mono q in
      omega (arith, p)

  sext_bit_words : (to : ℕ) → Words k (sext_bit to)
  unfolding sext_bit
  sext_bit_words to =
      let one = number_words k 1 (omega arith) in
      let all = number_words k (ones to) (ones_small to) in
      search worded

  sx32_bare : (w : Work) (l : Line) → sx32_to w ≡ some l → Word k l
  unfolding sx32_to
  sx32_bare Work.w32 l h = absurd (let z : ◌≡◌ {A = ℕ} 0 1 = cc in omega arith)
  sx32_bare Work.w64 l h = let q : Line.sx32 ≡ l = cc in rw (← q) (record { small = omega arith; below = omega arith })

  sx_bare : (from : ℕ) (w : Work) (l : Line) → sx_line from w ≡ some l → Word k l
  unfolding sx_line
  sx_bare from w l h = go (eqb from 8) (eqb from 16) (eqb from 32) h
    where
      go : (x y z : Bool) → pick x (some (Line.sx8 w)) (pick y (some (Line.sx16 w)) (pick z (sx32_to w) none)) ≡ some l → Word k l
      go true y z h = let q : Line.sx8 w ≡ l = cc in rw (← q) (record { small = omega arith; below = omega arith })
      go false true z h = let q : Line.sx16 w ≡ l = cc in rw (← q) (record { small = omega arith; below = omega arith })
      go false false true h = sx32_bare w l h
      go false false false h = absurd (let z : ◌≡◌ {A = ℕ} 0 1 = cc in omega arith)

  sext_more_words : (from to : ℕ) → Words k (sext_more from to)
  unfolding sext_more
  sext_more_words from to =
      bind_words k _ _ (λ l h.
      let own = line_words k l (sx_bare from (work_of to) l (ok_some 13 _ l h)) in
      search (worded, trunc_words))

  sext_words : (from to : ℕ) → Words k (emit_sext from to)
  unfolding emit_sext
  sext_words from to = search (worded, sext_bit_words, sext_more_words)

  int_words : (v w : ℕ) → Words k (push_int v w)
  unfolding push_int
  int_words v w = number_words k (mask_to_width v w) (mask_lt_word v w)

  add_words : Words k add64
  unfolding add64
  add_words = search worded

  mul_words : Words k mul64
  unfolding mul64
  mul_words = search worded

  conv_op_words : (op : ConvOp) (fw tw : ℕ) → Words k (emit_conv_op op fw tw)
  unfolding emit_conv_op
  conv_op_words ConvOp.trunc fw tw = trunc_words tw
  conv_op_words ConvOp.zext fw tw = skip_words k
  conv_op_words ConvOp.sext fw tw = sext_words fw tw
  conv_op_words ConvOp.ptr_to_int fw tw = search (worded, trunc_words)
  conv_op_words ConvOp.int_to_ptr fw tw = skip_words k
  conv_op_words ConvOp.bit_cast fw tw = skip_words k

-- an argument's number and the frame's size fit a word
pub record Numbers (c : FnCtx) : Type 0 where
  pub args : (x i : ℕ) → lookup x c.params ≡ some i → i < 2 ^ 64
  pub frame : c.frame_size < 2 ^ 64

module _ (c : FnCtx) (fit : Numbers c) (k : ℕ) where
  local_word : (arg slot : Option ℕ) (l : Line) → ((i : ℕ) → arg ≡ some i → i < 2 ^ 64) → local_line arg slot ≡ ok l → Word k l
  unfolding local_line
  local_word (some i) slot l f h = let q : Line.get_arg i ≡ l = cc in rw (← q) (record { small = f i refl; below = omega arith })
  local_word none (some s) l f h = let q : Line.get_local s ≡ l = cc in rw (← q) (record { small = omega arith; below = omega arith })
  local_word none none l f h = err_no_ok 10 l h

  push_words : (v : Value) (w : ℕ) → Words k (push_value c v w)
  unfolding push_value
  push_words (Value.local x) w = bind_words k _ _ (λ l h. line_words k l (local_word (lookup x c.params) (lookup x c.slots) l (λ i e. fit.args x i e) h))
  push_words (Value.int v) w = int_words k v w
  push_words (Value.zero z) w = number_words k 0 (omega arith)
  push_words (Value.global x) w = search worded
  push_words Value.other w = search worded

  typed_words : (ty : Ty) (v : Value) → Words k (push_typed c ty v)
  unfolding push_typed
  typed_words ty v = search (worded, push_words)

  dest_words : (d : Option ℕ) → Words k (store_dest c d)
  unfolding store_dest
  dest_words d = search worded

  pop_words : (d : Option ℕ) → Words k (store_or_pop c d)
  unfolding store_or_pop
  pop_words none = search worded
  pop_words (some x) = dest_words (some x)

  -- ---- instructions
  bin_words : (op : BinOp) (ty : Ty) (a b : Value) → Words k (gen_bin c op ty a b)
  unfolding gen_bin
  bin_words op ty a b = search (worded, push_words, sext_words, trunc_words) depth 9

  icmp_words : (p : ICmpPred) (ty : Ty) (a b : Value) → Words k (gen_icmp c p ty a b)
  unfolding gen_icmp
  icmp_words p ty a b = search (worded, push_words, sext_words) depth 9

  widths_words : (op : ConvOp) (t : Ty) (v : Value) (u : Ty) → Words k (gen_widths c op t v u)
  unfolding gen_widths
  widths_words op t v u = search (worded, push_words, conv_op_words)

  conv_words : (op : ConvOp) (t : Ty) (v : Value) (u : Ty) → Words k (gen_conv c op t v u)
  unfolding gen_conv
  conv_words ConvOp.trunc t v u = widths_words ConvOp.trunc t v u
  conv_words ConvOp.zext t v u = widths_words ConvOp.zext t v u
  conv_words ConvOp.sext t v u = widths_words ConvOp.sext t v u
  conv_words ConvOp.ptr_to_int t v u = widths_words ConvOp.ptr_to_int t v u
  conv_words ConvOp.int_to_ptr t v u = widths_words ConvOp.int_to_ptr t v u
  conv_words ConvOp.bit_cast t v u = typed_words t v

  freeze_words : (ty : Ty) (v : Value) → Words k (gen_freeze c ty v)
  unfolding gen_freeze
  freeze_words ty v = search (worded, push_words)

  load_words : (ty : Ty) (p : Value) → Words k (gen_load c ty p)
  unfolding gen_load
  load_words ty p = search (worded, push_words) depth 9

  store_words : (ty : Ty) (v p : Value) → Words k (gen_store c ty v p)
  unfolding gen_store
  store_words ty v p = search (worded, push_words, typed_words) depth 9

  count_words : (n : Option TypedVal) → Words k (push_count c n)
  unfolding push_count
  count_words none = int_words k 1 64
  count_words (some tv) = push_words tv.val 64

  dynamic_words : (ty : Ty) (n : Option TypedVal) (a : Option ℕ) → Words k (gen_dynamic_alloca c ty n a)
  unfolding gen_dynamic_alloca
  dynamic_words ty n a = search (worded, int_words, add_words, mul_words, count_words) depth 16

  fixed_words_lem : (off : ℕ) → Words k (fixed_place c off)
  unfolding fixed_place
  fixed_words_lem off = search (worded, int_words, add_words)

  place_words : (off : Option ℕ) (ty : Ty) (n : Option TypedVal) (a : Option ℕ) → Words k (place_of c off ty n a)
  unfolding place_of
  place_words (some off) ty n a = fixed_words_lem off
  place_words none ty n a = dynamic_words ty n a

  alloca_words : (d : Option ℕ) (ty : Ty) (n : Option TypedVal) (a : Option ℕ) → Words k (gen_alloca c d ty n a)
  unfolding gen_alloca
  alloca_words d ty n a = search (worded, place_words, dest_words)

  width_words : (ty : Ty) → Words k (require_atomic_width c ty)
  unfolding require_atomic_width
  width_words ty = search worded

  atomic_load_words : (ty : Ty) (p : Value) → Words k (gen_atomic_load c ty p)
  unfolding gen_atomic_load
  atomic_load_words ty p = search (worded, width_words, push_words)

  atomic_store_words : (ty : Ty) (v p : Value) → Words k (gen_atomic_store c ty v p)
  unfolding gen_atomic_store
  atomic_store_words ty v p = search (worded, width_words, push_words)

  cmpxchg_words : (p x y : Value) (d : Option ℕ) → Words k (gen_cmpxchg c p x y d)
  unfolding gen_cmpxchg
  cmpxchg_words p x y d = search (worded, push_words) depth 16

  extract_words : (v : Value) (i : ℕ) (d : Option ℕ) → Words k (gen_extract_value c v i d)
  unfolding gen_extract_value
  extract_words v i d = search (worded, dest_words)

  term_words : (t : VarTerm) → Words k (gen_var_term c t)
  unfolding gen_var_term
  term_words t = search (worded, push_words, sext_words, int_words, add_words, mul_words) depth 9

  gep_words : (ty : Ty) (p : Value) (is : List TypedVal) → Words k (gen_gep c ty p is)
  unfolding gen_gep
  gep_words ty p is = search (worded, push_words, term_words, int_words, add_words) depth 9

  args_words : (as' : List TypedVal) → Words k (push_args c as')
  unfolding push_args push_arg
  args_words as' = search (worded, typed_words)

  target_words : (v : Value) (n : ℕ) → Words k (call_target c v n)
  unfolding call_target
  target_words (Value.global x) n = search worded
  target_words (Value.local x) n = search (worded, push_words)
  target_words (Value.int v) n = refuse_words k 15
  target_words (Value.zero z) n = refuse_words k 15
  target_words Value.other n = refuse_words k 15

  plain_call_words : (d : Option ℕ) (v : Value) (as' : List TypedVal) → Words k (gen_plain_call c d v as')
  unfolding gen_plain_call
  plain_call_words d v as' = search (worded, args_words, target_words, pop_words)

  syscall_words : (d : Option ℕ) (x : ℕ) (t : Ty) (as' : List TypedVal) → Words k (gen_syscall c d x t as')
  unfolding gen_syscall
  syscall_words d x t as' = search (worded, args_words, pop_words)

  memcmp_words : (d : Option ℕ) (as' : List TypedVal) → Words k (gen_memcmp_call c d as')
  unfolding gen_memcmp_call
  memcmp_words d as' = search (worded, args_words, pop_words)

  named_words : (s : List ℕ) (d : Option ℕ) (x : ℕ) (t : Ty) (as' : List TypedVal) → Words k (call_named c s d x t as')
  unfolding call_named
  named_words s d x t as' = search (worded, syscall_words, memcmp_words, plain_call_words)

  call_words : (d : Option ℕ) (t : Ty) (v : Value) (as' : List TypedVal) → Words k (gen_call c d t v as')
  unfolding gen_call
  call_words d t (Value.global x) as' = named_words _ d x t as'
  call_words d t (Value.local x) as' = plain_call_words d (Value.local x) as'
  call_words d t (Value.int v) as' = plain_call_words d (Value.int v) as'
  call_words d t (Value.zero z) as' = plain_call_words d (Value.zero z) as'
  call_words d t Value.other as' = plain_call_words d Value.other as'

  -- ---- edges
  edge_words : (p s : ℕ) → Words k (edge c p s)
  unfolding edge emit_edge_copies push_copy set_copy
  edge_words p s = search (worded, typed_words) depth 9

  leave_words : Words k (emit_frame_leave c)
  unfolding emit_frame_leave
  leave_words = search worded

  ret_value_words : (v : Option TypedVal) → Words k (ret_value c v)
  unfolding ret_value
  ret_value_words none = number_words k 0 (omega arith)
  ret_value_words (some tv) = typed_words tv.ty tv.val

  ret_words : (v : Option TypedVal) → Words k (gen_ret c v)
  unfolding gen_ret
  ret_words v = search (worded, ret_value_words, leave_words)

  -- the cases' labels, from l on, lie below k
  tests_words : (w : ℕ) (v : Value) (l : ℕ) (ks : List Case) → l + length ks ≤ k → Words k (case_tests c w v l ks)
  unfolding case_tests
  tests_words w v l [] h = skip_words k
  tests_words w v l (a ∷ ks) h =
      let jump = jump_words k Hint.sw_case l (omega arith) in
      let rest = tests_words w v (suc l) ks (omega arith) in
      search (worded, push_words, int_words) depth 9

  case_edges_words : (p l : ℕ) (ks : List Case) → l + length ks ≤ k → Words k (case_edges c p l ks)
  unfolding case_edges
  case_edges_words p l [] h = skip_words k
  case_edges_words p l (a ∷ ks) h =
      let own = label_words k Hint.sw_case l (omega arith) in
      let rest = case_edges_words p (suc l) ks (omega arith) in
      search (worded, edge_words)

-- ---- instructions and terminators with labels, blocks
module _ (c : FnCtx) (fit : Numbers c) (k : ℕ) where
  select_words : (v : Value) (ty : Ty) (a b : Value) → Words k (gen_select c v ty a b)
  unfolding gen_select
  select_words v ty a b =
      any_words k _ _ (λ w. fresh_words k _ (λ l h. fresh_words (suc l) _ (λ m i.
      let one = jump_words (suc m) Hint.sel_false l (omega arith) in
      let two = jump_words (suc m) Hint.sel_done m (omega arith) in
      let three = label_words (suc m) Hint.sel_false l (omega arith) in
      let four = label_words (suc m) Hint.sel_done m (omega arith) in
      let push : (x : Value) (wd : ℕ) → Words (suc m) (push_value c x wd) = push_words c fit (suc m) in
      search (worded, push) depth 9)))

  cond_br_words : (p : ℕ) (v : Value) (t : ℕ) (f : Option ℕ) → Words k (gen_cond_br c p v t f)
  unfolding gen_cond_br
  cond_br_words p v t f =
      any_words k _ _ (λ s. then_words k _ _ (push_words c fit k v 1) (fresh_words k _ (λ l h.
      let one = jump_words (suc l) Hint.br_false l (omega arith) in
      let two = label_words (suc l) Hint.br_false l (omega arith) in
      let go : (x y : ℕ) → Words (suc l) (edge c x y) = edge_words c fit (suc l) in
      search (worded, go))))

  br_words : (p : ℕ) (v : Option Value) (t : ℕ) (f : Option ℕ) → Words k (gen_br c p v t f)
  unfolding gen_br
  br_words p none t f = edge_words c fit k p t
  br_words p (some v) t f = cond_br_words p v t f

  switch_words : (p : ℕ) (ty : Ty) (v : Value) (d : ℕ) (ks : List Case) → Words k (gen_switch c p ty v d ks)
  unfolding gen_switch
  switch_words p ty v d ks =
      any_words k _ _ (λ w. reserve_words k (length ks) _ (λ l h.
      then_words (l + length ks) _ _ (tests_words c fit (l + length ks) w v l ks (omega arith))
      (then_words (l + length ks) _ _ (edge_words c fit (l + length ks) p d) (case_edges_words c fit (l + length ks) p l ks (omega arith)))))

  terminator_words : (p : ℕ) (t : Terminator) → Words k (gen_term c p t)
  unfolding gen_term
  terminator_words p (Terminator.ret v) = ret_words c fit k v
  terminator_words p (Terminator.br v t f) = br_words p v t f
  terminator_words p (Terminator.switch ty v d ks) = switch_words p ty v d ks
  terminator_words p Terminator.unreachable = search worded

  kind_words : (d : Option ℕ) (i : InstKind) → Words k (gen_kind c d i)
  unfolding gen_kind
  kind_words d (InstKind.select v ty a b) = then_words k _ _ (select_words v ty a b) (dest_words c fit k d)
  kind_words d (InstKind.bin op ty a b) = then_words k _ _ (bin_words c fit k op ty a b) (dest_words c fit k d)
  kind_words d (InstKind.conv op t v u) = then_words k _ _ (conv_words c fit k op t v u) (dest_words c fit k d)
  kind_words d (InstKind.icmp p ty a b) = then_words k _ _ (icmp_words c fit k p ty a b) (dest_words c fit k d)
  kind_words d (InstKind.load ty p a) = then_words k _ _ (load_words c fit k ty p) (dest_words c fit k d)
  kind_words d (InstKind.store ty v p a) = store_words c fit k ty v p
  kind_words d (InstKind.alloca ty n a) = alloca_words c fit k d ty n a
  kind_words d (InstKind.get_element_ptr ty p is) = then_words k _ _ (gep_words c fit k ty p is) (dest_words c fit k d)
  kind_words d (InstKind.phi ty is) = skip_words k
  kind_words d (InstKind.call ty v as') = call_words c fit k d ty v as'
  kind_words d (InstKind.freeze ty v) = then_words k _ _ (freeze_words c fit k ty v) (dest_words c fit k d)
  kind_words d (InstKind.atomic_load ty p) = then_words k _ _ (atomic_load_words c fit k ty p) (dest_words c fit k d)
  kind_words d (InstKind.atomic_store ty v p) = atomic_store_words c fit k ty v p
  kind_words d (InstKind.cmpxchg ty p x y) = then_words k _ _ (width_words c fit k ty) (cmpxchg_words c fit k p x y d)
  kind_words d (InstKind.extract_value v i) = extract_words c fit k v i d
  kind_words d InstKind.fence = skip_words k

  inst_words : (i : Inst) → Words k (gen_inst c i)
  unfolding gen_inst
  inst_words i = kind_words i.dest i.kind

  pub block_words : (b : BasicBlock) → Words k (gen_block c b)
  unfolding gen_block
  block_words b = search (worded, inst_words, terminator_words)

  pub prologue_words : Words k (prologue c)
  unfolding prologue
  prologue_words =
      let size = number_words k c.frame_size fit.frame in
      search (worded, add_words) depth 9

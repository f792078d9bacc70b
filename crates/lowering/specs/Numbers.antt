-- Law: every refusal of the translator has one of document 01's numbers, 1 to 20; so none is 0, the number of an accepted call.
use Rattle.std.specs.Prelude.{ℕ, suc, ◌≤◌, min, Bool, ◌&&◌, length, leb}
use Rattle.std.proofs.Math.Path.{◌≡◌, refl}
use Rattle.std.proofs.Math.Bool.{true, false}
use Rattle.std.proofs.Math.Option.{Option, none, some}
use mathlib.Core.List.{List, [], ◌∷◌}
use Rattle.std.proofs.Common.{arith, leb-true}
use Rattle.names.specs.Tests.{both}
use Rattle.book.specs.Ast.{Ty, Value, TypedVal, BinOp, ConvOp, ICmpPred, Case, StructType, Incoming, InstKind, Inst, Terminator, BasicBlock, Function}
use Rattle.book.specs.Result.{Result, ok, err, bind, ok_or, given, require}
use Rattle.book.specs.Check.{checked}
use Rattle.book.specs.Shape.{Shape, shape}
use Rattle.assembly.specs.Line.{Line}
use Rattle.layout.specs.Layout.{frame_limit, align_of, size_of}
use Rattle.layout.specs.Step.{Step, gep_step}
use Rattle.layout.specs.Frame.{Places, place, frame_step, frame_pass}
use Rattle.layout.proofs.Refusals.{LayoutRefusal, six, seven, fourteen, Refusing, align_of_refusing, size_of_refusing, gep_step_refusing}
use Rattle.lowering.specs.Gen.{Out, Gen, lines, line, skip, refuse, ◌>>=◌, ◌>>◌, when, choose, fresh, reserve, each}
use Rattle.lowering.specs.Context.{Codegen, FnCtx, codegen_of, slot_of}
use Rattle.lowering.specs.Operand.{int_width, emit_trunc_to, sext_bit, sext_more, emit_sext, push_int, local_line, add64, mul64, push_value, push_typed, store_dest, store_or_pop}
use Rattle.lowering.specs.Arith.{emit_conv_op, gen_bin, gen_icmp, gen_widths, gen_conv, gen_select, gen_freeze}
use Rattle.lowering.specs.Memory.{gen_load, gen_store, align_or, push_count, gen_dynamic_alloca, fixed_place, place_of, gen_alloca, require_atomic_width, gen_atomic_load, gen_atomic_store, gen_cmpxchg, gen_extract_value}
use Rattle.lowering.specs.Gep.{VarTerm, Walk, took, first_step, walk_rest, walk, gen_var_term, gen_gep}
use Rattle.lowering.specs.Call.{push_arg, push_args, call_target, gen_plain_call, gen_syscall, gen_memcmp_call, call_named, gen_call}
use Rattle.lowering.specs.Edge.{Copy, copy_of, copy_step, copies, push_copy, set_copy, emit_edge_copies, edge}
use Rattle.lowering.specs.Inst.{gen_kind, gen_inst}
use Rattle.lowering.specs.Term.{emit_frame_leave, ret_value, gen_ret, gen_cond_br, gen_br, case_tests, case_edges, gen_switch, gen_term}
use Rattle.lowering.specs.Function.{gen_block, prologue, gen_lines, gen_function, gen_functions}
use Rattle.lowering.specs.Translate.{generated, Translation, translation_number, replied, translate}

-- whether a number is one of the translator's refusals
abbrev pub is_refusal : ℕ → Bool
is_refusal e = leb 1 e && leb e 20

pub refusal_range : (e : ℕ) → is_refusal e ≡ true → (1 ≤ e) × (e ≤ 20)
refusal_range e h = let p = both (leb 1 e) (leb e 20) h in (leb-true 1 e p.0, leb-true e 20 p.1)

-- what is no value has such a number
pub record Numbered {A : Type 0} (r : Result A) : Type 0 where
  pub numbered : (e : ℕ) → r ≡ err e → is_refusal e ≡ true

-- ---- the ways of answering
module _ {A : Type 0} where
  ok_numbered : (a : A) → Numbered (ok a)
  ok_numbered a = record { numbered = λ e h. absurd (let z : ◌≡◌ {A = ℕ} 0 1 = cc in omega arith) }

  err_numbered : (n : ℕ) → is_refusal n ≡ true → Numbered {A = A} (err n)
  err_numbered n p = record { numbered = λ e h. let q : n ≡ e = cc in rw q at p }

  ok_or_numbered : (n : ℕ) (o : Option A) → is_refusal n ≡ true → Numbered (ok_or n o)
  unfolding ok_or
  ok_or_numbered n none p = err_numbered n p
  ok_or_numbered n (some a) p = ok_numbered a

  given_numbered : (b : Bool) (n : ℕ) (a : A) → is_refusal n ≡ true → Numbered (given b n a)
  unfolding given
  given_numbered true n a p = ok_numbered a
  given_numbered false n a p = err_numbered n p

bind_numbered : {A B : Type 0} (r : Result A) (f : A → Result B) → Numbered r → ((a : A) → Numbered (f a)) → Numbered (bind r f)
unfolding bind
bind_numbered (ok a) f p q = q a
bind_numbered (err n) f p q = record { numbered = λ e h. p.numbered e (let z : n ≡ e = cc in rw z) }

-- ---- the ways of generating
-- whoever generates so refuses with such a number
pub record Refuses (g : Gen) : Type 0 where
  pub refuses : (n : ℕ) → Numbered (g n)

lines_refuses : (ls : List Line) → Refuses (lines ls)
unfolding lines
lines_refuses ls = record { refuses = λ n. ok_numbered _ }

line_refuses : (l : Line) → Refuses (line l)
unfolding line
line_refuses l = lines_refuses (l ∷ [])

skip_refuses : Refuses skip
unfolding skip
skip_refuses = lines_refuses []

refuse_refuses : (e : ℕ) → is_refusal e ≡ true → Refuses (refuse e)
unfolding refuse
refuse_refuses e p = record { refuses = λ n. err_numbered e p }

bind_refuses : {A : Type 0} (r : Result A) (g : A → Gen) → Numbered r → ((a : A) → Refuses (g a)) → Refuses (r >>= g)
unfolding ◌>>=◌
bind_refuses r g p q = record { refuses = λ n. bind_numbered r _ p (λ a. (q a).refuses n) }

then_refuses : (g h : Gen) → Refuses g → Refuses h → Refuses (g >> h)
unfolding ◌>>◌
then_refuses g h p q =
    record { refuses = λ n. bind_numbered (g n) _ (p.refuses n) (λ o. bind_numbered (h o.next) _ (q.refuses o.next) (λ o. ok_numbered _)) }

when_refuses : (b : Bool) (g : Gen) → Refuses g → Refuses (when b g)
unfolding when
when_refuses true g p = p
when_refuses false g p = skip_refuses

choose_refuses : (b : Bool) (g h : Gen) → Refuses g → Refuses h → Refuses (choose b g h)
unfolding choose
choose_refuses true g h p q = p
choose_refuses false g h p q = q

fresh_refuses : (g : ℕ → Gen) → ((l : ℕ) → Refuses (g l)) → Refuses (fresh g)
unfolding fresh
fresh_refuses g p = record { refuses = λ n. (p n).refuses (suc n) }

reserve_refuses : (k : ℕ) (g : ℕ → Gen) → ((l : ℕ) → Refuses (g l)) → Refuses (reserve k g)
unfolding reserve
reserve_refuses k g p = record { refuses = λ n. (p n).refuses _ }

each_refuses : {A : Type 0} (f : A → Gen) (xs : List A) → ((x : A) → Refuses (f x)) → Refuses (each f xs)
unfolding each
each_refuses f [] p = skip_refuses
each_refuses f (x ∷ xs) p = then_refuses (f x) (each f xs) (p x) (each_refuses f xs p)

ruleset numbered = (
  refl,
  ok_numbered,
  err_numbered,
  ok_or_numbered,
  given_numbered,
  bind_numbered,
  lines_refuses,
  line_refuses,
  skip_refuses,
  refuse_refuses,
  bind_refuses,
  then_refuses,
  when_refuses,
  choose_refuses,
  fresh_refuses,
  reserve_refuses,
  each_refuses,
)

-- ---- operands
width_numbered : (ty : Ty) → Numbered (int_width ty)
unfolding int_width
width_numbered (Ty.int w) = search numbered
width_numbered Ty.ptr = search numbered
width_numbered Ty.void = search numbered
width_numbered (Ty.sizeless s) = search numbered
width_numbered (Ty.array p n t) = search numbered
width_numbered (Ty.named_struct x) = search numbered
width_numbered (Ty.struct p ts) = search numbered

trunc_refuses : (w : ℕ) → Refuses (emit_trunc_to w)
unfolding emit_trunc_to
trunc_refuses w = search numbered

sext_bit_refuses : (to : ℕ) → Refuses (sext_bit to)
unfolding sext_bit
sext_bit_refuses to = search numbered

sext_more_refuses : (from to : ℕ) → Refuses (sext_more from to)
unfolding sext_more
sext_more_refuses from to = search (numbered, trunc_refuses)

sext_refuses : (from to : ℕ) → Refuses (emit_sext from to)
unfolding emit_sext
sext_refuses from to = search (numbered, sext_bit_refuses, sext_more_refuses)

push_int_refuses : (v w : ℕ) → Refuses (push_int v w)
unfolding push_int
push_int_refuses v w = search numbered

add_refuses : Refuses add64
unfolding add64
add_refuses = search numbered

mul_refuses : Refuses mul64
unfolding mul64
mul_refuses = search numbered

local_numbered : (arg slot : Option ℕ) → Numbered (local_line arg slot)
unfolding local_line
local_numbered (some i) slot = search numbered
local_numbered none (some s) = search numbered
local_numbered none none = search numbered

-- ---- layout
layout_numbered : {A : Type 0} (r : Result A) → Refusing r → Numbered r
layout_numbered (ok a) p = ok_numbered a
layout_numbered (err e) p = err_numbered e (among p)
  where
    among : {e : ℕ} → LayoutRefusal e → is_refusal e ≡ true
    among six = refl
    among seven = refl
    among fourteen = refl

module _ (structs : List StructType) where
  size_numbered : (ty : Ty) → Numbered (size_of structs ty)
  size_numbered ty = layout_numbered _ (size_of_refusing structs ty)

  align_numbered : (ty : Ty) → Numbered (align_of structs ty)
  align_numbered ty = layout_numbered _ (align_of_refusing structs ty)

  step_numbered : (ty : Ty) (v : Value) → Numbered (gep_step structs ty v)
  step_numbered ty v = layout_numbered _ (gep_step_refusing structs ty v)

  -- ---- the frame pass
  fixed_numbered : (x : ℕ) (ty : Ty) (n : Option ℕ) (f : Places) → Numbered (place structs x ty n f)
  unfolding place frame_limit
  fixed_numbered x ty none f = search numbered
  fixed_numbered x ty (some n) f = search (numbered, align_numbered, size_numbered)

  frame_step_numbered : (d : Option ℕ) (s : Shape) (f : Places) → Numbered (frame_step structs d s f)
  unfolding frame_step
  frame_step_numbered d (Shape.alloca ty n) f = search (numbered, fixed_numbered)
  frame_step_numbered d (Shape.phi ty is) f = search numbered
  frame_step_numbered d (Shape.call v) f = search numbered
  frame_step_numbered d Shape.cmpxchg f = search numbered
  frame_step_numbered d Shape.plain f = search numbered

  frame_numbered : (is : List Inst) (f : Places) → Numbered (frame_pass structs is f)
  unfolding frame_pass
  frame_numbered [] f = ok_numbered f
  frame_numbered (i ∷ is) f = bind_numbered _ _ (frame_step_numbered i.dest (shape i.kind) f) (λ g. frame_numbered is g)

-- ---- the walk over the indices of a getelementptr
took_numbered : (s : Step) (idx : TypedVal) (w : Walk) → Numbered (took s idx w)
unfolding took
took_numbered (Step.const off next) idx w = search numbered
took_numbered (Step.var s next) idx w = search (numbered, width_numbered)

module _ (structs : List StructType) where
  first_numbered : (ty : Ty) (v : Value) → Numbered (first_step structs ty v)
  unfolding first_step
  first_numbered ty v = search (numbered, size_numbered)

  rest_numbered : (is : List TypedVal) (w : Walk) → Numbered (walk_rest structs is w)
  unfolding walk_rest
  rest_numbered [] w = ok_numbered w
  rest_numbered (idx ∷ is) w =
      bind_numbered _ _ (step_numbered structs w.cur_ty idx.val) (λ s. bind_numbered _ _ (took_numbered s idx w) (λ v. rest_numbered is v))

  walk_numbered : (ty : Ty) (is : List TypedVal) → Numbered (walk structs ty is)
  unfolding walk
  walk_numbered ty [] = search numbered
  walk_numbered ty (idx ∷ is) = search (numbered, first_numbered, took_numbered, rest_numbered)

module _ (c : FnCtx) where
  slot_numbered : (d : Option ℕ) → Numbered (slot_of c d)
  unfolding slot_of
  slot_numbered d = search numbered

  push_refuses : (v : Value) (w : ℕ) → Refuses (push_value c v w)
  unfolding push_value
  push_refuses (Value.local x) w = search (numbered, local_numbered)
  push_refuses (Value.int v) w = push_int_refuses v w
  push_refuses (Value.zero z) w = search numbered
  push_refuses (Value.global x) w = search numbered
  push_refuses Value.other w = search numbered

  typed_refuses : (ty : Ty) (v : Value) → Refuses (push_typed c ty v)
  unfolding push_typed
  typed_refuses ty v = search (numbered, width_numbered, push_refuses)

  dest_refuses : (d : Option ℕ) → Refuses (store_dest c d)
  unfolding store_dest
  dest_refuses d = search (numbered, slot_numbered)

  pop_refuses : (d : Option ℕ) → Refuses (store_or_pop c d)
  unfolding store_or_pop
  pop_refuses none = search numbered
  pop_refuses (some x) = dest_refuses (some x)

  -- ---- instructions
  bin_refuses : (op : BinOp) (ty : Ty) (a b : Value) → Refuses (gen_bin c op ty a b)
  unfolding gen_bin
  bin_refuses op ty a b = search (numbered, width_numbered, push_refuses, sext_refuses, trunc_refuses) depth 9

  icmp_refuses : (p : ICmpPred) (ty : Ty) (a b : Value) → Refuses (gen_icmp c p ty a b)
  unfolding gen_icmp
  icmp_refuses p ty a b = search (numbered, width_numbered, push_refuses, sext_refuses) depth 9

  conv_op_refuses : (op : ConvOp) (fw tw : ℕ) → Refuses (emit_conv_op op fw tw)
  unfolding emit_conv_op
  conv_op_refuses ConvOp.trunc fw tw = trunc_refuses tw
  conv_op_refuses ConvOp.zext fw tw = skip_refuses
  conv_op_refuses ConvOp.sext fw tw = sext_refuses fw tw
  conv_op_refuses ConvOp.ptr_to_int fw tw = search (numbered, trunc_refuses)
  conv_op_refuses ConvOp.int_to_ptr fw tw = skip_refuses
  conv_op_refuses ConvOp.bit_cast fw tw = skip_refuses

  widths_refuses : (op : ConvOp) (t : Ty) (v : Value) (u : Ty) → Refuses (gen_widths c op t v u)
  unfolding gen_widths
  widths_refuses op t v u = search (numbered, width_numbered, push_refuses, conv_op_refuses)

  conv_refuses : (op : ConvOp) (t : Ty) (v : Value) (u : Ty) → Refuses (gen_conv c op t v u)
  unfolding gen_conv
  conv_refuses ConvOp.trunc t v u = widths_refuses ConvOp.trunc t v u
  conv_refuses ConvOp.zext t v u = widths_refuses ConvOp.zext t v u
  conv_refuses ConvOp.sext t v u = widths_refuses ConvOp.sext t v u
  conv_refuses ConvOp.ptr_to_int t v u = widths_refuses ConvOp.ptr_to_int t v u
  conv_refuses ConvOp.int_to_ptr t v u = widths_refuses ConvOp.int_to_ptr t v u
  conv_refuses ConvOp.bit_cast t v u = typed_refuses t v

  select_refuses : (v : Value) (ty : Ty) (a b : Value) → Refuses (gen_select c v ty a b)
  unfolding gen_select
  select_refuses v ty a b = search (numbered, width_numbered, push_refuses) depth 12

  freeze_refuses : (ty : Ty) (v : Value) → Refuses (gen_freeze c ty v)
  unfolding gen_freeze
  freeze_refuses ty v = search (numbered, size_numbered, push_refuses)

  load_refuses : (ty : Ty) (p : Value) → Refuses (gen_load c ty p)
  unfolding gen_load
  load_refuses ty p = search (numbered, size_numbered, push_refuses) depth 9

  store_refuses : (ty : Ty) (v p : Value) → Refuses (gen_store c ty v p)
  unfolding gen_store
  store_refuses ty v p = search (numbered, size_numbered, push_refuses, typed_refuses) depth 9

  count_refuses : (n : Option TypedVal) → Refuses (push_count c n)
  unfolding push_count
  count_refuses none = push_int_refuses 1 64
  count_refuses (some tv) = push_refuses tv.val 64

  align_or_numbered : (a : Option ℕ) (ty : Ty) → Numbered (align_or c a ty)
  unfolding align_or
  align_or_numbered (some a) ty = ok_numbered a
  align_or_numbered none ty = align_numbered _ ty

  dynamic_refuses : (ty : Ty) (n : Option TypedVal) (a : Option ℕ) → Refuses (gen_dynamic_alloca c ty n a)
  unfolding gen_dynamic_alloca
  dynamic_refuses ty n a = search (numbered, size_numbered, align_or_numbered, push_int_refuses, add_refuses, mul_refuses, count_refuses) depth 16

  fixed_refuses : (off : ℕ) → Refuses (fixed_place c off)
  unfolding fixed_place
  fixed_refuses off = search (numbered, push_int_refuses, add_refuses)

  place_refuses : (off : Option ℕ) (ty : Ty) (n : Option TypedVal) (a : Option ℕ) → Refuses (place_of c off ty n a)
  unfolding place_of
  place_refuses (some off) ty n a = fixed_refuses off
  place_refuses none ty n a = dynamic_refuses ty n a

  alloca_refuses : (d : Option ℕ) (ty : Ty) (n : Option TypedVal) (a : Option ℕ) → Refuses (gen_alloca c d ty n a)
  unfolding gen_alloca
  alloca_refuses d ty n a = search (numbered, place_refuses, dest_refuses)

  atomic_refuses : (ty : Ty) → Refuses (require_atomic_width c ty)
  unfolding require_atomic_width
  atomic_refuses ty = search (numbered, size_numbered)

  atomic_load_refuses : (ty : Ty) (p : Value) → Refuses (gen_atomic_load c ty p)
  unfolding gen_atomic_load
  atomic_load_refuses ty p = search (numbered, atomic_refuses, push_refuses)

  atomic_store_refuses : (ty : Ty) (v p : Value) → Refuses (gen_atomic_store c ty v p)
  unfolding gen_atomic_store
  atomic_store_refuses ty v p = search (numbered, atomic_refuses, push_refuses)

  cmpxchg_refuses : (p x y : Value) (d : Option ℕ) → Refuses (gen_cmpxchg c p x y d)
  unfolding gen_cmpxchg
  cmpxchg_refuses p x y d = search (numbered, slot_numbered, push_refuses) depth 16

  extract_refuses : (v : Value) (i : ℕ) (d : Option ℕ) → Refuses (gen_extract_value c v i d)
  unfolding gen_extract_value
  extract_refuses v i d = search (numbered, dest_refuses)

  term_refuses : (t : VarTerm) → Refuses (gen_var_term c t)
  unfolding gen_var_term
  term_refuses t = search (numbered, push_refuses, sext_refuses, push_int_refuses, add_refuses, mul_refuses) depth 9

  gep_refuses : (ty : Ty) (p : Value) (is : List TypedVal) → Refuses (gen_gep c ty p is)
  unfolding gen_gep
  gep_refuses ty p is = search (numbered, walk_numbered, push_refuses, term_refuses, push_int_refuses, add_refuses) depth 9

  args_refuses : (as' : List TypedVal) → Refuses (push_args c as')
  unfolding push_args push_arg
  args_refuses as' = search (numbered, typed_refuses)

  target_refuses : (v : Value) (n : ℕ) → Refuses (call_target c v n)
  unfolding call_target
  target_refuses (Value.global x) n = search numbered
  target_refuses (Value.local x) n = search (numbered, push_refuses)
  target_refuses (Value.int v) n = search numbered
  target_refuses (Value.zero z) n = search numbered
  target_refuses Value.other n = search numbered

  plain_call_refuses : (d : Option ℕ) (v : Value) (as' : List TypedVal) → Refuses (gen_plain_call c d v as')
  unfolding gen_plain_call
  plain_call_refuses d v as' = search (numbered, args_refuses, target_refuses, pop_refuses)

  syscall_refuses : (d : Option ℕ) (x : ℕ) (t : Ty) (as' : List TypedVal) → Refuses (gen_syscall c d x t as')
  unfolding gen_syscall
  syscall_refuses d x t as' = search (numbered, args_refuses, pop_refuses)

  memcmp_refuses : (d : Option ℕ) (as' : List TypedVal) → Refuses (gen_memcmp_call c d as')
  unfolding gen_memcmp_call
  memcmp_refuses d as' = search (numbered, args_refuses, pop_refuses)

  named_refuses : (s : List ℕ) (d : Option ℕ) (x : ℕ) (t : Ty) (as' : List TypedVal) → Refuses (call_named c s d x t as')
  unfolding call_named
  named_refuses s d x t as' = search (numbered, syscall_refuses, memcmp_refuses, plain_call_refuses)

  call_refuses : (d : Option ℕ) (t : Ty) (v : Value) (as' : List TypedVal) → Refuses (gen_call c d t v as')
  unfolding gen_call
  call_refuses d t (Value.global x) as' = named_refuses _ d x t as'
  call_refuses d t (Value.local x) as' = plain_call_refuses d (Value.local x) as'
  call_refuses d t (Value.int v) as' = plain_call_refuses d (Value.int v) as'
  call_refuses d t (Value.zero z) as' = plain_call_refuses d (Value.zero z) as'
  call_refuses d t Value.other as' = plain_call_refuses d Value.other as'

  kind_refuses : (d : Option ℕ) (i : InstKind) → Refuses (gen_kind c d i)
  unfolding gen_kind
  kind_refuses d (InstKind.bin op ty a b) = search (numbered, bin_refuses, dest_refuses)
  kind_refuses d (InstKind.conv op t v u) = search (numbered, conv_refuses, dest_refuses)
  kind_refuses d (InstKind.icmp p ty a b) = search (numbered, icmp_refuses, dest_refuses)
  kind_refuses d (InstKind.select v ty a b) = search (numbered, select_refuses, dest_refuses)
  kind_refuses d (InstKind.load ty p a) = search (numbered, load_refuses, dest_refuses)
  kind_refuses d (InstKind.store ty v p a) = store_refuses ty v p
  kind_refuses d (InstKind.alloca ty n a) = alloca_refuses d ty n a
  kind_refuses d (InstKind.get_element_ptr ty p is) = search (numbered, gep_refuses, dest_refuses)
  kind_refuses d (InstKind.call ty v as') = call_refuses d ty v as'
  kind_refuses d (InstKind.phi ty is) = skip_refuses
  kind_refuses d (InstKind.atomic_load ty p) = search (numbered, atomic_load_refuses, dest_refuses)
  kind_refuses d (InstKind.atomic_store ty v p) = atomic_store_refuses ty v p
  kind_refuses d (InstKind.cmpxchg ty p x y) = search (numbered, atomic_refuses, cmpxchg_refuses)
  kind_refuses d (InstKind.extract_value v i) = extract_refuses v i d
  kind_refuses d (InstKind.freeze ty v) = search (numbered, freeze_refuses, dest_refuses)
  kind_refuses d InstKind.fence = skip_refuses

  inst_refuses : (i : Inst) → Refuses (gen_inst c i)
  unfolding gen_inst
  inst_refuses i = kind_refuses i.dest i.kind

  -- ---- edges
  copy_numbered : (p : ℕ) (d : Option ℕ) (ty : Ty) (is : List Incoming) → Numbered (copy_of c p d ty is)
  unfolding copy_of
  copy_numbered p d ty is = search (numbered, slot_numbered)

  copy_step_numbered : (p : ℕ) (d : Option ℕ) (s : Shape) (rest : Result (List Copy)) → Numbered rest → Numbered (copy_step c p d s rest)
  unfolding copy_step
  copy_step_numbered p d (Shape.phi ty is) rest q = search (numbered, copy_numbered)
  copy_step_numbered p d (Shape.alloca ty n) rest q = search numbered
  copy_step_numbered p d (Shape.call v) rest q = search numbered
  copy_step_numbered p d Shape.cmpxchg rest q = search numbered
  copy_step_numbered p d Shape.plain rest q = search numbered

  copies_numbered : (p : ℕ) (is : List Inst) → Numbered (copies c p is)
  unfolding copies
  copies_numbered p [] = search numbered
  copies_numbered p (i ∷ is) = copy_step_numbered p i.dest (shape i.kind) _ (copies_numbered p is)

  edge_refuses : (p s : ℕ) → Refuses (edge c p s)
  unfolding edge emit_edge_copies push_copy set_copy
  edge_refuses p s = search (numbered, copies_numbered, typed_refuses) depth 9

  -- ---- terminators
  leave_refuses : Refuses (emit_frame_leave c)
  unfolding emit_frame_leave
  leave_refuses = search numbered

  ret_value_refuses : (v : Option TypedVal) → Refuses (ret_value c v)
  unfolding ret_value
  ret_value_refuses none = search numbered
  ret_value_refuses (some tv) = typed_refuses tv.ty tv.val

  ret_refuses : (v : Option TypedVal) → Refuses (gen_ret c v)
  unfolding gen_ret
  ret_refuses v = search (numbered, ret_value_refuses, leave_refuses)

  br_refuses : (p : ℕ) (v : Option Value) (t : ℕ) (f : Option ℕ) → Refuses (gen_br c p v t f)
  unfolding gen_br gen_cond_br
  br_refuses p none t f = edge_refuses p t
  br_refuses p (some v) t f = search (numbered, push_refuses, edge_refuses) depth 9

  tests_refuses : (w : ℕ) (v : Value) (l : ℕ) (ks : List Case) → Refuses (case_tests c w v l ks)
  unfolding case_tests
  tests_refuses w v l [] = skip_refuses
  tests_refuses w v l (k ∷ ks) = step (tests_refuses w v (suc l) ks)
    where
      step : Refuses (case_tests c w v (suc l) ks) → Refuses (case_tests c w v l (k ∷ ks))
      step rest = search (numbered, push_refuses, push_int_refuses) depth 9

  case_edges_refuses : (p l : ℕ) (ks : List Case) → Refuses (case_edges c p l ks)
  unfolding case_edges
  case_edges_refuses p l [] = skip_refuses
  case_edges_refuses p l (k ∷ ks) = step (case_edges_refuses p (suc l) ks)
    where
      step : Refuses (case_edges c p (suc l) ks) → Refuses (case_edges c p l (k ∷ ks))
      step rest = search (numbered, edge_refuses)

  switch_refuses : (p : ℕ) (ty : Ty) (v : Value) (d : ℕ) (ks : List Case) → Refuses (gen_switch c p ty v d ks)
  unfolding gen_switch
  switch_refuses p ty v d ks = search (numbered, width_numbered, tests_refuses, edge_refuses, case_edges_refuses)

  terminator_refuses : (p : ℕ) (t : Terminator) → Refuses (gen_term c p t)
  unfolding gen_term
  terminator_refuses p (Terminator.ret v) = ret_refuses v
  terminator_refuses p (Terminator.br v t f) = br_refuses p v t f
  terminator_refuses p (Terminator.switch ty v d ks) = switch_refuses p ty v d ks
  terminator_refuses p Terminator.unreachable = search numbered

  -- ---- functions
  block_refuses : (b : BasicBlock) → Refuses (gen_block c b)
  unfolding gen_block
  block_refuses b = search (numbered, inst_refuses, terminator_refuses)

  prologue_refuses : Refuses (prologue c)
  unfolding prologue
  prologue_refuses = search (numbered, add_refuses) depth 9

  function_lines_refuses : (f : Function) (n : ℕ) → Refuses (gen_lines c f n)
  unfolding gen_lines
  function_lines_refuses f n = search (numbered, prologue_refuses, block_refuses) depth 12

function_refuses : (m : Codegen) (f : Function) → Refuses (gen_function m f)
unfolding gen_function
function_refuses m f = search (numbered, frame_numbered, function_lines_refuses)

pub functions_refuses : (m : Codegen) (fs : List Function) → Refuses (gen_functions m fs)
unfolding gen_functions
functions_refuses m fs = search (numbered, function_refuses)

-- ---- the whole call
pub checked_numbered : (book names : List ℕ) (counter work : ℕ) → Numbered (checked book names counter work)
unfolding checked require
checked_numbered book names counter work = search numbered depth 9

pub generated_numbered : (book names : List ℕ) (counter work room : ℕ) → Numbered (generated book names counter work room)
unfolding generated
generated_numbered book names counter work room =
    bind_numbered _ _ (checked_numbered book names counter work)
    (λ s. bind_numbered _ _ ((functions_refuses (codegen_of s.names s.book) s.book.functions).refuses counter) (λ o. given_numbered _ 20 o refl))

-- a refused call has such a number; one whose number is 0 was accepted
module _ (book names : List ℕ) (counter : ℕ) (work kinds operands : List ℕ) where
  abbrev made : Result Out
  made = generated book names counter (length work) (min (length kinds) (length operands))

  pub refused_numbered : (e : ℕ) → (translate book names counter work kinds operands).reply ≡ Translation.refused e → is_refusal e ≡ true
  unfolding translate replied
  refused_numbered e h = go made refl h
    where
      go : (r : Result Out) → made ≡ r → (replied r work kinds operands).reply ≡ Translation.refused e → is_refusal e ≡ true
      go (ok o) p q = absurd (let z : ◌≡◌ {A = ℕ} 0 1 = cc in omega arith)
      go (err x) p q = let z : x ≡ e = cc in rw z at ((generated_numbered book names counter (length work) _).numbered x p)

  pub number_0 : translation_number (translate book names counter work kinds operands).reply ≡ 0 → (o : Out) × (made ≡ ok o)
  unfolding translate replied translation_number
  number_0 h = go made refl h
    where
      go : (r : Result Out) → made ≡ r → translation_number (replied r work kinds operands).reply ≡ 0 → (o : Out) × (made ≡ ok o)
      go (ok o) p q = (o, p)
      go (err x) p q = absurd (let l = refusal_range x ((generated_numbered book names counter (length work) _).numbered x p) in omega arith)

-- The lines of calls, edges, terminators and blocks are allowed.
use Rattle.std.specs.Prelude.{ℕ, suc, ◌≤◌, ◌<◌, Bool, ◌&&◌, length, eqb}
use Rattle.std.proofs.Math.Path.{◌≡◌}
use Rattle.std.proofs.Math.Bool.{true, false}
use Rattle.std.proofs.Math.Option.{Option, none, some}
use mathlib.Core.List.{List, [], ◌∷◌, reverse, reverse_aux}
use Rattle.std.proofs.Common.{arith, ltb-false, le-leb}
use Rattle.names.specs.Name.{name_at}
use Rattle.names.specs.Spelling.{is_syscall}
use Rattle.book.specs.Ast.{Ty, Value, TypedVal, Incoming, Case, InstKind, Inst, Terminator, BasicBlock, Book}
use Rattle.book.specs.Rule.{pick}
use Rattle.book.specs.Result.{Result, ok, bind, ok_or, bind_ok}
use Rattle.book.specs.Limits.{Each, Maybe, ValueLimits, NameLimits, TypedLimits, IncomingLimits, CaseLimits, InstLimits, TermLimits, BlockLimits}
use Rattle.book.specs.Shape.{shape}
use Rattle.assembly.specs.Line.{Line}
use Rattle.assembly.specs.Number.{allowed}
use Rattle.lowering.specs.Gen.{line}
use Rattle.lowering.specs.Context.{FnCtx, slot_of}
use Rattle.lowering.specs.Call.{push_arg, push_args, call_target, gen_plain_call, gen_syscall, gen_memcmp_call, call_named, gen_call}
use Rattle.lowering.specs.Edge.{Copy, incoming_from, copy_of, copy_step, copies, push_copy, set_copy, emit_edge_copies, edge}
use Rattle.lowering.specs.Term.{emit_frame_leave, ret_value, gen_ret, gen_cond_br, gen_br, case_tests, case_edges, gen_switch, gen_term}
use Rattle.lowering.specs.Inst.{gen_kind, gen_inst}
use Rattle.lowering.specs.Function.{gen_block}
use Rattle.lowering.specs.Allows.{line_allows, skip_allows, refuse_allows, bind_allows, any_allows, then_allows, guard_allows, choose_allows, fresh_allows, reserve_allows, each_allows, plain}
use Rattle.lowering.specs.Allowed.{count, Within, ok_some, int_allows, Fine, set_slot, base_line, is_name_lem, push_allows, typed_allows, slot_below, dest_allows, pop_allows}
use Rattle.lowering.specs.AllowedInsts.{Value', bin_allows, icmp_allows, conv_allows, select_allows, freeze_allows, load_allows, store_allows, alloca_allows, width_allows, atomic_load_allows, atomic_store_allows, cmpxchg_allows, extract_allows, gep_allows}

pub and-true : (a b : Bool) → a ≡ true → b ≡ true → (a && b) ≡ true
and-true true b h k = k
and-true false b h k = h

-- what holds of each item holds of each in reverse
each_reverse : {A : Type 0} (P : A → Type 0) (xs ys : List A) → Each P xs → Each P ys → Each P (reverse_aux xs ys)
each_reverse P [] ys p q = q
each_reverse P (x ∷ xs) ys p q = each_reverse P xs (x ∷ ys) p.1 (p.0, q)

module _ (b : Book) (c : FnCtx) (w : Within c) where
  -- ---- calls
  args_allows : (as' : List TypedVal) → Each (TypedLimits (count c)) as' → Fine b c w (push_args c as')
  unfolding push_args push_arg
  args_allows as' h = each_allows _ b (TypedLimits (count c)) _ (λ a k. typed_allows b c w a.ty a.val k.1) as' h

  call_line : (x k : ℕ) → x < count c → k ≤ 255 → Fine b c w (line (Line.call x k))
  unfolding allowed
  call_line x k h l = line_allows _ b _ (and-true _ _ (is_name_lem b c w x h) (le-leb k 255 l))

  call_fp_line : (k : ℕ) → k ≤ 255 → Fine b c w (line (Line.call_fp k))
  unfolding allowed
  call_fp_line k l = line_allows _ b _ (le-leb k 255 l)

  target_allows : (v : Value) (k : ℕ) → Value' b c w v → k ≤ 255 → Fine b c w (call_target c v k)
  unfolding call_target
  target_allows (Value.global x) k h l = guard_allows _ _ _ _ _ (λ e. call_line x k h l)
  target_allows (Value.local x) k h l = then_allows _ _ _ _ (push_allows b c w (Value.local x) 64 h) (call_fp_line k l)
  target_allows (Value.int v) k h l = refuse_allows _ _ 15
  target_allows (Value.zero z) k h l = refuse_allows _ _ 15
  target_allows Value.other k h l = refuse_allows _ _ 15

  plain_call_allows : (d : Option ℕ) (v : Value) (as' : List TypedVal) → Value' b c w v → Each (TypedLimits (count c)) as' → Fine b c w (gen_plain_call c d v as')
  unfolding gen_plain_call
  plain_call_allows d v as' h k =
      guard_allows _ _ _ _ _ (λ e.
      then_allows _ _ _ _ (args_allows as' k) (then_allows _ _ _ _ (target_allows v (length as') h (ltb-false 255 (length as') e)) (pop_allows b c w d)))

  syscall_allows : (d : Option ℕ) (x : ℕ) (t : Ty) (as' : List TypedVal) → x < count c → is_syscall (name_at c.codegen.names x) ≡ true → Each (TypedLimits (count c)) as' → Fine b c w (gen_syscall c d x t as')
  unfolding gen_syscall allowed
  syscall_allows d x t as' h s k =
      let sys = line_allows c.codegen.names b (Line.syscall x) (and-true _ _ (is_name_lem b c w x h) s) in
      search (plain, args_allows, pop_allows)

  memcmp_allows : (d : Option ℕ) (as' : List TypedVal) → Each (TypedLimits (count c)) as' → Fine b c w (gen_memcmp_call c d as')
  unfolding gen_memcmp_call
  memcmp_allows d as' k = search (plain, args_allows, pop_allows)

  call_allows : (d : Option ℕ) (t : Ty) (v : Value) (as' : List TypedVal) → Value' b c w v → Each (TypedLimits (count c)) as' → Fine b c w (gen_call c d t v as')
  unfolding gen_call call_named
  call_allows d t (Value.global x) as' h k =
      choose_allows _ _ _ _ _ (λ s. syscall_allows d x t as' h s k) (choose_allows _ _ _ _ _ (λ s. memcmp_allows d as' k) (plain_call_allows d (Value.global x) as' h k))
  call_allows d t (Value.local x) as' h k = plain_call_allows d (Value.local x) as' h k
  call_allows d t (Value.int v) as' h k = plain_call_allows d (Value.int v) as' h k
  call_allows d t (Value.zero z) as' h k = plain_call_allows d (Value.zero z) as' h k
  call_allows d t Value.other as' h k = plain_call_allows d Value.other as' h k

  -- ---- `gen_inst`
  kind_allows : (d : Option ℕ) (k : InstKind) → InstLimits (count c) (record { dest = d; kind = k }) → Fine b c w (gen_kind c d k)
  unfolding gen_kind
  kind_allows d (InstKind.bin op ty x y) h = then_allows _ _ _ _ (bin_allows b c w op ty x y h.1.1.0 h.1.1.1.0) (dest_allows b c w d)
  kind_allows d (InstKind.conv op t v u) h = then_allows _ _ _ _ (conv_allows b c w op t v u h.1.1.0) (dest_allows b c w d)
  kind_allows d (InstKind.icmp p ty x y) h = then_allows _ _ _ _ (icmp_allows b c w p ty x y h.1.1.0 h.1.1.1.0) (dest_allows b c w d)
  kind_allows d (InstKind.select v ty x y) h = then_allows _ _ _ _ (select_allows b c w v ty x y h.1.0 h.1.1.1.0 h.1.1.1.1.0) (dest_allows b c w d)
  kind_allows d (InstKind.load ty p a) h = then_allows _ _ _ _ (load_allows b c w ty p h.1.1.0) (dest_allows b c w d)
  kind_allows d (InstKind.store ty v p a) h = store_allows b c w ty v p h.1.1.0 h.1.1.1.0
  kind_allows d (InstKind.alloca ty n a) h = alloca_allows b c w d ty n a h.1.1.0
  kind_allows d (InstKind.get_element_ptr ty p is) h = then_allows _ _ _ _ (gep_allows b c w ty p is h.1.1.0 h.1.1.1.0.1) (dest_allows b c w d)
  kind_allows d (InstKind.phi ty is) h = skip_allows _ b
  kind_allows d (InstKind.call ty v as') h = call_allows d ty v as' h.1.1.0 h.1.1.1.0
  kind_allows d (InstKind.freeze ty v) h = then_allows _ _ _ _ (freeze_allows b c w ty v h.1.1.0) (dest_allows b c w d)
  kind_allows d (InstKind.atomic_load ty p) h = then_allows _ _ _ _ (atomic_load_allows b c w ty p h.1.1.0) (dest_allows b c w d)
  kind_allows d (InstKind.atomic_store ty v p) h = atomic_store_allows b c w ty v p h.1.1.0 h.1.1.1.0
  kind_allows d (InstKind.cmpxchg ty p x y) h = then_allows _ _ _ _ (width_allows b c w ty) (cmpxchg_allows b c w p x y d h.1.1.0 h.1.1.1.0 h.1.1.1.1.0)
  kind_allows d (InstKind.extract_value v i) h = extract_allows b c w v i d
  kind_allows d InstKind.fence h = skip_allows _ b

  inst_allows : (i : Inst) → InstLimits (count c) i → Fine b c w (gen_inst c i)
  unfolding gen_inst
  inst_allows i h = kind_allows i.dest i.kind h

  -- ---- edges
  -- a copy's slot and value
  abbrev Sound : Copy → Type 0
  Sound cp = (cp.slot < 65535) × Value' b c w cp.val

  incoming_sound : (p : ℕ) (is : List Incoming) (v : Value) → Each (IncomingLimits (count c)) is → incoming_from p is ≡ some v → Value' b c w v
  unfolding incoming_from
  incoming_sound p [] v k h = absurd (let z : ◌≡◌ {A = ℕ} 0 1 = cc in omega arith)
  incoming_sound p (i ∷ is) v k h = go (eqb i.label p) h (incoming_sound p is v k.1)
    where
      go : (t : Bool) → pick t (some i.val) (incoming_from p is) ≡ some v → (incoming_from p is ≡ some v → Value' b c w v) → Value' b c w v
      go true e r = let q : i.val ≡ v = cc in rw q at k.0.0
      go false e r = r e

  copy_sound : (p : ℕ) (d : Option ℕ) (ty : Ty) (is : List Incoming) (cp : Copy) → Each (IncomingLimits (count c)) is → copy_of c p d ty is ≡ ok cp → Sound cp
  unfolding copy_of
  copy_sound p d ty is cp k h =
      let x = bind_ok (slot_of c d) (λ slot. bind (ok_or 18 (incoming_from p is)) (λ val. ok (record { slot = slot; val = val; ty = ty }))) cp h in
      let y = bind_ok (ok_or 18 (incoming_from p is)) (λ val. ok (record { slot = x.0; val = val; ty = ty })) cp x.2 in
      let q : record { slot = x.0; val = y.0; ty = ty } ≡ cp = cc y.2 in
      rw (← q) (slot_below b c w d x.0 x.1, incoming_sound p is y.0 k (ok_some 18 _ y.0 y.1))

  same_copies : {xs ys : List Copy} → ok xs ≡ ok ys → xs ≡ ys
  same_copies h = cc

  step_sound : (p : ℕ) (d : Option ℕ) (k : InstKind) (rest : Result (List Copy)) (cps : List Copy) → InstLimits (count c) (record { dest = d; kind = k })
      → ((ds : List Copy) → rest ≡ ok ds → Each Sound ds) → copy_step c p d (shape k) rest ≡ ok cps → Each Sound cps
  unfolding shape copy_step
  step_sound p d (InstKind.phi ty is) rest cps l r h =
      let x = bind_ok (copy_of c p d ty is) (λ cp. bind rest (λ ds. ok (cp ∷ ds))) cps h in
      let y = bind_ok rest (λ ds. ok (x.0 ∷ ds)) cps x.2 in
      let q = same_copies y.2 in
      rw (← q) (copy_sound p d ty is x.0 l.1.1.0 x.1, r y.0 y.1)
  step_sound p d (InstKind.bin op ty x y) rest cps l r h = rw (← same_copies h) tt
  step_sound p d (InstKind.conv op t v u) rest cps l r h = rw (← same_copies h) tt
  step_sound p d (InstKind.icmp q ty x y) rest cps l r h = rw (← same_copies h) tt
  step_sound p d (InstKind.select v ty x y) rest cps l r h = rw (← same_copies h) tt
  step_sound p d (InstKind.load ty q a) rest cps l r h = rw (← same_copies h) tt
  step_sound p d (InstKind.store ty v q a) rest cps l r h = rw (← same_copies h) tt
  step_sound p d (InstKind.alloca ty n a) rest cps l r h = rw (← same_copies h) tt
  step_sound p d (InstKind.get_element_ptr ty q is) rest cps l r h = rw (← same_copies h) tt
  step_sound p d (InstKind.call ty v as') rest cps l r h = rw (← same_copies h) tt
  step_sound p d (InstKind.freeze ty v) rest cps l r h = rw (← same_copies h) tt
  step_sound p d (InstKind.atomic_load ty q) rest cps l r h = rw (← same_copies h) tt
  step_sound p d (InstKind.atomic_store ty v q) rest cps l r h = rw (← same_copies h) tt
  step_sound p d (InstKind.cmpxchg ty q x y) rest cps l r h = rw (← same_copies h) tt
  step_sound p d (InstKind.extract_value v i) rest cps l r h = rw (← same_copies h) tt
  step_sound p d InstKind.fence rest cps l r h = rw (← same_copies h) tt

  copies_sound : (p : ℕ) (is : List Inst) (cps : List Copy) → Each (InstLimits (count c)) is → copies c p is ≡ ok cps → Each Sound cps
  unfolding copies
  copies_sound p [] cps l h = rw (← same_copies h) tt
  copies_sound p (i ∷ is) cps l h = step_sound p i.dest i.kind (copies c p is) cps l.0 (λ ds e. copies_sound p is ds l.1 e) h

  push_copy_lem : (cp : Copy) → Sound cp → Fine b c w (push_copy c cp)
  unfolding push_copy
  push_copy_lem cp h = typed_allows b c w cp.ty cp.val h.1

  set_copy_lem : (cp : Copy) → Sound cp → Fine b c w (set_copy c cp)
  unfolding set_copy
  set_copy_lem cp h = let p = h.0 in set_slot b c w cp.slot (omega arith)

  copies_allows : (p s : ℕ) → Fine b c w (emit_edge_copies c p s)
  unfolding emit_edge_copies
  copies_allows p s =
      bind_allows _ _ _ _ (λ bb e. bind_allows _ _ _ _ (λ cps f.
      let sound = copies_sound p bb.insts cps (w.blocks s bb (ok_some 17 _ bb e)).1.0 f in
      then_allows _ _ _ _ (each_allows _ b Sound (push_copy c) push_copy_lem cps sound) (each_allows _ b Sound (set_copy c) set_copy_lem (reverse cps) (each_reverse Sound cps [] sound tt))))

  edge_allows : (p s : ℕ) → s < count c → Fine b c w (edge c p s)
  unfolding edge allowed
  edge_allows p s h = then_allows _ _ _ _ (copies_allows p s) (line_allows _ b _ (is_name_lem b c w s h))

  -- ---- `gen_term`
  leave_allows : Fine b c w (emit_frame_leave c)
  unfolding emit_frame_leave
  leave_allows = search (plain, base_line)

  ret_value_allows : (v : Option TypedVal) → Maybe (TypedLimits (count c)) v → Fine b c w (ret_value c v)
  unfolding ret_value
  ret_value_allows none h = search plain
  ret_value_allows (some tv) h = typed_allows b c w tv.ty tv.val h.1

  ret_allows : (v : Option TypedVal) → Maybe (TypedLimits (count c)) v → Fine b c w (gen_ret c v)
  unfolding gen_ret
  ret_allows v h = search (plain, ret_value_allows, leave_allows)

  false_name : (f : Option ℕ) (x : ℕ) → Maybe (NameLimits (count c)) f → f ≡ some x → x < count c
  false_name none x h e = absurd (let z : ◌≡◌ {A = ℕ} 0 1 = cc in omega arith)
  false_name (some y) x h e = let q : y ≡ x = cc in rw q at h

  br_allows : (p : ℕ) (v : Option Value) (t : ℕ) (f : Option ℕ) → Maybe (ValueLimits (count c)) v → t < count c → Maybe (NameLimits (count c)) f → Fine b c w (gen_br c p v t f)
  unfolding gen_br gen_cond_br
  br_allows p none t f h i k = edge_allows p t i
  br_allows p (some v) t f h i k =
      bind_allows _ _ _ _ (λ l e.
      let to = edge_allows p l (false_name f l k (ok_some 19 f l e)) in
      then_allows _ _ _ _ (push_allows b c w v 1 h) (fresh_allows _ _ _ (λ m. search (plain, edge_allows))))

  tests_allows : (wd : ℕ) (v : Value) (l : ℕ) (ks : List Case) → Value' b c w v → Fine b c w (case_tests c wd v l ks)
  unfolding case_tests
  tests_allows wd v l [] h = skip_allows _ b
  tests_allows wd v l (k ∷ ks) h = step (tests_allows wd v (suc l) ks h)
    where
      step : Fine b c w (case_tests c wd v (suc l) ks) → Fine b c w (case_tests c wd v l (k ∷ ks))
      step rest = search (plain, push_allows, int_allows) depth 9

  case_edges_allows : (p l : ℕ) (ks : List Case) → Each (CaseLimits (count c)) ks → Fine b c w (case_edges c p l ks)
  unfolding case_edges
  case_edges_allows p l [] h = skip_allows _ b
  case_edges_allows p l (k ∷ ks) h = step (case_edges_allows p (suc l) ks h.1)
    where
      step : Fine b c w (case_edges c p (suc l) ks) → Fine b c w (case_edges c p l (k ∷ ks))
      step rest = let to = edge_allows p k.label h.0 in search plain

  switch_allows : (p : ℕ) (ty : Ty) (v : Value) (d : ℕ) (ks : List Case) → Value' b c w v → d < count c → Each (CaseLimits (count c)) ks → Fine b c w (gen_switch c p ty v d ks)
  unfolding gen_switch
  switch_allows p ty v d ks h i k = any_allows _ _ _ _ (λ wd. reserve_allows _ _ _ _ (λ l. search (plain, tests_allows, edge_allows, case_edges_allows)))

  term_allows : (p : ℕ) (t : Terminator) → TermLimits (count c) t → Fine b c w (gen_term c p t)
  unfolding gen_term
  term_allows p (Terminator.ret v) h = ret_allows v h.0
  term_allows p (Terminator.br v t f) h = br_allows p v t f h.0 h.1.0 h.1.1.0
  term_allows p (Terminator.switch ty v d ks) h = switch_allows p ty v d ks h.1.0 h.1.1.0 h.1.1.1.0
  term_allows p Terminator.unreachable h = search plain

  -- ---- a block
  pub block_allows : (bb : BasicBlock) → BlockLimits (count c) bb → Fine b c w (gen_block c bb)
  unfolding gen_block allowed
  block_allows bb h =
      then_allows _ _ _ _ (line_allows _ b _ (is_name_lem b c w bb.label h.0))
      (then_allows _ _ _ _ (each_allows _ b (InstLimits (count c)) (gen_inst c) inst_allows bb.insts h.1.0) (term_allows bb.label bb.term h.1.1))

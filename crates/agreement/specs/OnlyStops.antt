-- A function that can be measured stops for document 01's reasons alone.
use Prim.Native.Nat.{ℕ, zero, suc}
use Rattle.std.proofs.Math.Option.{Option, none, some}
use mathlib.Core.List.{List, [], ◌∷◌}
use Rattle.book.specs.Ast.{Ty, Value, TypedVal, InstKind, BasicBlock, Inst, StructBody}
use Rattle.book.specs.Rule.{find}
use Rattle.layout.specs.Step.{const_int}
use Rattle.layout.specs.Frame.{count_of}
use Rattle.machine.specs.Memory.{Memory}
use Rattle.manual.specs.Stop.{Stop}
use Rattle.manual.specs.State.{Given, Source}
use Rattle.manual.specs.Gep.{index_at, index, over_elements, over_fields, into, offset_in, offset}
use Rattle.manual.specs.Inst.{eval_gep, run_load, run_store, run_cmpxchg, count_in, run_varying, run_place, run_alloca, run_kind, run_inst, run_insts}
use Rattle.manual.specs.Term.{Stand, body}
use Rattle.manual.specs.Run.{run_block, go, run, first_block, begin}
use Rattle.manual.specs.Measured.{Sized, Aligned, Offset, MeasuredStep, MeasuredWay, MeasuredIndices, MeasuredPlace, Measured}
use Rattle.manual.specs.GoesOn.{AllMeasured}
use Rattle.manual.proofs.ExactGep.{const_is, into_leads}
use Rattle.manual.proofs.ExactInst.{stated_go}
use Rattle.manual.proofs.Progress.{Sizes, body_sizes, each_find}
use Rattle.agreement.specs.Operand.{ok_or_some}
use Rattle.agreement.specs.Only.{Only, O-ok, O-stop, O-bind, O-then, O-known, O-need, O-okOr, width_only, integer_only, value_only, typed_only, eval_bin_only, eval_icmp_only, eval_conv_only, eval_select_only, eval_load_only, extract_only, fixed_only, call_only, block_only, term_only}

module _ (g : Given) (σ : Source) where
  -- ---- loads and stores
  load_only : (dest : Option ℕ) (ty : Ty) (p : Value) → Sized g.structs ty → Only (run_load g dest ty p σ)
  unfolding run_load
  load_only dest ty p (n, h) = O-known _ h (O-then _ (width_only ty) λ w. O-then _ (eval_load_only g σ n w p) λ v. O-ok _)

  store_only : (ty : Ty) (v p : Value) → Sized g.structs ty → Only (run_store g ty v p σ)
  unfolding run_store
  store_only ty v p (n, h) = O-known _ h (O-then _ (width_only ty) λ w. O-then _ (value_only g.world σ.env 64 p) λ a. O-then _ (value_only g.world σ.env w v) λ x. O-ok _)

  cmpxchg_only : (dest : Option ℕ) (ty : Ty) (p c x : Value) → Sized g.structs ty → Only (run_cmpxchg g dest ty p c x σ)
  unfolding run_cmpxchg
  cmpxchg_only dest ty p c x (n, h) = O-known _ h (O-then _ (width_only ty) λ w. O-then _ (value_only g.world σ.env 64 p) λ a.
      O-then _ (value_only g.world σ.env w c) λ u. O-then _ (value_only g.world σ.env w x) λ v. O-ok _)

  -- ---- places
  varying_only : (x : ℕ) (ty : Ty) (count : Option TypedVal) (align : Option ℕ) → Sized g.structs ty → Aligned g.structs align ty → Only (run_varying g x ty count align σ)
  unfolding run_varying count_in
  varying_only x ty none align (n, h) a = O-known _ h (O-known _ (stated_go g align ty a).1 (O-then _ (O-ok 1) λ c. O-ok _))
  varying_only x ty (some v) align (n, h) a = O-known _ h (O-known _ (stated_go g align ty a).1 (O-then _ (typed_only g.world σ.env v.ty v.val) λ c. O-ok _))

  place_only : (x : ℕ) (ty : Ty) (count : Option TypedVal) (align : Option ℕ) (fixed : Option ℕ) → MeasuredPlace g x ty fixed align → Only (run_place g fixed x ty count align σ)
  unfolding run_place
  place_only x ty count align (some n) m = fixed_only g x σ
  place_only x ty count align none (s, a) = varying_only x ty count align s a

  alloca_only : (dest : Option ℕ) (ty : Ty) (count : Option TypedVal) (align : Option ℕ) → Measured g dest (InstKind.alloca ty count align) → Only (run_alloca g dest ty count align σ)
  unfolding run_alloca
  alloca_only dest ty count align (x, d, m) = rw d (place_only x ty count align (count_of count) m)

  -- ---- getelementptr
  index_only : (i : TypedVal) → Only (index g.world g.structs σ.env i)
  unfolding index index_at
  index_only i = O-then _ (width_only i.ty) λ w. at w (const_int i.val)
    where
      at : (w : ℕ) (c : Option ℕ) → Only (index_at g.world g.structs σ.env w i.val c)
      at w none = O-then _ (value_only g.world σ.env w i.val) λ x. O-ok _
      at w (some c) = O-then _ (O-need _ Stop.index_range) λ _. O-ok c

  elements_only : (ty : Ty) (i : TypedVal) → Sized g.structs ty → Only (over_elements g.world g.structs σ.env ty i)
  unfolding over_elements
  elements_only ty i (n, h) = O-known _ h (O-then _ (index_only i) λ x. O-ok _)

  fields_only : (b : StructBody) (i : TypedVal) → Offset g.structs b i.val → Only (over_fields g.world g.structs σ.env b i)
  unfolding over_fields
  fields_only b i m = O-then _ (index_only i) λ n. O-bind _ (O-okOr Stop.ill_formed (const_int i.val)) λ k e. O-then _ (O-okOr Stop.ill_formed _) λ next.
      O-known _ (m k (const_is i.val k (ok_or_some _ (const_int i.val) k e))).1 (O-ok _)

  into_only : (ty : Ty) (i : TypedVal) → MeasuredStep g.structs ty i.val → Only (into g.world g.structs σ.env ty i)
  unfolding into
  into_only (Ty.struct p ts) i m = fields_only (record { packed = p; fields = ts }) i m
  into_only (Ty.named_struct x) i (b, h, m) = O-known _ h (fields_only b i m)
  into_only (Ty.array p n elem) i m = O-then _ (elements_only elem i m) λ off. O-ok _
  into_only Ty.void i m = O-stop Stop.ill_formed
  into_only Ty.ptr i m = O-stop Stop.ill_formed
  into_only (Ty.int v) i m = O-stop Stop.ill_formed
  into_only (Ty.sizeless z) i m = O-stop Stop.ill_formed

  rest_only : (ty : Ty) (is : List TypedVal) → MeasuredWay g.structs ty is → Only (offset_in g.world g.structs σ.env ty is)
  unfolding offset_in
  rest_only ty [] m = O-ok 0
  rest_only ty (i ∷ is) (m, ms) = O-bind _ (into_only ty i m) λ p e. O-then _ (rest_only p.1 is (ms p.1 (into_leads g σ ty i p e))) λ r. O-ok _

  offset_only : (ty : Ty) (is : List TypedVal) → MeasuredIndices g.structs ty is → Only (offset g.world g.structs σ.env ty is)
  unfolding offset
  offset_only ty [] m = O-ok 0
  offset_only ty (i ∷ is) (m, ms) = O-then _ (elements_only ty i m) λ off. O-then _ (rest_only ty is ms) λ r. O-ok _

  -- ---- an instruction
  kind_only : (dest : Option ℕ) (k : InstKind) → Measured g dest k → Only (run_kind g dest k σ)
  unfolding run_kind eval_gep
  kind_only dest (InstKind.bin op ty a b) m = O-then _ (integer_only ty) λ w. O-then _ (eval_bin_only g σ op w a b) λ v. O-ok _
  kind_only dest (InstKind.conv op from v to) m = O-then _ (width_only from) λ fw. O-then _ (width_only to) λ tw. O-then _ (eval_conv_only g σ op fw tw v) λ x. O-ok _
  kind_only dest (InstKind.icmp p ty a b) m = O-then _ (width_only ty) λ w. O-then _ (eval_icmp_only g σ p w a b) λ v. O-ok _
  kind_only dest (InstKind.select c ty a b) m = O-then _ (width_only ty) λ w. O-then _ (eval_select_only g σ w c a b) λ v. O-ok _
  kind_only dest (InstKind.load ty p align) m = load_only dest ty p m
  kind_only dest (InstKind.store ty v p align) m = store_only ty v p m
  kind_only dest (InstKind.alloca ty count align) m = alloca_only dest ty count align m
  kind_only dest (InstKind.get_element_ptr ty p is) m = O-then _ (O-then _ (value_only g.world σ.env 64 p) λ a. O-then _ (offset_only ty is m) λ off. O-ok _) λ a. O-ok _
  kind_only dest (InstKind.call ty v as') m = call_only g dest ty v as' σ
  kind_only dest (InstKind.phi ty is) m = O-stop Stop.ill_formed
  kind_only dest (InstKind.freeze ty v) m = O-then _ (width_only ty) λ w. O-then _ (value_only g.world σ.env w v) λ x. O-ok _
  kind_only dest (InstKind.atomic_load ty p) m = load_only dest ty p m
  kind_only dest (InstKind.atomic_store ty v p) m = store_only ty v p m
  kind_only dest (InstKind.cmpxchg ty p c n) m = cmpxchg_only dest ty p c n m
  kind_only dest (InstKind.extract_value v k) m = extract_only g dest v k σ
  kind_only dest InstKind.fence m = O-ok σ

module _ (g : Given) where
  -- ---- a block
  run_insts_only : (is : List Inst) → Sizes g is → (σ : Source) → Only (run_insts g is σ)
  unfolding run_insts run_inst
  run_insts_only [] m σ = O-ok σ
  run_insts_only (i ∷ is) (m, ms) σ = O-then _ (kind_only g σ i.dest i.kind m) λ τ. run_insts_only is ms τ

  -- ---- the run
  module _ (measured : AllMeasured g) where
    block_run_only : (b : ℕ) (σ : Source) → Only (run_block g b σ)
    unfolding run_block
    block_run_only b σ = O-bind _ (block_only g b) λ k h.
        let sizes = each_find (λ y. Sizes g y.insts) b k g.function.blocks measured (ok_or_some _ (find (λ (y : BasicBlock). y.label) b g.function.blocks) k h) in
        O-then _ (run_insts_only (body k.insts) (body_sizes g k.insts sizes) σ) λ τ. term_only g k.label k.term τ

    pub run_only : (n : ℕ) (t : Stand) → Only (run g n t)
    unfolding run go
    run_only zero t = O-ok t
    run_only (suc n) (Stand.at b σ) = O-then _ (block_run_only b σ) λ t. run_only n t
    run_only (suc n) (Stand.gave v σ) = O-then _ (O-ok _) λ t. run_only n t

  pub begin_only : (args : List ℕ) (m : Memory) → Only (begin g args m)
  unfolding begin first_block
  begin_only args m = O-then _ (first_only g.function.blocks) λ b. O-ok _
    where
      first_only : (bs : List BasicBlock) → Only (first_block bs)
      first_only [] = O-stop Stop.no_block
      first_only (b ∷ bs) = O-ok _

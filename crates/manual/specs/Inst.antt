-- What an instruction does to the source's state.
use Rattle.std.specs.Prelude.{ℕ, zero, suc, ◌+◌, ◌-◌, ◌*◌, ◌%◌, ◌^◌, max, cond, not, List, [], ◌∷◌, eqb, ltb}
use Rattle.std.proofs.Math.Option.{Option, none, some}
use Rattle.std.specs.Int.Bits.{bit_and}
use Rattle.book.specs.Ast.{Ty, Value, TypedVal, BinOp, ConvOp, ICmpPred, InstKind, Inst}
use Rattle.book.specs.Result.{Result, ok, bind as ◌>>=◌, ok_or}
use Rattle.layout.specs.Layout.{align_of, size_of}
use Rattle.machine.specs.Memory.{peek, poke}
use Rattle.manual.specs.Stop.{Stop, stops, stop_number, need}
use Rattle.manual.specs.Values.{bin_value, icmp_value, conv_value, conv_widths}
use Rattle.manual.specs.State.{Cell, Given, Source, set_env, set_world, set_stack, assign, put, is_set}
use Rattle.manual.specs.Operand.{width_of, integer_width, value, typed}
use Rattle.manual.specs.Gep.{offset}
use Rattle.manual.specs.Call.{run_call}
use Rattle.book.specs.Map.{lookup}
use Rattle.layout.specs.Frame.{count_of, framed}

-- the parts of a cmpxchg's result. "'extractvalue' Instruction": the operand is "of struct or array type", and "all indices must be in bounds"
unfoldable pub part : (index : ℕ) → Cell → Result Cell
part k (Cell.one w n) = stops Stop.ill_formed
part zero (Cell.two w a b) = ok (Cell.one w a)
part (suc zero) (Cell.two w a b) = ok (Cell.one 1 b)
part (suc (suc k)) (Cell.two w a b) = stops Stop.ill_formed

-- the next address of a varying place, by the Rust's formula: rounded up to a multiple of the alignment, at least 8
unfoldable pub place_above : (sp align : ℕ) → ℕ
place_above sp a = bit_and ((sp + (max a 8 - 1)) % 2 ^ 64) (2 ^ 64 - max a 8)

module _ (g : Given) where
  abbrev pub read : Source → (w : ℕ) → Value → Result ℕ
  read σ = value g.world σ.env

  unfoldable pub eval_bin : Source → BinOp → (w : ℕ) → (lhs rhs : Value) → Result ℕ
  eval_bin σ op w a b = do
    x ← read σ w a
    y ← read σ w b
    bin_value op w x y

  unfoldable pub eval_icmp : Source → ICmpPred → (w : ℕ) → (lhs rhs : Value) → Result ℕ
  eval_icmp σ p w a b = do
    x ← read σ w a
    y ← read σ w b
    ok (cond (icmp_value p w x y) 1 0)

  unfoldable pub eval_conv : Source → ConvOp → (fw tw : ℕ) → Value → Result ℕ
  eval_conv σ op fw tw v = do
    x ← read σ fw v
    _ ← need (conv_widths op fw tw) Stop.ill_formed
    ok (conv_value op fw tw x)

  -- "If the condition is an i1 and it evaluates to 1, the instruction returns the first value argument; otherwise .. the second": the side it takes
  unfoldable pub eval_select : Source → (w : ℕ) → (cond tval fval : Value) → Result ℕ
  eval_select σ w c a b = do
    t ← read σ 1 c
    cond (eqb t 0) (read σ w b) (read σ w a)

  unfoldable pub eval_gep : Source → Ty → Value → List TypedVal → Result ℕ
  eval_gep σ ty p is = do
    a ← read σ 64 p
    off ← offset g.world g.structs σ.env ty is
    ok ((a + off) % 2 ^ 64)

  -- n bytes; "an i1 load of a byte above 1" has no value
  unfoldable pub eval_load : Source → (n w : ℕ) → Value → Result ℕ
  eval_load σ n w p = do
    a ← read σ 64 p
    _ ← need (ltb (peek n σ.memory a) (2 ^ w)) Stop.load_range
    ok (peek n σ.memory a)

  unfoldable pub run_load : Option ℕ → Ty → Value → Source → Result Source
  run_load dest ty p σ = do
    n ← size_of g.structs ty
    w ← width_of ty
    v ← eval_load σ n w p
    ok (put dest w v σ)

  unfoldable pub run_store : Ty → (val ptr : Value) → Source → Result Source
  run_store ty v p σ = do
    n ← size_of g.structs ty
    w ← width_of ty
    a ← read σ 64 p
    x ← read σ w v
    ok (set_world σ (poke n σ.memory a x) σ.calls)

  -- "The contents of memory at the location specified by the pointer operand is read and compared to cmp; if the values are equal, new is written"
  unfoldable pub run_cmpxchg : Option ℕ → Ty → (ptr cmp new : Value) → Source → Result Source
  run_cmpxchg dest ty p c x σ = do
    n ← size_of g.structs ty
    w ← width_of ty
    a ← read σ 64 p
    u ← read σ w c
    v ← read σ w x
    let old : ℕ = peek n σ.memory a in
        ok (set_env (set_world σ (cond (eqb old u) (poke n σ.memory a v) σ.memory) σ.calls)
        (assign dest (Cell.two w old (cond (eqb old u) 1 0)) σ.env))

  unfoldable pub run_extract : Option ℕ → Value → (index : ℕ) → Source → Result Source
  run_extract dest (Value.local x) k σ = do
    c ← ok_or (stop_number Stop.unset) (σ.env x)
    d ← part k c
    ok (set_env σ (assign dest d σ.env))
  run_extract dest (Value.global x) k σ = stops Stop.ill_formed
  run_extract dest (Value.int v) k σ = stops Stop.ill_formed
  run_extract dest (Value.zero z) k σ = stops Stop.aggregate
  run_extract dest Value.other k σ = stops Stop.ill_formed

  -- ---- places on the stack: "alloca addresses, fixed and varying, by the Rust's formula"
  unfoldable pub run_fixed : (name : ℕ) → Source → Result Source
  run_fixed x σ = do
    _ ← need (framed g.frame) Stop.place_empty
    _ ← need (not (is_set (σ.env x))) Stop.place_twice
    off ← ok_or (stop_number Stop.ill_formed) (lookup x g.frame.offsets)
    ok (put (some x) 64 ((g.base + off) % 2 ^ 64) σ)

  unfoldable pub stated : Option ℕ → Ty → Result ℕ
  stated (some a) ty = ok a
  stated none ty = align_of g.structs ty

  unfoldable pub count_in : Source → Option TypedVal → Result ℕ
  count_in σ none = ok 1
  count_in σ (some n) = typed g.world σ.env n.ty n.val

  unfoldable pub run_varying : (name : ℕ) → Ty → Option TypedVal → Option ℕ → Source → Result Source
  run_varying x ty count align σ = do
    size ← size_of g.structs ty
    a ← stated align ty
    n ← count_in σ count
    ok (put (some x) 64 (place_above σ.sp a) (set_stack σ ((place_above σ.sp a + n * size) % 2 ^ 64)))

  -- a place is fixed where its count is absent or an integer
  unfoldable pub run_place : (fixed : Option ℕ) → (name : ℕ) → Ty → Option TypedVal → Option ℕ → Source → Result Source
  run_place (some n) x ty count align σ = run_fixed x σ
  run_place none x ty count align σ = run_varying x ty count align σ

  unfoldable pub run_alloca : Option ℕ → Ty → Option TypedVal → Option ℕ → Source → Result Source
  run_alloca none ty count align σ = stops Stop.ill_formed
  run_alloca (some x) ty count align σ = run_place (count_of count) x ty count align σ

  unfoldable pub run_kind : Option ℕ → InstKind → Source → Result Source
  run_kind dest (InstKind.bin op ty a b) σ = do
    w ← integer_width ty
    v ← eval_bin σ op w a b
    ok (put dest w v σ)
  run_kind dest (InstKind.conv op from v to) σ = do
    fw ← width_of from
    tw ← width_of to
    x ← eval_conv σ op fw tw v
    ok (put dest tw x σ)
  run_kind dest (InstKind.icmp p ty a b) σ = do
    w ← width_of ty
    v ← eval_icmp σ p w a b
    ok (put dest 1 v σ)
  run_kind dest (InstKind.select c ty a b) σ = do
    w ← width_of ty
    v ← eval_select σ w c a b
    ok (put dest w v σ)
  run_kind dest (InstKind.load ty p align) σ = run_load dest ty p σ
  run_kind dest (InstKind.store ty v p align) σ = run_store ty v p σ
  run_kind dest (InstKind.alloca ty count align) σ = run_alloca dest ty count align σ
  run_kind dest (InstKind.get_element_ptr ty p is) σ = do
    a ← eval_gep σ ty p is
    ok (put dest 64 a σ)
  run_kind dest (InstKind.call ty callee args) σ = run_call g dest ty callee args σ
  -- "There must be no non-phi instructions between the start of a basic block and the PHI instructions": the leading ones are taken on the edge, and one that
  -- is met here is ill-formed
  run_kind dest (InstKind.phi ty incoming) σ = stops Stop.ill_formed
  -- undef and poison are 0 as operands, so what is frozen is what is read
  run_kind dest (InstKind.freeze ty v) σ = do
    w ← width_of ty
    x ← read σ w v
    ok (put dest w x σ)
  -- one thread: an atomic access is an access
  run_kind dest (InstKind.atomic_load ty p) σ = run_load dest ty p σ
  run_kind dest (InstKind.atomic_store ty v p) σ = run_store ty v p σ
  run_kind dest (InstKind.cmpxchg ty p c n) σ = run_cmpxchg dest ty p c n σ
  run_kind dest (InstKind.extract_value a k) σ = run_extract dest a k σ
  run_kind dest InstKind.fence σ = ok σ

  unfoldable pub run_inst : Inst → Source → Result Source
  run_inst i σ = run_kind i.dest i.kind σ

  unfoldable pub run_insts : List Inst → Source → Result Source
  run_insts [] σ = ok σ
  run_insts (i ∷ is) σ = do
    τ ← run_inst i σ
    run_insts is τ

-- opens every definition of this file, for an example that computes
unfoldable pub open_inst : Unit {0}
unfolding part place_above eval_bin eval_icmp eval_conv eval_select eval_gep eval_load run_load run_store run_cmpxchg run_extract run_fixed stated count_in run_varying run_place run_alloca run_kind run_inst run_insts
open_inst = tt

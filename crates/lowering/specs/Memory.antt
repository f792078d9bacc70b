-- codegen.rs: loads and stores, `alloca`, atomics, `gen_cmpxchg`, `gen_extractvalue`.
use Rattle.std.specs.Prelude.{ℕ, ◌+◌, ◌-◌, ◌^◌, max, not, eqb, ltb}
use Rattle.std.proofs.Math.Option.{Option, none, some}
use Rattle.book.specs.Ast.{Ty, Value, TypedVal, BinOp, ICmpPred}
use Rattle.book.specs.Rule.{pick}
use Rattle.book.specs.Result.{Result, ok, ok_or}
use Rattle.layout.specs.Layout.{size_of, align_of}
use Rattle.assembly.specs.Line.{Line, Work, Mem}
use Rattle.lowering.specs.Gen.{Gen, line, refuse, ◌>>=◌, ◌>>◌, when}
use Rattle.lowering.specs.Context.{FnCtx, slot_of}
use Rattle.lowering.specs.Operand.{push_int, push_value, push_typed, store_dest, add64, mul64}
use Rattle.book.specs.Map.{lookup}

-- the width of a load or store of so many bytes
unfoldable pub mem_of : ℕ → Option Mem
mem_of n = pick (eqb n 1) (some Mem.m8) (pick (eqb n 2) (some Mem.m16) (pick (eqb n 4) (some Mem.m32) (pick (eqb n 8) (some Mem.m64) none)))

module _ (c : FnCtx) where
  unfoldable pub gen_load : Ty → (ptr : Value) → Gen
  gen_load ty ptr = do
    n ← size_of c.codegen.structs ty
    m ← ok_or 11 (mem_of n)
    push_value c ptr 64
    line (Line.load m)

  unfoldable pub gen_store : Ty → (val ptr : Value) → Gen
  gen_store ty val ptr = do
    n ← size_of c.codegen.structs ty
    m ← ok_or 11 (mem_of n)
    push_value c ptr 64
    push_typed c ty val
    line (Line.store m)

  -- ---- `gen_dynamic_alloca`
  -- "a stated align counts only for a varying count"
  unfoldable pub align_or : Option ℕ → Ty → Result ℕ
  align_or (some a) ty = ok a
  align_or none ty = align_of c.codegen.structs ty

  unfoldable pub push_count : Option TypedVal → Gen
  push_count none = push_int 1 64
  push_count (some tv) = push_value c tv.val 64

  unfoldable pub gen_dynamic_alloca : Ty → (count : Option TypedVal) → (align : Option ℕ) → Gen
  gen_dynamic_alloca ty count align = do
    elemSize ← size_of c.codegen.structs ty
    stated ← align_or align ty
    line Line.thread_get
    push_int (max stated 8 - 1) 64
    add64
    push_int (2 ^ 64 - max stated 8) 64
    line (Line.bin BinOp.and Work.w64)
    line Line.dup
    push_count count
    when (not (eqb elemSize 1)) (do
      push_int elemSize 64
      mul64)
    add64
    line Line.thread_set

  -- a fixed place: the frame's base and an offset
  unfoldable pub fixed_place : ℕ → Gen
  fixed_place off = do
    line (Line.get_local c.bp_slot)
    when (not (eqb off 0)) (do
      push_int off 64
      add64)

  unfoldable pub place_of : Option ℕ → Ty → Option TypedVal → Option ℕ → Gen
  place_of (some off) ty count align = fixed_place off
  place_of none ty count align = gen_dynamic_alloca ty count align

  unfoldable pub gen_alloca : Option ℕ → Ty → Option TypedVal → Option ℕ → Gen
  gen_alloca dest ty count align = do
    name ← ok_or 5 dest
    place_of (lookup name c.alloca_offsets) ty count align
    store_dest c (some name)

  -- ---- atomics
  -- `require_atomic_width`
  unfoldable pub require_atomic_width : Ty → Gen
  require_atomic_width ty = do
    n ← size_of c.codegen.structs ty
    when (not (eqb n 8)) (refuse 12)

  unfoldable pub gen_atomic_load : Ty → (ptr : Value) → Gen
  gen_atomic_load ty ptr = do
    require_atomic_width ty
    push_value c ptr 64
    line Line.atomic_load

  unfoldable pub gen_atomic_store : Ty → (val ptr : Value) → Gen
  gen_atomic_store ty val ptr = do
    require_atomic_width ty
    push_value c ptr 64
    push_value c val 64
    line Line.atomic_store

  -- `gen_cmpxchg`
  unfoldable pub gen_cmpxchg : (ptr cmp new : Value) → Option ℕ → Gen
  gen_cmpxchg ptr cmp new dest = do
    base ← slot_of c dest
    push_value c ptr 64
    push_value c cmp 64
    push_value c new 64
    line Line.atomic_cas
    line Line.dup
    line (Line.set_local base)
    push_value c cmp 64
    line (Line.icmp ICmpPred.eq Work.w64)
    line (Line.set_local (base + 1))

  -- ---- `gen_extractvalue`
  unfoldable pub agg_slot : Value → Option ℕ
  agg_slot (Value.local x) = lookup x c.slots
  agg_slot (Value.global x) = none
  agg_slot (Value.int v) = none
  agg_slot (Value.zero z) = none
  agg_slot Value.other = none

  unfoldable pub gen_extract_value : (agg : Value) → (index : ℕ) → Option ℕ → Gen
  gen_extract_value agg index dest = do
    base ← ok_or 16 (agg_slot agg)
    when (ltb 1 index) (refuse 16)
    line (Line.get_local (base + index))
    store_dest c dest

-- opens every definition of this file, for an example that computes
unfoldable pub open_memory : Unit {0}
unfolding mem_of gen_load gen_store align_or push_count gen_dynamic_alloca fixed_place place_of gen_alloca require_atomic_width gen_atomic_load gen_atomic_store gen_cmpxchg agg_slot gen_extract_value
open_memory = tt

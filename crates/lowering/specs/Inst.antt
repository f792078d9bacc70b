-- codegen.rs: `gen_inst`.
use Rattle.std.specs.Prelude.{ℕ}
use Rattle.std.proofs.Math.Option.{Option}
use Rattle.book.specs.Ast.{InstKind, Inst}
use Rattle.lowering.specs.Gen.{Gen, skip, ◌>>◌}
use Rattle.lowering.specs.Context.{FnCtx}
use Rattle.lowering.specs.Operand.{store_dest}
use Rattle.lowering.specs.Arith.{gen_bin, gen_icmp, gen_conv, gen_select, gen_freeze}
use Rattle.lowering.specs.Memory.{gen_load, gen_store, gen_alloca, require_atomic_width, gen_atomic_load, gen_atomic_store, gen_cmpxchg, gen_extract_value}
use Rattle.lowering.specs.Gep.{gen_gep}
use Rattle.lowering.specs.Call.{gen_call}

module _ (c : FnCtx) where
  unfoldable pub gen_kind : Option ℕ → InstKind → Gen
  gen_kind dest (InstKind.bin op ty lhs rhs) = do
    gen_bin c op ty lhs rhs
    store_dest c dest
  gen_kind dest (InstKind.conv op fromTy val toTy) = do
    gen_conv c op fromTy val toTy
    store_dest c dest
  gen_kind dest (InstKind.icmp pred ty lhs rhs) = do
    gen_icmp c pred ty lhs rhs
    store_dest c dest
  gen_kind dest (InstKind.select cond ty tval fval) = do
    gen_select c cond ty tval fval
    store_dest c dest
  gen_kind dest (InstKind.load ty ptr align) = do
    gen_load c ty ptr
    store_dest c dest
  gen_kind dest (InstKind.store ty val ptr align) = gen_store c ty val ptr
  gen_kind dest (InstKind.alloca ty count align) = gen_alloca c dest ty count align
  gen_kind dest (InstKind.get_element_ptr baseTy ptr indices) = do
    gen_gep c baseTy ptr indices
    store_dest c dest
  gen_kind dest (InstKind.call ret_ty callee args) = gen_call c dest ret_ty callee args
  -- the edges set a phi's slot
  gen_kind dest (InstKind.phi ty incoming) = skip
  gen_kind dest (InstKind.atomic_load ty ptr) = do
    gen_atomic_load c ty ptr
    store_dest c dest
  gen_kind dest (InstKind.atomic_store ty val ptr) = gen_atomic_store c ty val ptr
  gen_kind dest (InstKind.cmpxchg ty ptr cmp new) = do
    require_atomic_width c ty
    gen_cmpxchg c ptr cmp new dest
  gen_kind dest (InstKind.extract_value agg index) = gen_extract_value c agg index dest
  gen_kind dest (InstKind.freeze ty val) = do
    gen_freeze c ty val
    store_dest c dest
  gen_kind dest InstKind.fence = skip

  unfoldable pub gen_inst : Inst → Gen
  gen_inst i = gen_kind i.dest i.kind

-- opens every definition of this file, for an example that computes
unfoldable pub open_inst : Unit {0}
unfolding gen_kind gen_inst
open_inst = tt

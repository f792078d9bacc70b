-- What the passes over all instructions look at: the frame pass at allocas, the slots at calls and cmpxchgs, an edge at phis.
use Rattle.std.proofs.Math.Option.{Option}
use Rattle.std.specs.Prelude.{List, [], ◌∷◌, ◌++◌}
use Rattle.book.specs.Ast.{Ty, Value, TypedVal, Incoming, InstKind, Inst, BasicBlock}

pub data Shape : Type 0 where
  alloca : (ty : Ty) → (count : Option TypedVal) → Shape
  phi : (ty : Ty) → (incoming : List Incoming) → Shape
  call : (callee : Value) → Shape
  cmpxchg : Shape
  plain : Shape

unfoldable pub shape : InstKind → Shape
shape (InstKind.alloca ty count align) = Shape.alloca ty count
shape (InstKind.phi ty incoming) = Shape.phi ty incoming
shape (InstKind.call ret_ty callee args) = Shape.call callee
shape (InstKind.cmpxchg ty ptr cmp new) = Shape.cmpxchg
shape (InstKind.bin op ty lhs rhs) = Shape.plain
shape (InstKind.conv op fromTy val toTy) = Shape.plain
shape (InstKind.icmp pred ty lhs rhs) = Shape.plain
shape (InstKind.select cond ty tval fval) = Shape.plain
shape (InstKind.load ty ptr align) = Shape.plain
shape (InstKind.store ty val ptr align) = Shape.plain
shape (InstKind.get_element_ptr baseTy ptr indices) = Shape.plain
shape (InstKind.freeze ty val) = Shape.plain
shape (InstKind.atomic_load ty ptr) = Shape.plain
shape (InstKind.atomic_store ty val ptr) = Shape.plain
shape (InstKind.extract_value agg index) = Shape.plain
shape InstKind.fence = Shape.plain

-- the instructions of all blocks, in order
unfoldable pub all_insts : List BasicBlock → List Inst
all_insts [] = []
all_insts (b ∷ bs) = b.insts ++ all_insts bs

-- opens every definition of this file, for an example that computes
unfoldable pub open_shape : Unit {0}
unfolding shape all_insts
open_shape = tt

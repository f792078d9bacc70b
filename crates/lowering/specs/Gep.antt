-- codegen.rs: `gen_gep`. "All GEP constants add up to one `push`, none if the sum is 0; offset sums wrap at 2^64. Varying indices are signed."
use Rattle.std.specs.Prelude.{ℕ, ◌+◌, ◌%◌, ◌^◌, not, List, [], ◌∷◌, ◌++◌, eqb, ltb}
use Rattle.book.specs.Ast.{Ty, Value, TypedVal, StructType}
use Rattle.book.specs.Result.{Result, ok, bind}
use Rattle.layout.specs.Layout.{size_of}
use Rattle.layout.specs.Step.{Step, const_int, stride, gep_step}
use Rattle.lowering.specs.Gen.{Gen, ◌>>=◌, ◌>>◌, when, each}
use Rattle.lowering.specs.Context.{FnCtx}
use Rattle.lowering.specs.Operand.{int_width, emit_sext, push_int, push_value, add64, mul64}

-- a varying index
pub record VarTerm : Type 0 where
  pub val : Value
  pub width : ℕ
  pub stride : ℕ

-- the walk over the indices: `const_off` modulo 2^64, `var_terms` in order, `cur_ty`
pub record Walk : Type 0 where
  pub const_off : ℕ
  pub var_terms : List VarTerm
  pub cur_ty : Ty

unfoldable pub start : Ty → Walk
start baseTy = record { const_off = 0; var_terms = []; cur_ty = baseTy }

unfoldable pub var_term : TypedVal → (width stride : ℕ) → VarTerm
var_term idx w s = record { val = idx.val; width = w; stride = s }

-- a step taken
unfoldable pub took : Step → TypedVal → Walk → Result Walk
took (Step.const off next) idx w = ok (record { const_off = (w.const_off + off) % 2 ^ 64; var_terms = w.var_terms; cur_ty = next })
took (Step.var s next) idx w = bind (int_width idx.ty) (λ iw. ok (record { const_off = w.const_off; var_terms = w.var_terms ++ (var_term idx iw s ∷ []); cur_ty = next }))

module _ (structs : List StructType) where
  -- the first index strides over the base type
  unfoldable pub first_step : Ty → Value → Result Step
  first_step baseTy idx = bind (size_of structs baseTy) (λ size. ok (stride size baseTy (const_int idx)))

  unfoldable pub walk_rest : List TypedVal → Walk → Result Walk
  walk_rest [] w = ok w
  walk_rest (idx ∷ is) w = bind (gep_step structs w.cur_ty idx.val) (λ s. bind (took s idx w) (walk_rest is))

  unfoldable pub walk : Ty → List TypedVal → Result Walk
  walk baseTy [] = ok (start baseTy)
  walk baseTy (idx ∷ is) = bind (first_step baseTy idx.val) (λ s. bind (took s idx (start baseTy)) (walk_rest is))

module _ (c : FnCtx) where
  unfoldable pub gen_var_term : VarTerm → Gen
  gen_var_term t = do
    push_value c t.val t.width
    when (ltb t.width 64) (emit_sext t.width 64)
    push_int t.stride 64
    mul64
    add64

  unfoldable pub gen_gep : Ty → (ptr : Value) → List TypedVal → Gen
  gen_gep baseTy ptr indices = do
    w ← walk c.codegen.structs baseTy indices
    push_value c ptr 64
    each gen_var_term w.var_terms
    when (not (eqb w.const_off 0)) (do
      push_int w.const_off 64
      add64)

-- opens every definition of this file, for an example that computes
unfoldable pub open_gep : Unit {0}
unfolding start var_term took first_step walk_rest walk gen_var_term gen_gep
open_gep = tt

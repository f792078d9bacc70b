-- codegen.rs: `gen_call`, `gen_syscall`, `gen_memcmp_call`, and which of them a callee takes.
use Rattle.std.specs.Prelude.{ℕ, Bool, true, false, not, ◌||◌, List, length, ltb}
use Rattle.std.proofs.Math.Option.{Option}
use Rattle.names.specs.Name.{name_at}
use Rattle.names.specs.Spelling.{is_syscall, is_bcmp, is_memcmp}
use Rattle.book.specs.Ast.{Ty, Value, TypedVal}
use Rattle.book.specs.Decode.{member}
use Rattle.assembly.specs.Line.{Line}
use Rattle.lowering.specs.Gen.{Gen, line, refuse, ◌>>◌, when, choose, each}
use Rattle.lowering.specs.Context.{FnCtx}
use Rattle.lowering.specs.Operand.{push_value, push_typed, store_or_pop}

-- whether a type is void
unfoldable pub is_void : Ty → Bool
is_void Ty.void = true
is_void Ty.ptr = false
is_void (Ty.sizeless s) = false
is_void (Ty.int w) = false
is_void (Ty.array p n t) = false
is_void (Ty.named_struct x) = false
is_void (Ty.struct p ts) = false

module _ (c : FnCtx) where
  unfoldable pub push_arg : TypedVal → Gen
  push_arg a = push_typed c a.ty a.val

  unfoldable pub push_args : List TypedVal → Gen
  push_args = each push_arg

  -- the target, behind its arguments
  unfoldable pub call_target : Value → (args : ℕ) → Gen
  call_target (Value.global x) args = do
    when (not (member x c.codegen.defined)) (refuse 15)
    line (Line.call x args)
  call_target (Value.local x) args = do
    push_value c (Value.local x) 64
    line (Line.call_fp args)
  call_target (Value.int v) args = refuse 15
  call_target (Value.zero z) args = refuse 15
  call_target Value.other args = refuse 15

  -- `gen_call`
  unfoldable pub gen_plain_call : Option ℕ → (callee : Value) → List TypedVal → Gen
  gen_plain_call dest callee args = do
    when (ltb 255 (length args)) (refuse 15)
    push_args args
    call_target callee (length args)
    store_or_pop c dest

  -- `gen_syscall`: a void one pushes nothing
  unfoldable pub gen_syscall : Option ℕ → (name : ℕ) → (ret_ty : Ty) → List TypedVal → Gen
  gen_syscall dest name ret_ty args = do
    push_args args
    line (Line.syscall name)
    when (not (is_void ret_ty)) (store_or_pop c dest)

  -- `gen_memcmp_call`
  unfoldable pub gen_memcmp_call : Option ℕ → List TypedVal → Gen
  gen_memcmp_call dest args = do
    push_args args
    line Line.sys_memcmp
    store_or_pop c dest

  -- a call of a global with this spelling
  unfoldable pub call_named : List ℕ → Option ℕ → (name : ℕ) → Ty → List TypedVal → Gen
  call_named spelling dest x ret_ty args =
      choose (is_syscall spelling) (gen_syscall dest x ret_ty args)
      (choose (is_bcmp spelling || is_memcmp spelling) (gen_memcmp_call dest args)
      (gen_plain_call dest (Value.global x) args))

  unfoldable pub gen_call : Option ℕ → (ret_ty : Ty) → (callee : Value) → List TypedVal → Gen
  gen_call dest ret_ty (Value.global x) args = call_named (name_at c.codegen.names x) dest x ret_ty args
  gen_call dest ret_ty (Value.local x) args = gen_plain_call dest (Value.local x) args
  gen_call dest ret_ty (Value.int v) args = gen_plain_call dest (Value.int v) args
  gen_call dest ret_ty (Value.zero z) args = gen_plain_call dest (Value.zero z) args
  gen_call dest ret_ty Value.other args = gen_plain_call dest Value.other args

-- opens every definition of this file, for an example that computes
unfoldable pub open_call : Unit {0}
unfolding is_void push_arg push_args call_target gen_plain_call gen_syscall gen_memcmp_call call_named gen_call
open_call = tt

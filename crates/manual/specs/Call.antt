-- "'call' Instruction", as document 01 lists calls and takes their replies.
use Rattle.std.specs.Prelude.{ℕ, ◌^◌, Bool, true, false, cond, not, ◌&&◌, ◌||◌, List, ◌∷◌, eqb, ltb, length}
use Rattle.std.proofs.Math.Option.{Option, none, some}
use Rattle.names.specs.Name.{name_at}
use Rattle.names.specs.Spelling.{is_syscall, is_bcmp, is_memcmp}
use Rattle.book.specs.Ast.{Ty, Value, TypedVal}
use Rattle.book.specs.Result.{Result, ok, bind as ◌>>=◌}
use Rattle.machine.specs.State.{Target, Call, Reply, Shape, World, memcmp, shape_of, printed_name}
use Rattle.manual.specs.Stop.{Stop, stops, unfit, need}
use Rattle.manual.specs.State.{Env, Given, Source, set_world, put}
use Rattle.manual.specs.Operand.{value, typeds}

-- "a function's or call's result type not integer, pointer or void" stops; void has no width
unfoldable pub result_width : Ty → Result (Option ℕ)
result_width Ty.void = ok none
result_width (Ty.int w) = ok (some w)
result_width Ty.ptr = ok (some 64)
result_width (Ty.sizeless s) = stops Stop.result_type
result_width (Ty.array p n t) = stops Stop.result_type
result_width (Ty.named_struct x) = stops Stop.result_type
result_width (Ty.struct p ts) = stops Stop.result_type

-- "bcmp and memcmp are listed as syscall memcmp, `__uvm_` names without the prefix"
unfoldable pub listed_as : (spelling : List ℕ) → (name : ℕ) → Target
listed_as n x = cond (is_syscall n) (Target.syscall (printed_name n)) (cond (is_bcmp n || is_memcmp n) (Target.syscall memcmp) (Target.function x))

unfoldable pub has_width : Option ℕ → Bool
has_width none = false
has_width (some w) = true

unfoldable pub same_test : Bool → Bool → Bool
same_test a b = cond a b (not b)

-- as many arguments as the shape has, and a result exactly where it has a reply
unfoldable pub shaped : Option Shape → (args : ℕ) → (result : Option ℕ) → Bool
shaped none n r = false
shaped (some s) n r = eqb n s.args && same_test s.replies (has_width r)

unfoldable pub fits_shape : World → Target → (args : ℕ) → (result : Option ℕ) → Bool
fits_shape world (Target.syscall t) n r = shaped (shape_of world t) n r
fits_shape world (Target.function x) n r = true
fits_shape world (Target.address a) n r = true

unfoldable pub fitting : Bool → Source → Result Source
fitting true σ = ok σ
fitting false σ = unfit

-- "replies .. fit their widths". "'call' Instruction": a void call has no value, so one with a name is ill-formed
unfoldable pub receive : (result : Option ℕ) → (dest : Option ℕ) → (cell : ℕ) → Source → Result Source
receive none none cell σ = ok σ
receive none (some x) cell σ = stops Stop.ill_formed
receive (some w) dest cell σ = fitting (ltb cell (2 ^ w)) (put dest w cell σ)

module _ (g : Given) where
  -- "the callee .. is a pointer": a global, or a local's address; other constants are ill-formed as callees
  unfoldable pub target_of : Env → Value → Result Target
  target_of ρ (Value.global x) = ok (listed_as (name_at g.names x) x)
  target_of ρ (Value.local x) = do
    a ← value g.world ρ 64 (Value.local x)
    ok (Target.address a)
  target_of ρ (Value.int v) = stops Stop.ill_formed
  target_of ρ (Value.zero z) = stops Stop.ill_formed
  target_of ρ Value.other = stops Stop.ill_formed

  abbrev pub reply_to : List Call → Reply
  reply_to cs = g.world.replies (length cs)

  -- the state after a call was listed, with the reply's memory
  abbrev pub after_call : Target → List ℕ → Source → Source
  after_call t xs σ = set_world σ (reply_to σ.calls).memory (record { target = t; args = xs } ∷ σ.calls)

  unfoldable pub run_call : (dest : Option ℕ) → (ret_ty : Ty) → (callee : Value) → List TypedVal → Source → Result Source
  run_call dest ret_ty callee args σ = do
    xs ← typeds g.world σ.env args
    t ← target_of σ.env callee
    r ← result_width ret_ty
    _ ← need (fits_shape g.world t (length args) r) Stop.syscall_shape
    receive r dest (reply_to σ.calls).cell (after_call t xs σ)

-- opens every definition of this file, for an example that computes
unfoldable pub open_call : Unit {0}
unfolding result_width listed_as has_width same_test shaped fits_shape fitting receive target_of run_call
open_call = tt

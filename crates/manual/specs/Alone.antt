-- One instruction or terminator run by itself, at a state in which there is an operand of every kind: for the tables over whole ranges.
use Rattle.std.specs.Prelude.{ℕ, Bool, true, false, cond, ◌||◌, List, [], ◌∷◌, map, eqb}
use Rattle.std.proofs.Math.Option.{Option, some}
use Rattle.names.specs.Text.{bytes}
use Rattle.book.specs.Ast.{Ty, Tys, Value, Zero, TypedVal, Sizeless, InstKind, Terminator, BasicBlock, StructType}
use Rattle.book.specs.Result.{Result, ok, err, bind}
use Rattle.layout.specs.Frame.{Places, no_frame}
use Rattle.machine.specs.Cases.{holding, world}
use Rattle.manual.specs.State.{Cell, Env, Given, Source, nothing, with}
use Rattle.manual.specs.Inst.{run_inst}
use Rattle.manual.specs.Term.{Stand, edge, run_term}

-- names 0 and 1 are functions, 2 to 7 are called as syscalls, 8 to 12 are spelled almost so
unfoldable pub names : List (List ℕ)
names =
    map bytes (
    "f" ∷ "g" ∷ "__uvm_put" ∷ "__uvm_ask" ∷ "__uvm_gone" ∷ "__uvm_memcmp" ∷ "memcmp" ∷ "bcmp" ∷ "_uvm_put" ∷ "__uvmput" ∷ "memcmp2" ∷ "abcmp" ∷ "bcm" ∷ []
    )

-- ---- types
unfoldable pub scalars : List Ty
scalars = Ty.int 1 ∷ Ty.int 8 ∷ Ty.int 16 ∷ Ty.int 32 ∷ Ty.int 64 ∷ Ty.ptr ∷ []

-- "struct, packed struct, array or packed array type"; name 5 is a struct
unfoldable pub aggregates : List Ty
aggregates =
    Ty.struct false (Tys.cons (Ty.int 8) Tys.nil) ∷ Ty.struct true (Tys.cons Ty.ptr Tys.nil) ∷ Ty.struct false Tys.nil ∷ Ty.named_struct 5
    ∷ Ty.array false 8 (Ty.int 8) ∷ Ty.array true 1 (Ty.int 64) ∷ Ty.array false 0 Ty.ptr ∷ []

-- types of no value
unfoldable pub valueless : List Ty
valueless = Ty.void ∷ Ty.sizeless Sizeless.func ∷ Ty.sizeless Sizeless.label ∷ Ty.sizeless Sizeless.metadata ∷ []

unfoldable pub structs : List StructType
structs = record { name = 5; body = some (record { packed = false; fields = Tys.cons (Ty.int 64) Tys.nil }) } ∷ []

-- ---- a state: local w is 1 at w bits, local 100 a cmpxchg's result, local 99 is not set; the byte 7 at address 4096
unfoldable pub furnished : Env
furnished = with 1 (Cell.one 1 1) (with 8 (Cell.one 8 1) (with 16 (Cell.one 16 1) (with 32 (Cell.one 32 1) (with 64 (Cell.one 64 1) (with 100 (Cell.two 64 5 1) nothing)))))

unfoldable pub standing : Env → Source
standing ρ = record { env = ρ; memory = holding 4096 7; calls = []; sp = 65536 }

-- a block without instructions
unfoldable pub empty : ℕ → BasicBlock
empty b = record { label = b; insts = []; term = Terminator.unreachable }

-- a function of blocks 7 to 9 and those given
unfoldable pub given : (result : Ty) → Places → List BasicBlock → Given
unfolding names structs empty
given t fr bs = record {
  names = names;
  structs = structs;
  function = record { name = 0; ret_ty = t; params = []; blocks = empty 7 ∷ empty 8 ∷ empty 9 ∷ bs };
  frame = fr;
  world = world;
  base = 65536;
}

-- ---- what an instruction gives its name, 200
unfoldable pub gives : Env → InstKind → Result (Option Cell)
gives ρ k = bind (run_inst (given Ty.void no_frame []) (record { dest = some 200; kind = k }) (standing ρ)) λ σ. ok (σ.env 200)

-- where a terminator of block 7 leads: a block, or back with a value
pub data Went : Type 0 where
  to : (block : ℕ) → Went
  back : (value : ℕ) → Went

unfoldable pub went : Stand → Went
went (Stand.at b σ) = Went.to b
went (Stand.gave v σ) = Went.back v

unfoldable pub ends : (result : Ty) → Env → Terminator → Result Went
unfolding given standing went
ends t ρ r = bind (run_term (given t no_frame []) 7 r (standing ρ)) λ s. ok (went s)

-- the edge from block 7 to a block, 10, that begins with a phi of this type and value
unfoldable pub phi_of : Ty → Value → BasicBlock
phi_of t v = record { label = 10; insts = record { dest = some 200; kind = InstKind.phi t (record { val = v; label = 7 } ∷ []) } ∷ []; term = Terminator.unreachable }

unfoldable pub crosses : Ty → Value → Result Went
crosses t v = bind (edge (given Ty.void no_frame (phi_of t v ∷ [])) 7 10 (standing furnished)) λ s. ok (went s)

-- ---- answers
unfoldable pub among : List ℕ → ℕ → Bool
among [] n = false
among (m ∷ ms) n = eqb m n || among ms n

module _ {A : Type 0} where
  -- 0 where it goes on, else the number (`Stop`): 101 not set, 102 another width, 103 ill-formed, 105 and 106 out of range, 108 an aggregate, 109 the result's type,
  -- 112 the shape of a syscall; 200 where a reply does not fit
  unfoldable pub number : Result A → ℕ
  number (ok a) = 0
  number (err n) = n

  -- 0 for a stop whose reason is one of these, whichever is looked at first
  unfoldable pub for_one_of : List ℕ → Result A → Result A
  for_one_of ns (ok a) = ok a
  for_one_of ns (err n) = err (cond (among ns n) 0 n)

unfoldable pub typed : Ty → Value → TypedVal
typed t v = record { ty = t; val = v }

-- the four operands that are 0
unfoldable pub zeros : List Value
zeros = Value.zero Zero.null ∷ Value.zero Zero.undef ∷ Value.zero Zero.poison ∷ Value.zero Zero.zero_init ∷ []

-- opens every definition of this file, for a table that computes
unfoldable pub open_alone : Unit {0}
unfolding names scalars aggregates valueless structs furnished standing empty given gives went ends phi_of crosses number among for_one_of typed zeros holding world
open_alone = tt

-- Small functions and what they give, run by the manual: one table, one theorem. `agreement` runs their lines.
use Rattle.std.specs.Prelude.{ℕ, ◌+◌, ◌-◌, ◌*◌, ◌^◌, ◌≡◌, refl, false, List, [], ◌∷◌, map}
use Rattle.std.proofs.Math.Option.{Option, none, some}
use Rattle.names.specs.Text.{bytes}
use Rattle.book.specs.Ast.{Ty, Tys, Value, Zero, TypedVal, BinOp, ConvOp, ICmpPred, Incoming, Case, InstKind, Inst, Terminator, BasicBlock, Param, Function}
use Rattle.book.specs.Result.{Result, ok, err}
use Rattle.machine.specs.Memory.{peek}
use Rattle.machine.specs.State.{Target}
use Rattle.machine.specs.Cases.{Summary, holding, world}
use Rattle.manual.specs.Term.{Stand}
use Rattle.manual.specs.Run.{source_run}
use Rattle.manual.specs.Open.{open_manual}

-- ---- short ways to write a function
i1 : Ty
i1 = Ty.int 1

i8 : Ty
i8 = Ty.int 8

i16 : Ty
i16 = Ty.int 16

i32 : Ty
i32 = Ty.int 32

i64 : Ty
i64 = Ty.int 64

-- a named instruction, one without a name, a typed operand, an incoming value
set : ℕ → InstKind → Inst
set x k = record { dest = some x; kind = k }

act : InstKind → Inst
act k = record { dest = none; kind = k }

typed : Ty → Value → TypedVal
typed t v = record { ty = t; val = v }

from : ℕ → Value → Incoming
from b v = record { val = v; label = b }

case : ℕ → ℕ → Case
case v b = record { value = v; label = b }

block : ℕ → List Inst → Terminator → BasicBlock
block b is t = record { label = b; insts = is; term = t }

param : ℕ → Ty → Param
param x t = record { ty = t; name = some x }

give : Ty → Value → Terminator
unfolding typed
give t v = Terminator.ret (some (typed t v))

-- the function is name 0, of a book without named structs; name 1 is defined too
function : Ty → List Param → List BasicBlock → Function
function t ps bs = record { name = 0; ret_ty = t; params = ps; blocks = bs }

-- ---- a run
pub record Try : Type 0 where
  pub function : Function
  pub args : List ℕ
  pub says : Summary

-- names 2 and 3 are syscalls: of one argument without a reply, of two with one; names 7 to 10 are blocks, from 11 on locals
unfoldable pub names : List (List ℕ)
names =
    map bytes (
    "f" ∷ "g" ∷ "__uvm_put" ∷ "__uvm_ask" ∷ "memcmp" ∷ "bcmp" ∷ "-" ∷ "b0" ∷ "b1" ∷ "b2" ∷ "b3" ∷ "v11" ∷ "v12" ∷ "v13" ∷ "v14" ∷ "v15" ∷ "v16" ∷ "v17" ∷ "v18" ∷ "v19" ∷ "v20" ∷ "v21" ∷ "v22" ∷ "v23" ∷ "v24" ∷ []
    )

summary : Stand → Option Summary
summary (Stand.at b σ) = none
summary (Stand.gave v σ) = some (record { value = v; calls = σ.calls; bytes = peek 8 σ.memory 4096 })

unfoldable pub or_none : {A : Type 0} → Result A → (A → Option Summary) → Option Summary
or_none (ok a) f = f a
or_none (err n) f = none

-- 12 blocks, with the byte 7 at address 4096 and the stack pointer 65536
unfoldable pub by_source : Try → Option Summary
unfolding names world holding summary or_none
by_source t = or_none (source_run names [] t.function world t.args (holding 4096 7) 65536 12) summary

abbrev pub expected : Try → Option Summary
expected t = some t.says

-- no call, memory as it was
quiet : ℕ → Summary
quiet v = record { value = v; calls = []; bytes = 7 }

-- the value found by a cmpxchg that stores 9, and 256 for success
swap : Value → Function
unfolding i1 i64 set param give typed block function
swap c =
    function i64 (param 11 Ty.ptr ∷ []) (
    block 7 (set 12 (InstKind.cmpxchg i64 (Value.local 11) c (Value.int 9)) ∷ set 13 (InstKind.extract_value (Value.local 12) 0) ∷ set 14 (InstKind.extract_value (Value.local 12) 1)
    ∷ set 15 (InstKind.conv ConvOp.zext i1 (Value.local 14) i64) ∷ set 16 (InstKind.bin BinOp.shl i64 (Value.local 15) (Value.int 8))
    ∷ set 17 (InstKind.bin BinOp.add i64 (Value.local 13) (Value.local 16)) ∷ [])
    (give i64 (Value.local 17)) ∷ [])

unfoldable pub tries : List Try
unfolding swap i1 i8 i16 i32 i64 set act typed from case block param give function quiet
tries =
    -- a loop that swaps its phis once, then sdiv i8: -100 / 7
    record {
      function = function i8 (param 11 i8 ∷ param 12 i8 ∷ param 13 i1 ∷ []) (
          block 7 [] (Terminator.br none 8 none)
          ∷ block 8 (set 14 (InstKind.phi i8 (from 7 (Value.local 11) ∷ from 8 (Value.local 15) ∷ [])) ∷ set 15 (InstKind.phi i8 (from 7 (Value.local 12) ∷ from 8 (Value.local 14) ∷ []))
          ∷ set 16 (InstKind.phi i1 (from 7 (Value.local 13) ∷ from 8 (Value.zero Zero.undef) ∷ [])) ∷ []) (Terminator.br (some (Value.local 16)) 8 (some 9))
          ∷ block 9 (set 17 (InstKind.bin BinOp.sdiv i8 (Value.local 14) (Value.local 15)) ∷ []) (give i8 (Value.local 17)) ∷ []);
      args = 7 ∷ 156 ∷ 1 ∷ [];
      says = quiet 242;
    } ∷
    -- a switch with negative cases: -1 as i8
    record {
      function = function i32 (param 11 i8 ∷ []) (
          block 7 [] (Terminator.switch i8 (Value.local 11) 8 (case 5 8 ∷ case (2 ^ 64 - 128) 9 ∷ case (2 ^ 64 - 1) 10 ∷ []))
          ∷ block 8 [] (give i32 (Value.int 1)) ∷ block 9 [] (give i32 (Value.int 2)) ∷ block 10 [] (give i32 (Value.int 3)) ∷ []);
      args = 255 ∷ [];
      says = quiet 3;
    } ∷
    -- fixed places in two blocks, a varying one behind them: an i8 and an i32 from 65540 on, 3 × i8 at the next multiple of 8
    record {
      function = function i64 (param 11 i8 ∷ []) (
          block 7 (set 12 (InstKind.alloca i8 none none) ∷ act (InstKind.store i8 (Value.int 200) (Value.local 12) none) ∷ []) (Terminator.br none 8 none)
          ∷ block 8 (set 13 (InstKind.alloca i32 none none) ∷ act (InstKind.store i32 (Value.int 70000) (Value.local 13) none) ∷ set 14 (InstKind.alloca i8 (some (typed i8 (Value.local 11))) none)
          ∷ set 15 (InstKind.load i64 (Value.local 12) none) ∷ set 16 (InstKind.conv ConvOp.ptr_to_int Ty.ptr (Value.local 14) i64) ∷ set 17 (InstKind.bin BinOp.sub i64 (Value.local 16) (Value.local 15)) ∷ [])
          (give i64 (Value.local 17)) ∷ []);
      args = 3 ∷ [];
      says = quiet (2 ^ 64 + 65544 - (200 + 70000 * 2 ^ 32));
    } ∷
    -- cmpxchg that finds what it compares with, and one that does not: the value found, and 256 for success
    record { function = swap (Value.int 7); args = 4096 ∷ []; says = record { value = 263; calls = []; bytes = 9 } } ∷
    record { function = swap (Value.int 8); args = 4096 ∷ []; says = quiet 7 } ∷
    -- a syscall without reply, then a call: both change memory
    record {
      function = function i64 (param 11 Ty.ptr ∷ []) (
          block 7 (act (InstKind.call Ty.void (Value.global 2) (typed i8 (Value.int 5) ∷ [])) ∷ set 12 (InstKind.load i8 (Value.local 11) none) ∷ set 13 (InstKind.call i8 (Value.global 1) (typed i8 (Value.local 12) ∷ typed Ty.ptr (Value.global 1) ∷ []))
          ∷ set 14 (InstKind.load i8 (Value.local 11) none) ∷ set 15 (InstKind.bin BinOp.mul i8 (Value.local 13) (Value.local 14)) ∷ set 16 (InstKind.conv ConvOp.zext i8 (Value.local 15) i64) ∷ [])
          (give i64 (Value.local 16)) ∷ []);
      args = 4096 ∷ [];
      says = record {
        value = 43;
        bytes = 51;
        calls = record { target = Target.function 1; args = 50 ∷ 8193 ∷ [] } ∷ record { target = Target.syscall (bytes "put"); args = 5 ∷ [] } ∷ [];
      };
    } ∷
    -- a varying index of -2 over i32, a signed comparison, a select
    record {
      function = function i64 (param 11 i8 ∷ []) (
          block 7 (set 12 (InstKind.get_element_ptr i32 (Value.global 1) (typed i8 (Value.local 11) ∷ [])) ∷ set 13 (InstKind.icmp ICmpPred.slt i8 (Value.local 11) (Value.int 1))
          ∷ set 14 (InstKind.select (Value.local 13) Ty.ptr (Value.local 12) (Value.zero Zero.null)) ∷ set 15 (InstKind.conv ConvOp.ptr_to_int Ty.ptr (Value.local 14) i64) ∷ []) (give i64 (Value.local 15)) ∷ []);
      args = 254 ∷ [];
      says = quiet 8185;
    } ∷
    -- every conversion, and freeze: 200 as i8 is -56, of which 16 bits are 65480
    record {
      function = function i32 (param 11 i8 ∷ []) (
          block 7 (set 12 (InstKind.conv ConvOp.sext i8 (Value.local 11) i32) ∷ set 13 (InstKind.conv ConvOp.trunc i32 (Value.local 12) i16) ∷ set 14 (InstKind.conv ConvOp.zext i16 (Value.local 13) i64)
          ∷ set 15 (InstKind.conv ConvOp.int_to_ptr i64 (Value.local 14) Ty.ptr) ∷ set 16 (InstKind.conv ConvOp.ptr_to_int Ty.ptr (Value.local 15) i32) ∷ set 17 (InstKind.conv ConvOp.bit_cast i32 (Value.local 16) i32)
          ∷ set 18 (InstKind.freeze i32 (Value.local 17)) ∷ []) (give i32 (Value.local 18)) ∷ []);
      args = 200 ∷ [];
      says = quiet 65480;
    } ∷
    -- stores and loads of each width, a pointer among them, atomic ones, a fence: 513 + 770 + 1 + 4096
    record {
      function = function i64 (param 11 Ty.ptr ∷ []) (
          block 7 (act (InstKind.store i16 (Value.int 513) (Value.local 11) none) ∷ set 12 (InstKind.load i16 (Value.local 11) none) ∷ act (InstKind.atomic_store i64 (Value.int 770) (Value.local 11))
          ∷ act InstKind.fence ∷ set 13 (InstKind.atomic_load i64 (Value.local 11)) ∷ act (InstKind.store i1 (Value.int 1) (Value.local 11) none) ∷ set 14 (InstKind.load i1 (Value.local 11) none)
          ∷ act (InstKind.store Ty.ptr (Value.local 11) (Value.local 11) none) ∷ set 15 (InstKind.load Ty.ptr (Value.local 11) none) ∷ set 16 (InstKind.conv ConvOp.zext i16 (Value.local 12) i64)
          ∷ set 17 (InstKind.conv ConvOp.zext i1 (Value.local 14) i64) ∷ set 18 (InstKind.conv ConvOp.ptr_to_int Ty.ptr (Value.local 15) i64) ∷ set 19 (InstKind.bin BinOp.add i64 (Value.local 16) (Value.local 13))
          ∷ set 20 (InstKind.bin BinOp.add i64 (Value.local 19) (Value.local 17)) ∷ set 21 (InstKind.bin BinOp.add i64 (Value.local 20) (Value.local 18)) ∷ [])
          (give i64 (Value.local 21)) ∷ []);
      args = 4096 ∷ [];
      says = record { value = 5380; calls = []; bytes = 4096 };
    } ∷
    -- a syscall with a reply, memcmp, bcmp, a void call through a local: replies 40 to 43
    record {
      function = function i64 (param 11 Ty.ptr ∷ []) (
          block 7 (set 12 (InstKind.call i64 (Value.global 3) (typed i8 (Value.int 1) ∷ typed i64 (Value.int 2) ∷ []))
          ∷ set 13 (InstKind.call i32 (Value.global 4) (typed Ty.ptr (Value.local 11) ∷ typed Ty.ptr (Value.zero Zero.null) ∷ typed i64 (Value.int 4) ∷ []))
          ∷ set 14 (InstKind.call i64 (Value.global 5) (typed Ty.ptr (Value.local 11) ∷ typed Ty.ptr (Value.local 11) ∷ typed i64 (Value.int 5) ∷ []))
          ∷ act (InstKind.call Ty.void (Value.local 11) []) ∷ set 15 (InstKind.bin BinOp.mul i64 (Value.local 12) (Value.local 14)) ∷ [])
          (give i64 (Value.local 15)) ∷ []);
      args = 4096 ∷ [];
      says = record {
        value = 1680;
        bytes = 53;
        calls = record { target = Target.address 4096; args = [] } ∷ record { target = Target.syscall (bytes "memcmp"); args = 4096 ∷ 4096 ∷ 5 ∷ [] }
            ∷ record { target = Target.syscall (bytes "memcmp"); args = 4096 ∷ 0 ∷ 4 ∷ [] } ∷ record { target = Target.syscall (bytes "ask"); args = 1 ∷ 2 ∷ [] } ∷ [];
      };
    } ∷
    -- a void function returns 0; a pointer, the third field of the second struct from it on, is returned
    record { function = function Ty.void [] (block 7 [] (Terminator.ret none) ∷ []); args = []; says = quiet 0 } ∷
    record {
      function = function Ty.ptr (param 11 Ty.ptr ∷ []) (
          block 7 (set 12 (InstKind.get_element_ptr (Ty.struct false (Tys.cons i8 (Tys.cons i32 (Tys.cons i8 Tys.nil)))) (Value.local 11) (typed i64 (Value.int 1) ∷ typed i32 (Value.int 2) ∷ [])) ∷ [])
          (give Ty.ptr (Value.local 12)) ∷ []);
      args = 4096 ∷ [];
      says = quiet 4116;
    } ∷
    -- a select whose other side is not set yet; pointers compared; a switch that takes its default; a parameter that no one reads
    record {
      function = function i64 (param 11 Ty.ptr ∷ param 12 (Ty.array false 2 i8) ∷ []) (
          block 7 (set 13 (InstKind.icmp ICmpPred.ne Ty.ptr (Value.local 11) (Value.zero Zero.null)) ∷ set 14 (InstKind.select (Value.local 13) i64 (Value.int 5) (Value.local 15))
          ∷ set 15 (InstKind.bin BinOp.add i64 (Value.local 14) (Value.int 1)) ∷ []) (Terminator.switch i64 (Value.local 15) 9 (case 5 8 ∷ []))
          ∷ block 8 [] (give i64 (Value.int 1)) ∷ block 9 [] (give i64 (Value.local 15)) ∷ []);
      args = 4096 ∷ 9 ∷ [];
      says = quiet 6;
    } ∷
    []

pub functions_run : map by_source tries ≡ map expected tries
unfolding open_manual by_source tries
functions_run = refl

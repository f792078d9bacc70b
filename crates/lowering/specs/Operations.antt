-- Every operation, comparison, conversion and access, from raw entries to text bytes: one table, one theorem.
use Rattle.std.specs.Prelude.{◌≡◌, refl, List, [], ◌∷◌, map}
use Rattle.assembly.specs.Cases.{unlines}
use Rattle.lowering.specs.Sheet.{Sheet, Answer, answers, says_of, open_sheet}

unfoldable pub operations : List Sheet
operations =
    -- all operations at 8 bits
    record {
      entries =
          (5, 1) ∷ (10, 0) ∷ (6, 3) ∷ (11, 8) ∷ (0, 0) ∷ (7, 0) ∷ (40, 4) ∷ (11, 8) ∷ (30, 2) ∷ (30, 2) ∷ (41, 5) ∷ (11, 8) ∷ (30, 2) ∷ (30, 2) ∷ (42, 6)
          ∷ (11, 8) ∷ (30, 2) ∷ (30, 2) ∷ (43, 7) ∷ (11, 8) ∷ (30, 2) ∷ (30, 2) ∷ (44, 8) ∷ (11, 8) ∷ (30, 2) ∷ (30, 2) ∷ (45, 9) ∷ (11, 8) ∷ (30, 2) ∷ (30, 2)
          ∷ (46, 10) ∷ (11, 8) ∷ (30, 2) ∷ (30, 2) ∷ (47, 11) ∷ (11, 8) ∷ (30, 2) ∷ (30, 2) ∷ (48, 12) ∷ (11, 8) ∷ (30, 2) ∷ (30, 2) ∷ (49, 13) ∷ (11, 8)
          ∷ (30, 2) ∷ (30, 2) ∷ (50, 14) ∷ (11, 8) ∷ (30, 2) ∷ (30, 2) ∷ (51, 15) ∷ (11, 8) ∷ (30, 2) ∷ (30, 2) ∷ (52, 16) ∷ (11, 8) ∷ (30, 2) ∷ (30, 2)
          ∷ (90, 0) ∷ (21, 0) ∷ (0, 0) ∷ (0, 0) ∷ [];
      names = "e" ∷ "f" ∷ "p" ∷ "r00" ∷ "r01" ∷ "r02" ∷ "r03" ∷ "r04" ∷ "r05" ∷ "r06" ∷ "r07" ∷ "r08" ∷ "r09" ∷ "r10" ∷ "r11" ∷ "r12" ∷ [];
      says = Answer.text (unlines (
          "# void @f(1 params)" ∷ "f:" ∷ "push_0n 13;" ∷ "f__e:" ∷ "get_arg 0;" ∷ "get_arg 0;" ∷ "add_u32;" ∷ "trunc_u8;" ∷ "set_local 0;" ∷ "get_arg 0;"
          ∷ "get_arg 0;" ∷ "sub_u32;" ∷ "trunc_u8;" ∷ "set_local 1;" ∷ "get_arg 0;" ∷ "get_arg 0;" ∷ "mul_u32;" ∷ "trunc_u8;" ∷ "set_local 2;" ∷ "get_arg 0;"
          ∷ "get_arg 0;" ∷ "div_u32;" ∷ "trunc_u8;" ∷ "set_local 3;" ∷ "get_arg 0;" ∷ "sx_i8_i32;" ∷ "get_arg 0;" ∷ "sx_i8_i32;" ∷ "div_i32;" ∷ "trunc_u8;"
          ∷ "set_local 4;" ∷ "get_arg 0;" ∷ "get_arg 0;" ∷ "mod_u32;" ∷ "trunc_u8;" ∷ "set_local 5;" ∷ "get_arg 0;" ∷ "sx_i8_i32;" ∷ "get_arg 0;" ∷ "sx_i8_i32;"
          ∷ "mod_i32;" ∷ "trunc_u8;" ∷ "set_local 6;" ∷ "get_arg 0;" ∷ "get_arg 0;" ∷ "and_u32;" ∷ "trunc_u8;" ∷ "set_local 7;" ∷ "get_arg 0;" ∷ "get_arg 0;"
          ∷ "or_u32;" ∷ "trunc_u8;" ∷ "set_local 8;" ∷ "get_arg 0;" ∷ "get_arg 0;" ∷ "xor_u32;" ∷ "trunc_u8;" ∷ "set_local 9;" ∷ "get_arg 0;" ∷ "get_arg 0;"
          ∷ "lshift_u32;" ∷ "trunc_u8;" ∷ "set_local 10;" ∷ "get_arg 0;" ∷ "get_arg 0;" ∷ "rshift_u32;" ∷ "trunc_u8;" ∷ "set_local 11;" ∷ "get_arg 0;"
          ∷ "sx_i8_i32;" ∷ "get_arg 0;" ∷ "rshift_i32;" ∷ "trunc_u8;" ∷ "set_local 12;" ∷ "push 0;" ∷ "ret;" ∷ "" ∷ [])) 0;
    } ∷
    -- all operations at 64
    record {
      entries =
          (5, 1) ∷ (10, 0) ∷ (6, 3) ∷ (11, 64) ∷ (0, 0) ∷ (7, 0) ∷ (40, 4) ∷ (11, 64) ∷ (30, 2) ∷ (30, 2) ∷ (41, 5) ∷ (11, 64) ∷ (30, 2) ∷ (30, 2) ∷ (42, 6)
          ∷ (11, 64) ∷ (30, 2) ∷ (30, 2) ∷ (43, 7) ∷ (11, 64) ∷ (30, 2) ∷ (30, 2) ∷ (44, 8) ∷ (11, 64) ∷ (30, 2) ∷ (30, 2) ∷ (45, 9) ∷ (11, 64) ∷ (30, 2)
          ∷ (30, 2) ∷ (46, 10) ∷ (11, 64) ∷ (30, 2) ∷ (30, 2) ∷ (47, 11) ∷ (11, 64) ∷ (30, 2) ∷ (30, 2) ∷ (48, 12) ∷ (11, 64) ∷ (30, 2) ∷ (30, 2) ∷ (49, 13)
          ∷ (11, 64) ∷ (30, 2) ∷ (30, 2) ∷ (50, 14) ∷ (11, 64) ∷ (30, 2) ∷ (30, 2) ∷ (51, 15) ∷ (11, 64) ∷ (30, 2) ∷ (30, 2) ∷ (52, 16) ∷ (11, 64) ∷ (30, 2)
          ∷ (30, 2) ∷ (90, 0) ∷ (21, 0) ∷ (0, 0) ∷ (0, 0) ∷ [];
      names = "e" ∷ "f" ∷ "p" ∷ "r00" ∷ "r01" ∷ "r02" ∷ "r03" ∷ "r04" ∷ "r05" ∷ "r06" ∷ "r07" ∷ "r08" ∷ "r09" ∷ "r10" ∷ "r11" ∷ "r12" ∷ [];
      says = Answer.text (unlines (
          "# void @f(1 params)" ∷ "f:" ∷ "push_0n 13;" ∷ "f__e:" ∷ "get_arg 0;" ∷ "get_arg 0;" ∷ "add_u64;" ∷ "set_local 0;" ∷ "get_arg 0;" ∷ "get_arg 0;"
          ∷ "sub_u64;" ∷ "set_local 1;" ∷ "get_arg 0;" ∷ "get_arg 0;" ∷ "mul_u64;" ∷ "set_local 2;" ∷ "get_arg 0;" ∷ "get_arg 0;" ∷ "div_u64;" ∷ "set_local 3;"
          ∷ "get_arg 0;" ∷ "get_arg 0;" ∷ "div_i64;" ∷ "set_local 4;" ∷ "get_arg 0;" ∷ "get_arg 0;" ∷ "mod_u64;" ∷ "set_local 5;" ∷ "get_arg 0;" ∷ "get_arg 0;"
          ∷ "mod_i64;" ∷ "set_local 6;" ∷ "get_arg 0;" ∷ "get_arg 0;" ∷ "and_u64;" ∷ "set_local 7;" ∷ "get_arg 0;" ∷ "get_arg 0;" ∷ "or_u64;" ∷ "set_local 8;"
          ∷ "get_arg 0;" ∷ "get_arg 0;" ∷ "xor_u64;" ∷ "set_local 9;" ∷ "get_arg 0;" ∷ "get_arg 0;" ∷ "lshift_u64;" ∷ "set_local 10;" ∷ "get_arg 0;"
          ∷ "get_arg 0;" ∷ "rshift_u64;" ∷ "set_local 11;" ∷ "get_arg 0;" ∷ "get_arg 0;" ∷ "rshift_i64;" ∷ "set_local 12;" ∷ "push 0;" ∷ "ret;" ∷ "" ∷ [])) 0;
    } ∷
    -- all comparisons at 8 bits
    record {
      entries =
          (5, 1) ∷ (10, 0) ∷ (6, 3) ∷ (11, 8) ∷ (0, 0) ∷ (7, 0) ∷ (60, 4) ∷ (11, 8) ∷ (30, 2) ∷ (30, 2) ∷ (61, 5) ∷ (11, 8) ∷ (30, 2) ∷ (30, 2) ∷ (62, 6)
          ∷ (11, 8) ∷ (30, 2) ∷ (30, 2) ∷ (63, 7) ∷ (11, 8) ∷ (30, 2) ∷ (30, 2) ∷ (64, 8) ∷ (11, 8) ∷ (30, 2) ∷ (30, 2) ∷ (65, 9) ∷ (11, 8) ∷ (30, 2) ∷ (30, 2)
          ∷ (66, 10) ∷ (11, 8) ∷ (30, 2) ∷ (30, 2) ∷ (67, 11) ∷ (11, 8) ∷ (30, 2) ∷ (30, 2) ∷ (68, 12) ∷ (11, 8) ∷ (30, 2) ∷ (30, 2) ∷ (69, 13) ∷ (11, 8)
          ∷ (30, 2) ∷ (30, 2) ∷ (90, 0) ∷ (21, 0) ∷ (0, 0) ∷ (0, 0) ∷ [];
      names = "e" ∷ "f" ∷ "p" ∷ "r00" ∷ "r01" ∷ "r02" ∷ "r03" ∷ "r04" ∷ "r05" ∷ "r06" ∷ "r07" ∷ "r08" ∷ "r09" ∷ [];
      says = Answer.text (unlines (
          "# void @f(1 params)" ∷ "f:" ∷ "push_0n 10;" ∷ "f__e:" ∷ "get_arg 0;" ∷ "get_arg 0;" ∷ "eq_u32;" ∷ "set_local 0;" ∷ "get_arg 0;" ∷ "get_arg 0;"
          ∷ "ne_u32;" ∷ "set_local 1;" ∷ "get_arg 0;" ∷ "get_arg 0;" ∷ "gt_u32;" ∷ "set_local 2;" ∷ "get_arg 0;" ∷ "get_arg 0;" ∷ "ge_u32;" ∷ "set_local 3;"
          ∷ "get_arg 0;" ∷ "get_arg 0;" ∷ "lt_u32;" ∷ "set_local 4;" ∷ "get_arg 0;" ∷ "get_arg 0;" ∷ "le_u32;" ∷ "set_local 5;" ∷ "get_arg 0;" ∷ "sx_i8_i32;"
          ∷ "get_arg 0;" ∷ "sx_i8_i32;" ∷ "gt_i32;" ∷ "set_local 6;" ∷ "get_arg 0;" ∷ "sx_i8_i32;" ∷ "get_arg 0;" ∷ "sx_i8_i32;" ∷ "ge_i32;" ∷ "set_local 7;"
          ∷ "get_arg 0;" ∷ "sx_i8_i32;" ∷ "get_arg 0;" ∷ "sx_i8_i32;" ∷ "lt_i32;" ∷ "set_local 8;" ∷ "get_arg 0;" ∷ "sx_i8_i32;" ∷ "get_arg 0;" ∷ "sx_i8_i32;"
          ∷ "le_i32;" ∷ "set_local 9;" ∷ "push 0;" ∷ "ret;" ∷ "" ∷ [])) 0;
    } ∷
    -- conversions: only the target counts for trunc and ptrtoint, zext, inttoptr and bitcast give nothing
    record {
      entries =
          (5, 5) ∷ (10, 0) ∷ (6, 9) ∷ (12, 0) ∷ (0, 0) ∷ (7, 4) ∷ (53, 1) ∷ (11, 64) ∷ (30, 8) ∷ (11, 1) ∷ (54, 2) ∷ (11, 8) ∷ (32, 18446744073709551615)
          ∷ (11, 32) ∷ (56, 3) ∷ (12, 0) ∷ (30, 8) ∷ (11, 16) ∷ (56, 4) ∷ (12, 0) ∷ (30, 8) ∷ (11, 64) ∷ (57, 7) ∷ (11, 32) ∷ (32, 18446744073709551615)
          ∷ (12, 0) ∷ (58, 8) ∷ (11, 16) ∷ (32, 18446744073709551615) ∷ (19, 0) ∷ (90, 0) ∷ (21, 0) ∷ (0, 0) ∷ (0, 0) ∷ [];
      names = "a" ∷ "b" ∷ "c" ∷ "d" ∷ "e" ∷ "f" ∷ "g" ∷ "h" ∷ "p" ∷ [];
      says = Answer.text (unlines (
          "# void @f(1 params)" ∷ "f:" ∷ "push_0n 6;" ∷ "f__e:" ∷ "get_arg 0;" ∷ "push 1;" ∷ "and_u32;" ∷ "set_local 0;" ∷ "push 255;" ∷ "set_local 1;"
          ∷ "get_arg 0;" ∷ "trunc_u16;" ∷ "set_local 2;" ∷ "get_arg 0;" ∷ "set_local 3;" ∷ "push 4294967295;" ∷ "set_local 4;" ∷ "push 65535;" ∷ "set_local 5;"
          ∷ "push 0;" ∷ "ret;" ∷ "" ∷ [])) 0;
    } ∷
    -- sign extensions to 64 bits
    record {
      entries =
          (5, 5) ∷ (10, 0) ∷ (6, 7) ∷ (12, 0) ∷ (0, 0) ∷ (7, 4) ∷ (55, 1) ∷ (11, 1) ∷ (30, 6) ∷ (11, 64) ∷ (55, 2) ∷ (11, 8) ∷ (30, 6) ∷ (11, 64) ∷ (55, 3)
          ∷ (11, 16) ∷ (30, 6) ∷ (11, 64) ∷ (55, 4) ∷ (11, 32) ∷ (30, 6) ∷ (11, 64) ∷ (90, 0) ∷ (21, 0) ∷ (0, 0) ∷ (0, 0) ∷ [];
      names = "a" ∷ "b" ∷ "c" ∷ "d" ∷ "e" ∷ "f" ∷ "p" ∷ [];
      says = Answer.text (unlines (
          "# void @f(1 params)" ∷ "f:" ∷ "push_0n 4;" ∷ "f__e:" ∷ "get_arg 0;" ∷ "push 1;" ∷ "and_u64;" ∷ "push 18446744073709551615;" ∷ "mul_u64;"
          ∷ "set_local 0;" ∷ "get_arg 0;" ∷ "sx_i8_i64;" ∷ "set_local 1;" ∷ "get_arg 0;" ∷ "sx_i16_i64;" ∷ "set_local 2;" ∷ "get_arg 0;" ∷ "sx_i32_i64;"
          ∷ "set_local 3;" ∷ "push 0;" ∷ "ret;" ∷ "" ∷ [])) 0;
    } ∷
    -- memory: a store pushes its address first; atomics
    record {
      entries =
          (5, 3) ∷ (10, 0) ∷ (6, 5) ∷ (12, 0) ∷ (0, 0) ∷ (7, 2) ∷ (72, 0) ∷ (11, 16) ∷ (32, 18446744073709551615) ∷ (30, 4) ∷ (21, 0) ∷ (71, 1) ∷ (11, 1)
          ∷ (30, 4) ∷ (21, 0) ∷ (78, 2) ∷ (12, 0) ∷ (30, 4) ∷ (79, 0) ∷ (11, 64) ∷ (32, 18446744073709551615) ∷ (30, 4) ∷ (82, 0) ∷ (90, 0) ∷ (21, 0) ∷ (0, 0)
          ∷ (0, 0) ∷ [];
      names = "a" ∷ "b" ∷ "e" ∷ "f" ∷ "p" ∷ [];
      says = Answer.text (unlines (
          "# void @f(1 params)" ∷ "f:" ∷ "push_0n 2;" ∷ "f__e:" ∷ "get_arg 0;" ∷ "push 65535;" ∷ "store_u16;" ∷ "get_arg 0;" ∷ "load_u8;" ∷ "set_local 0;"
          ∷ "get_arg 0;" ∷ "atomic_load_u64;" ∷ "set_local 1;" ∷ "get_arg 0;" ∷ "push 18446744073709551615;" ∷ "atomic_store_u64;" ∷ "push 0;" ∷ "ret;" ∷ ""
          ∷ [])) 0;
    } ∷
    []

pub operations_hold : map answers operations ≡ map says_of operations
unfolding open_sheet operations
operations_hold = refl

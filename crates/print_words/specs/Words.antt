-- The words of the lines, one for each kind, and the table that the code reads them from.
use Rattle.std.specs.Prelude.{ℕ, ◌+◌, ◌/◌, ◌%◌, ◌≤◌, ◌<◌, ◌≡◌, refl, Bool, true, ◌&&◌, List, [], ◌∷◌, ◌++◌, leb, length, get_or, take, drop}
use Prim.Native.String.{String}
use Rattle.std.proofs.Common.{sym, ap, ◌∙◌, arith, leb-true, length-drop, length-take-le, take-take}
use Rattle.std.proofs.lemmas.List.Edits.{sets}
use Rattle.names.specs.Text.{bytes, same}
use Rattle.names.specs.Texts.{same_iff}
use Rattle.names.specs.Tests.{both}
use Rattle.print_pen.specs.Write.{Wrote, wrote_over}
use Rattle.print_words.specs.Table.{every, holds}

-- with byte 10 behind it
unfoldable pub ended : String → List ℕ
ended s = bytes s ++ (10 ∷ [])

-- kinds 0 to 20: what stands before the operand; from 21 on the whole line
unfoldable pub word_table : List (List ℕ)
word_table =
    bytes "# " ∷ bytes "" ∷ bytes "" ∷ bytes "jmp " ∷ bytes "push " ∷ bytes "call " ∷ bytes "syscall " ∷ bytes "push_0n " ∷ bytes "push "
    ∷ bytes "get_arg " ∷ bytes "get_local " ∷ bytes "set_local " ∷ bytes "call_fp " ∷ bytes "__sel_false_" ∷ bytes "__sel_done_"
    ∷ bytes "__br_false_" ∷ bytes "__sw_case_" ∷ bytes "jz __sel_false_" ∷ bytes "jmp __sel_done_" ∷ bytes "jz __br_false_"
    ∷ bytes "jnz __sw_case_" ∷ ended "add_u32;" ∷ ended "sub_u32;" ∷ ended "mul_u32;" ∷ ended "div_u32;" ∷ ended "div_i32;" ∷ ended "mod_u32;"
    ∷ ended "mod_i32;" ∷ ended "and_u32;" ∷ ended "or_u32;" ∷ ended "xor_u32;" ∷ ended "lshift_u32;" ∷ ended "rshift_u32;"
    ∷ ended "rshift_i32;" ∷ ended "eq_u32;" ∷ ended "ne_u32;" ∷ ended "gt_u32;" ∷ ended "ge_u32;" ∷ ended "lt_u32;" ∷ ended "le_u32;"
    ∷ ended "gt_i32;" ∷ ended "ge_i32;" ∷ ended "lt_i32;" ∷ ended "le_i32;" ∷ ended "add_u64;" ∷ ended "sub_u64;" ∷ ended "mul_u64;"
    ∷ ended "div_u64;" ∷ ended "div_i64;" ∷ ended "mod_u64;" ∷ ended "mod_i64;" ∷ ended "and_u64;" ∷ ended "or_u64;" ∷ ended "xor_u64;"
    ∷ ended "lshift_u64;" ∷ ended "rshift_u64;" ∷ ended "rshift_i64;" ∷ ended "eq_u64;" ∷ ended "ne_u64;" ∷ ended "gt_u64;" ∷ ended "ge_u64;"
    ∷ ended "lt_u64;" ∷ ended "le_u64;" ∷ ended "gt_i64;" ∷ ended "ge_i64;" ∷ ended "lt_i64;" ∷ ended "le_i64;" ∷ ended "trunc_u8;"
    ∷ ended "trunc_u16;" ∷ ended "trunc_u32;" ∷ ended "sx_i8_i32;" ∷ ended "sx_i16_i32;" ∷ ended "sx_i8_i64;" ∷ ended "sx_i16_i64;"
    ∷ ended "sx_i32_i64;" ∷ ended "load_u8;" ∷ ended "load_u16;" ∷ ended "load_u32;" ∷ ended "load_u64;" ∷ ended "store_u8;"
    ∷ ended "store_u16;" ∷ ended "store_u32;" ∷ ended "store_u64;" ∷ ended "atomic_load_u64;" ∷ ended "atomic_store_u64;"
    ∷ ended "atomic_cas_u64;" ∷ ended "syscall memcmp;" ∷ ended "dup;" ∷ ended "pop;" ∷ ended "ret;" ∷ ended "panic;" ∷ ended "thread_get 0;"
    ∷ ended "thread_set 0;" ∷ ended "" ∷ []

unfoldable pub word : ℕ → List ℕ
word k = get_or word_table k []

-- all words one after the other, with 24 letters behind them, and where each stands: the start times 32, and how many letters
unfoldable pub word_letters : List ℕ
word_letters =
    35 ∷ 32 ∷ 106 ∷ 109 ∷ 112 ∷ 32 ∷ 112 ∷ 117 ∷ 115 ∷ 104 ∷ 32 ∷ 99 ∷ 97 ∷ 108 ∷ 108 ∷ 32 ∷ 115 ∷ 121 ∷ 115 ∷ 99 ∷ 97 ∷ 108 ∷ 108 ∷ 32 ∷ 112
    ∷ 117 ∷ 115 ∷ 104 ∷ 95 ∷ 48 ∷ 110 ∷ 32 ∷ 112 ∷ 117 ∷ 115 ∷ 104 ∷ 32 ∷ 103 ∷ 101 ∷ 116 ∷ 95 ∷ 97 ∷ 114 ∷ 103 ∷ 32 ∷ 103 ∷ 101 ∷ 116 ∷ 95
    ∷ 108 ∷ 111 ∷ 99 ∷ 97 ∷ 108 ∷ 32 ∷ 115 ∷ 101 ∷ 116 ∷ 95 ∷ 108 ∷ 111 ∷ 99 ∷ 97 ∷ 108 ∷ 32 ∷ 99 ∷ 97 ∷ 108 ∷ 108 ∷ 95 ∷ 102 ∷ 112 ∷ 32 ∷ 95
    ∷ 95 ∷ 115 ∷ 101 ∷ 108 ∷ 95 ∷ 102 ∷ 97 ∷ 108 ∷ 115 ∷ 101 ∷ 95 ∷ 95 ∷ 95 ∷ 115 ∷ 101 ∷ 108 ∷ 95 ∷ 100 ∷ 111 ∷ 110 ∷ 101 ∷ 95 ∷ 95 ∷ 95 ∷ 98
    ∷ 114 ∷ 95 ∷ 102 ∷ 97 ∷ 108 ∷ 115 ∷ 101 ∷ 95 ∷ 95 ∷ 95 ∷ 115 ∷ 119 ∷ 95 ∷ 99 ∷ 97 ∷ 115 ∷ 101 ∷ 95 ∷ 106 ∷ 122 ∷ 32 ∷ 95 ∷ 95 ∷ 115 ∷ 101
    ∷ 108 ∷ 95 ∷ 102 ∷ 97 ∷ 108 ∷ 115 ∷ 101 ∷ 95 ∷ 106 ∷ 109 ∷ 112 ∷ 32 ∷ 95 ∷ 95 ∷ 115 ∷ 101 ∷ 108 ∷ 95 ∷ 100 ∷ 111 ∷ 110 ∷ 101 ∷ 95 ∷ 106
    ∷ 122 ∷ 32 ∷ 95 ∷ 95 ∷ 98 ∷ 114 ∷ 95 ∷ 102 ∷ 97 ∷ 108 ∷ 115 ∷ 101 ∷ 95 ∷ 106 ∷ 110 ∷ 122 ∷ 32 ∷ 95 ∷ 95 ∷ 115 ∷ 119 ∷ 95 ∷ 99 ∷ 97 ∷ 115
    ∷ 101 ∷ 95 ∷ 97 ∷ 100 ∷ 100 ∷ 95 ∷ 117 ∷ 51 ∷ 50 ∷ 59 ∷ 10 ∷ 115 ∷ 117 ∷ 98 ∷ 95 ∷ 117 ∷ 51 ∷ 50 ∷ 59 ∷ 10 ∷ 109 ∷ 117 ∷ 108 ∷ 95 ∷ 117
    ∷ 51 ∷ 50 ∷ 59 ∷ 10 ∷ 100 ∷ 105 ∷ 118 ∷ 95 ∷ 117 ∷ 51 ∷ 50 ∷ 59 ∷ 10 ∷ 100 ∷ 105 ∷ 118 ∷ 95 ∷ 105 ∷ 51 ∷ 50 ∷ 59 ∷ 10 ∷ 109 ∷ 111 ∷ 100
    ∷ 95 ∷ 117 ∷ 51 ∷ 50 ∷ 59 ∷ 10 ∷ 109 ∷ 111 ∷ 100 ∷ 95 ∷ 105 ∷ 51 ∷ 50 ∷ 59 ∷ 10 ∷ 97 ∷ 110 ∷ 100 ∷ 95 ∷ 117 ∷ 51 ∷ 50 ∷ 59 ∷ 10 ∷ 111 ∷ 114
    ∷ 95 ∷ 117 ∷ 51 ∷ 50 ∷ 59 ∷ 10 ∷ 120 ∷ 111 ∷ 114 ∷ 95 ∷ 117 ∷ 51 ∷ 50 ∷ 59 ∷ 10 ∷ 108 ∷ 115 ∷ 104 ∷ 105 ∷ 102 ∷ 116 ∷ 95 ∷ 117 ∷ 51 ∷ 50
    ∷ 59 ∷ 10 ∷ 114 ∷ 115 ∷ 104 ∷ 105 ∷ 102 ∷ 116 ∷ 95 ∷ 117 ∷ 51 ∷ 50 ∷ 59 ∷ 10 ∷ 114 ∷ 115 ∷ 104 ∷ 105 ∷ 102 ∷ 116 ∷ 95 ∷ 105 ∷ 51 ∷ 50 ∷ 59
    ∷ 10 ∷ 101 ∷ 113 ∷ 95 ∷ 117 ∷ 51 ∷ 50 ∷ 59 ∷ 10 ∷ 110 ∷ 101 ∷ 95 ∷ 117 ∷ 51 ∷ 50 ∷ 59 ∷ 10 ∷ 103 ∷ 116 ∷ 95 ∷ 117 ∷ 51 ∷ 50 ∷ 59 ∷ 10 ∷ 103
    ∷ 101 ∷ 95 ∷ 117 ∷ 51 ∷ 50 ∷ 59 ∷ 10 ∷ 108 ∷ 116 ∷ 95 ∷ 117 ∷ 51 ∷ 50 ∷ 59 ∷ 10 ∷ 108 ∷ 101 ∷ 95 ∷ 117 ∷ 51 ∷ 50 ∷ 59 ∷ 10 ∷ 103 ∷ 116 ∷ 95
    ∷ 105 ∷ 51 ∷ 50 ∷ 59 ∷ 10 ∷ 103 ∷ 101 ∷ 95 ∷ 105 ∷ 51 ∷ 50 ∷ 59 ∷ 10 ∷ 108 ∷ 116 ∷ 95 ∷ 105 ∷ 51 ∷ 50 ∷ 59 ∷ 10 ∷ 108 ∷ 101 ∷ 95 ∷ 105 ∷ 51
    ∷ 50 ∷ 59 ∷ 10 ∷ 97 ∷ 100 ∷ 100 ∷ 95 ∷ 117 ∷ 54 ∷ 52 ∷ 59 ∷ 10 ∷ 115 ∷ 117 ∷ 98 ∷ 95 ∷ 117 ∷ 54 ∷ 52 ∷ 59 ∷ 10 ∷ 109 ∷ 117 ∷ 108 ∷ 95 ∷ 117
    ∷ 54 ∷ 52 ∷ 59 ∷ 10 ∷ 100 ∷ 105 ∷ 118 ∷ 95 ∷ 117 ∷ 54 ∷ 52 ∷ 59 ∷ 10 ∷ 100 ∷ 105 ∷ 118 ∷ 95 ∷ 105 ∷ 54 ∷ 52 ∷ 59 ∷ 10 ∷ 109 ∷ 111 ∷ 100
    ∷ 95 ∷ 117 ∷ 54 ∷ 52 ∷ 59 ∷ 10 ∷ 109 ∷ 111 ∷ 100 ∷ 95 ∷ 105 ∷ 54 ∷ 52 ∷ 59 ∷ 10 ∷ 97 ∷ 110 ∷ 100 ∷ 95 ∷ 117 ∷ 54 ∷ 52 ∷ 59 ∷ 10 ∷ 111 ∷ 114
    ∷ 95 ∷ 117 ∷ 54 ∷ 52 ∷ 59 ∷ 10 ∷ 120 ∷ 111 ∷ 114 ∷ 95 ∷ 117 ∷ 54 ∷ 52 ∷ 59 ∷ 10 ∷ 108 ∷ 115 ∷ 104 ∷ 105 ∷ 102 ∷ 116 ∷ 95 ∷ 117 ∷ 54 ∷ 52
    ∷ 59 ∷ 10 ∷ 114 ∷ 115 ∷ 104 ∷ 105 ∷ 102 ∷ 116 ∷ 95 ∷ 117 ∷ 54 ∷ 52 ∷ 59 ∷ 10 ∷ 114 ∷ 115 ∷ 104 ∷ 105 ∷ 102 ∷ 116 ∷ 95 ∷ 105 ∷ 54 ∷ 52 ∷ 59
    ∷ 10 ∷ 101 ∷ 113 ∷ 95 ∷ 117 ∷ 54 ∷ 52 ∷ 59 ∷ 10 ∷ 110 ∷ 101 ∷ 95 ∷ 117 ∷ 54 ∷ 52 ∷ 59 ∷ 10 ∷ 103 ∷ 116 ∷ 95 ∷ 117 ∷ 54 ∷ 52 ∷ 59 ∷ 10 ∷ 103
    ∷ 101 ∷ 95 ∷ 117 ∷ 54 ∷ 52 ∷ 59 ∷ 10 ∷ 108 ∷ 116 ∷ 95 ∷ 117 ∷ 54 ∷ 52 ∷ 59 ∷ 10 ∷ 108 ∷ 101 ∷ 95 ∷ 117 ∷ 54 ∷ 52 ∷ 59 ∷ 10 ∷ 103 ∷ 116 ∷ 95
    ∷ 105 ∷ 54 ∷ 52 ∷ 59 ∷ 10 ∷ 103 ∷ 101 ∷ 95 ∷ 105 ∷ 54 ∷ 52 ∷ 59 ∷ 10 ∷ 108 ∷ 116 ∷ 95 ∷ 105 ∷ 54 ∷ 52 ∷ 59 ∷ 10 ∷ 108 ∷ 101 ∷ 95 ∷ 105 ∷ 54
    ∷ 52 ∷ 59 ∷ 10 ∷ 116 ∷ 114 ∷ 117 ∷ 110 ∷ 99 ∷ 95 ∷ 117 ∷ 56 ∷ 59 ∷ 10 ∷ 116 ∷ 114 ∷ 117 ∷ 110 ∷ 99 ∷ 95 ∷ 117 ∷ 49 ∷ 54 ∷ 59 ∷ 10 ∷ 116
    ∷ 114 ∷ 117 ∷ 110 ∷ 99 ∷ 95 ∷ 117 ∷ 51 ∷ 50 ∷ 59 ∷ 10 ∷ 115 ∷ 120 ∷ 95 ∷ 105 ∷ 56 ∷ 95 ∷ 105 ∷ 51 ∷ 50 ∷ 59 ∷ 10 ∷ 115 ∷ 120 ∷ 95 ∷ 105
    ∷ 49 ∷ 54 ∷ 95 ∷ 105 ∷ 51 ∷ 50 ∷ 59 ∷ 10 ∷ 115 ∷ 120 ∷ 95 ∷ 105 ∷ 56 ∷ 95 ∷ 105 ∷ 54 ∷ 52 ∷ 59 ∷ 10 ∷ 115 ∷ 120 ∷ 95 ∷ 105 ∷ 49 ∷ 54 ∷ 95
    ∷ 105 ∷ 54 ∷ 52 ∷ 59 ∷ 10 ∷ 115 ∷ 120 ∷ 95 ∷ 105 ∷ 51 ∷ 50 ∷ 95 ∷ 105 ∷ 54 ∷ 52 ∷ 59 ∷ 10 ∷ 108 ∷ 111 ∷ 97 ∷ 100 ∷ 95 ∷ 117 ∷ 56 ∷ 59 ∷ 10
    ∷ 108 ∷ 111 ∷ 97 ∷ 100 ∷ 95 ∷ 117 ∷ 49 ∷ 54 ∷ 59 ∷ 10 ∷ 108 ∷ 111 ∷ 97 ∷ 100 ∷ 95 ∷ 117 ∷ 51 ∷ 50 ∷ 59 ∷ 10 ∷ 108 ∷ 111 ∷ 97 ∷ 100 ∷ 95
    ∷ 117 ∷ 54 ∷ 52 ∷ 59 ∷ 10 ∷ 115 ∷ 116 ∷ 111 ∷ 114 ∷ 101 ∷ 95 ∷ 117 ∷ 56 ∷ 59 ∷ 10 ∷ 115 ∷ 116 ∷ 111 ∷ 114 ∷ 101 ∷ 95 ∷ 117 ∷ 49 ∷ 54 ∷ 59
    ∷ 10 ∷ 115 ∷ 116 ∷ 111 ∷ 114 ∷ 101 ∷ 95 ∷ 117 ∷ 51 ∷ 50 ∷ 59 ∷ 10 ∷ 115 ∷ 116 ∷ 111 ∷ 114 ∷ 101 ∷ 95 ∷ 117 ∷ 54 ∷ 52 ∷ 59 ∷ 10 ∷ 97 ∷ 116
    ∷ 111 ∷ 109 ∷ 105 ∷ 99 ∷ 95 ∷ 108 ∷ 111 ∷ 97 ∷ 100 ∷ 95 ∷ 117 ∷ 54 ∷ 52 ∷ 59 ∷ 10 ∷ 97 ∷ 116 ∷ 111 ∷ 109 ∷ 105 ∷ 99 ∷ 95 ∷ 115 ∷ 116 ∷ 111
    ∷ 114 ∷ 101 ∷ 95 ∷ 117 ∷ 54 ∷ 52 ∷ 59 ∷ 10 ∷ 97 ∷ 116 ∷ 111 ∷ 109 ∷ 105 ∷ 99 ∷ 95 ∷ 99 ∷ 97 ∷ 115 ∷ 95 ∷ 117 ∷ 54 ∷ 52 ∷ 59 ∷ 10 ∷ 115
    ∷ 121 ∷ 115 ∷ 99 ∷ 97 ∷ 108 ∷ 108 ∷ 32 ∷ 109 ∷ 101 ∷ 109 ∷ 99 ∷ 109 ∷ 112 ∷ 59 ∷ 10 ∷ 100 ∷ 117 ∷ 112 ∷ 59 ∷ 10 ∷ 112 ∷ 111 ∷ 112 ∷ 59 ∷ 10
    ∷ 114 ∷ 101 ∷ 116 ∷ 59 ∷ 10 ∷ 112 ∷ 97 ∷ 110 ∷ 105 ∷ 99 ∷ 59 ∷ 10 ∷ 116 ∷ 104 ∷ 114 ∷ 101 ∷ 97 ∷ 100 ∷ 95 ∷ 103 ∷ 101 ∷ 116 ∷ 32 ∷ 48 ∷ 59
    ∷ 10 ∷ 116 ∷ 104 ∷ 114 ∷ 101 ∷ 97 ∷ 100 ∷ 95 ∷ 115 ∷ 101 ∷ 116 ∷ 32 ∷ 48 ∷ 59 ∷ 10 ∷ 10
    ∷ 45 ∷ 45 ∷ 45 ∷ 45 ∷ 45 ∷ 45 ∷ 45 ∷ 45 ∷ 45 ∷ 45 ∷ 45 ∷ 45 ∷ 45 ∷ 45 ∷ 45 ∷ 45 ∷ 45 ∷ 45 ∷ 45 ∷ 45 ∷ 45 ∷ 45 ∷ 45 ∷ 45 ∷ []

unfoldable pub word_places : List ℕ
word_places =
    2 ∷ 64 ∷ 64 ∷ 68 ∷ 197 ∷ 357 ∷ 520 ∷ 776 ∷ 1029 ∷ 1192 ∷ 1450 ∷ 1770 ∷ 2088 ∷ 2348 ∷ 2731 ∷ 3083 ∷ 3434 ∷ 3759 ∷ 4239 ∷ 4718 ∷ 5166 ∷ 5609 ∷ 5897
    ∷ 6185 ∷ 6473 ∷ 6761 ∷ 7049 ∷ 7337 ∷ 7625 ∷ 7912 ∷ 8169 ∷ 8460 ∷ 8844 ∷ 9228 ∷ 9608 ∷ 9864 ∷ 10120 ∷ 10376 ∷ 10632 ∷ 10888 ∷ 11144 ∷ 11400 ∷ 11656
    ∷ 11912 ∷ 12169 ∷ 12457 ∷ 12745 ∷ 13033 ∷ 13321 ∷ 13609 ∷ 13897 ∷ 14185 ∷ 14472 ∷ 14729 ∷ 15020 ∷ 15404 ∷ 15788 ∷ 16168 ∷ 16424 ∷ 16680 ∷ 16936
    ∷ 17192 ∷ 17448 ∷ 17704 ∷ 17960 ∷ 18216 ∷ 18472 ∷ 18730 ∷ 19051 ∷ 19403 ∷ 19755 ∷ 20108 ∷ 20491 ∷ 20844 ∷ 21228 ∷ 21609 ∷ 21898 ∷ 22218 ∷ 22538
    ∷ 22858 ∷ 23179 ∷ 23531 ∷ 23883 ∷ 24241 ∷ 24786 ∷ 25360 ∷ 25872 ∷ 26373 ∷ 26533 ∷ 26693 ∷ 26855 ∷ 27086 ∷ 27534 ∷ 27969 ∷ []

-- the word of kind k, from its place p
unfoldable fits_at : ℕ → ℕ → Bool
fits_at k p = leb (p / 32 + 24) 899 && (leb (p % 32) 24 && same (take (p % 32) (drop (p / 32) word_letters)) (word k))

pub record WordAt (k p : ℕ) : Type 0 where
  pub room : p / 32 + 24 ≤ 899
  pub short : p % 32 ≤ 24
  pub is : take (p % 32) (drop (p / 32) word_letters) ≡ word k

all_fit : every fits_at 0 word_places ≡ true
unfolding fits_at word_places word_letters word_table word ended bytes same
all_fit = refl

pub letters_long : length word_letters ≡ 899
unfolding word_letters
letters_long = refl

pub places_long : length word_places ≡ 94
unfolding word_places
places_long = refl

-- the table's rule
word_at_lem : (k : ℕ) → k < 94 → WordAt k (get_or word_places k 0)
unfolding fits_at
word_at_lem k h =
    let t = holds fits_at word_places all_fit k (omega (arith, places_long)) in
    let p = both _ _ t in
    let q = both _ _ p.1 in
    record { room = leb-true _ _ p.0; short = leb-true _ _ q.0; is = (same_iff _ _).0 q.1 }

-- the tables that the code makes
pub record Tables (letters places : List ℕ) : Type 0 where
  pub letters_are : letters ≡ word_letters
  pub places_are : places ≡ word_places

-- the word of a kind by the tables
pub record Word (letters : List ℕ) (k p : ℕ) : Type 0 where
  pub room : p / 32 + 24 ≤ length letters
  pub short : p % 32 ≤ 24
  pub is : take (p % 32) (drop (p / 32) letters) ≡ word k

module _ {letters places : List ℕ} (t : Tables letters places) where
  pub kinds_known : length places ≡ 94
  kinds_known = ap length t.places_are ∙ places_long

  pub word_by : (k p : ℕ) → k < 94 → p ≡ get_or places k 0 → Word letters k p
  word_by k p h e =
      let w = rw (← t.places_are, ← e) at (word_at_lem k h) in
      record { room = omega (arith, w.room, ap length t.letters_are, letters_long); short = w.short; is = rw t.letters_are w.is }

-- how many letters the word has
pub word_size : (places : List ℕ) (k p : ℕ) → places ≡ word_places → k < 94 → p ≡ get_or places k 0 → length (word k) ≡ p % 32
word_size places k p t h e =
    let w = rw (← t, ← e) at (word_at_lem k h) in
    ap length (sym w.is) ∙ length-take-le (p % 32) (drop (p / 32) word_letters) (simp length-drop (omega (arith, w.room, w.short, letters_long)))

pub word_short : (k : ℕ) → k < 94 → length (word k) ≤ 24
word_short k h = omega (arith, (word_at_lem k h).short, word_size word_places k (get_or word_places k 0) refl h refl)

module _ {letters : List ℕ} {k p : ℕ} (w : Word letters k p) where
  pub word_long : length (word k) ≡ p % 32
  word_long = ap length (sym w.is) ∙ length-take-le (p % 32) (drop (p / 32) letters) (simp length-drop (omega (arith, w.room, w.short)))

  -- m letters from the word's start on are stored, as many as the word has or more
  pub word_wrote : (x y : List ℕ) (at end m : ℕ) → y ≡ sets x at (take m (drop (p / 32) letters)) → p % 32 ≤ m → m ≤ 24 → at + m ≤ end → end ≤ length x
      → Wrote (word k) at end x y (at + p % 32)
  word_wrote x y at end m e h g f i =
      let size : length (take m (drop (p / 32) letters)) ≡ m = length-take-le m (drop (p / 32) letters) (simp length-drop (omega (arith, w.room))) in
      let same : take (length (word k)) (take m (drop (p / 32) letters)) ≡ word k = rw (word_long, take-take (p % 32) m (drop (p / 32) letters) h) w.is in
      rw (e, ← word_long)
      (wrote_over (word k) (take m (drop (p / 32) letters)) x at end (omega (arith, size, word_long)) same (omega (arith, size)) i)

-- The printer on a small book: what each kind of docs/LINES.md prints, and the refusals.
use Rattle.std.specs.Prelude.{ℕ, ◌≡◌, refl, List, [], ◌∷◌, ◌++◌, map, length, take, replicate}
use Prim.Native.String.{String}
use Rattle.std.proofs.Math.Option.{none}
use Rattle.names.specs.Text.{bytes}
use Rattle.names.specs.Utf8.{encodes}
use Rattle.book.specs.Ast.{Ty, Terminator, BasicBlock, Book}
use Rattle.assembly.specs.Printer.{Printed, print, print_lines, printed_number, printed_bytes}
use Rattle.assembly.specs.Open.{open_assembly}

-- texts, each ended by byte 10
unfoldable pub unlines : List String → List ℕ
unlines [] = []
unlines (s ∷ ss) = bytes s ++ (10 ∷ unlines ss)

-- a book's u64s from its entries
unfoldable pub slice : List (ℕ × ℕ) → List String → List ℕ
slice es ns = length es ∷ length ns ∷ (map (λ e. e.0) es ++ map (λ e. e.1) es)

-- i32 @f(i32), block b: unreachable
unfoldable pub tiny_names : List String
tiny_names = "__uvm_time" ∷ "b" ∷ "f" ∷ "g" ∷ []

unfoldable pub tiny : List ℕ
tiny = slice ((5, 2) ∷ (11, 32) ∷ (6, 0) ∷ (11, 32) ∷ (0, 0) ∷ (7, 1) ∷ (93, 0) ∷ (0, 0) ∷ (0, 0) ∷ []) tiny_names

unfoldable pub all_kinds : List ℕ
all_kinds =
    0 ∷ 1 ∷ 2 ∷ 3 ∷ 4 ∷ 5 ∷ 6 ∷ 7 ∷ 8 ∷ 9 ∷ 10 ∷ 11 ∷ 12 ∷ 13 ∷ 14 ∷ 15 ∷ 16 ∷ 17 ∷ 18 ∷ 19 ∷ 20 ∷ 21 ∷ 22 ∷ 23 ∷ 24 ∷ 25 ∷ 26 ∷ 27 ∷ 28 ∷ 29 ∷ 30 ∷ 31
    ∷ 32 ∷ 33 ∷ 34 ∷ 35 ∷ 36 ∷ 37 ∷ 38 ∷ 39 ∷ 40 ∷ 41 ∷ 42 ∷ 43 ∷ 44 ∷ 45 ∷ 46 ∷ 47 ∷ 48 ∷ 49 ∷ 50 ∷ 51 ∷ 52 ∷ 53 ∷ 54 ∷ 55 ∷ 56 ∷ 57 ∷ 58 ∷ 59 ∷ 60 ∷ 61
    ∷ 62 ∷ 63 ∷ 64 ∷ 65 ∷ 66 ∷ 67 ∷ 68 ∷ 69 ∷ 70 ∷ 71 ∷ 72 ∷ 73 ∷ 74 ∷ 75 ∷ 76 ∷ 77 ∷ 78 ∷ 79 ∷ 80 ∷ 81 ∷ 82 ∷ 83 ∷ 84 ∷ 85 ∷ 86 ∷ 87 ∷ 88 ∷ 89 ∷ 90 ∷ 91
    ∷ 92 ∷ 93 ∷ []

-- an operand for each kind, and one too many
unfoldable pub an_operand : List ℕ
an_operand = 2 ∷ 2 ∷ 1 ∷ 1 ∷ 3 ∷ 770 ∷ 0 ∷ 3 ∷ 7 ∷ 0 ∷ 0 ∷ 0 ∷ 2 ∷ 7 ∷ 7 ∷ 7 ∷ 7 ∷ 7 ∷ 7 ∷ 7 ∷ 7 ∷ replicate 74 0

unfoldable pub their_text : List ℕ
their_text =
    unlines (
    "# i32 @f(1 params)" ∷ "f:" ∷ "f__b:" ∷ "jmp f__b;" ∷ "push g;" ∷ "call g, 2;" ∷ "syscall time;" ∷ "push_0n 3;" ∷ "push 7;" ∷ "get_arg 0;"
    ∷ "get_local 0;" ∷ "set_local 0;" ∷ "call_fp 2;" ∷ "__sel_false_7:" ∷ "__sel_done_7:" ∷ "__br_false_7:" ∷ "__sw_case_7:" ∷ "jz __sel_false_7;"
    ∷ "jmp __sel_done_7;" ∷ "jz __br_false_7;" ∷ "jnz __sw_case_7;" ∷ "add_u32;" ∷ "sub_u32;" ∷ "mul_u32;" ∷ "div_u32;" ∷ "div_i32;" ∷ "mod_u32;"
    ∷ "mod_i32;" ∷ "and_u32;" ∷ "or_u32;" ∷ "xor_u32;" ∷ "lshift_u32;" ∷ "rshift_u32;" ∷ "rshift_i32;" ∷ "eq_u32;" ∷ "ne_u32;" ∷ "gt_u32;" ∷ "ge_u32;"
    ∷ "lt_u32;" ∷ "le_u32;" ∷ "gt_i32;" ∷ "ge_i32;" ∷ "lt_i32;" ∷ "le_i32;" ∷ "add_u64;" ∷ "sub_u64;" ∷ "mul_u64;" ∷ "div_u64;" ∷ "div_i64;" ∷ "mod_u64;"
    ∷ "mod_i64;" ∷ "and_u64;" ∷ "or_u64;" ∷ "xor_u64;" ∷ "lshift_u64;" ∷ "rshift_u64;" ∷ "rshift_i64;" ∷ "eq_u64;" ∷ "ne_u64;" ∷ "gt_u64;" ∷ "ge_u64;"
    ∷ "lt_u64;" ∷ "le_u64;" ∷ "gt_i64;" ∷ "ge_i64;" ∷ "lt_i64;" ∷ "le_i64;" ∷ "trunc_u8;" ∷ "trunc_u16;" ∷ "trunc_u32;" ∷ "sx_i8_i32;" ∷ "sx_i16_i32;"
    ∷ "sx_i8_i64;" ∷ "sx_i16_i64;" ∷ "sx_i32_i64;" ∷ "load_u8;" ∷ "load_u16;" ∷ "load_u32;" ∷ "load_u64;" ∷ "store_u8;" ∷ "store_u16;" ∷ "store_u32;"
    ∷ "store_u64;" ∷ "atomic_load_u64;" ∷ "atomic_store_u64;" ∷ "atomic_cas_u64;" ∷ "syscall memcmp;" ∷ "dup;" ∷ "pop;" ∷ "ret;" ∷ "panic;"
    ∷ "thread_get 0;" ∷ "thread_set 0;" ∷ "" ∷ [])

-- every kind prints what docs/LINES.md says; the byte behind the text stays
pub kinds_print :
    print tiny (unlines tiny_names) all_kinds an_operand (replicate 965 33)
    ≡ record { reply = Printed.accepted 964; text = their_text ++ (33 ∷ []) }
unfolding open_assembly unlines slice tiny_names tiny all_kinds an_operand their_text
kinds_print = refl

-- other shapes of operands: a name that isn't a label, large numbers
pub others_print :
    print (slice ((5, 1) ∷ (14, 2) ∷ (15, 2) ∷ (0, 0) ∷ (7, 0) ∷ (93, 0) ∷ (0, 0) ∷ (0, 0) ∷ []) ("e-1" ∷ "f" ∷ "v$" ∷ [])) (unlines ("e-1" ∷ "f" ∷ "v$" ∷ []))
    (0 ∷ 2 ∷ 4 ∷ 5 ∷ 8 ∷ []) (1 ∷ 0 ∷ 2 ∷ 767 ∷ 18446744073709551615 ∷ []) (replicate 83 33)
    ≡ record {
      reply = Printed.accepted 83;
      text = unlines ("# <2 x %v$> @f(0 params)" ∷ "f__e_1:" ∷ "push v_;" ∷ "call v_, 255;" ∷ "push 18446744073709551615;" ∷ []);
    }
unfolding open_assembly unlines slice
others_print = refl

-- characters outside ASCII, of two, three and four bytes: in the comment and in a syscall as they are, else one `_` each
unfoldable pub letters : List String
letters = "__uvm_říct" ∷ "zpěv" ∷ "árie" ∷ "č" ∷ "Ž€😀" ∷ []

pub letters_print :
    print (slice ((5, 2) ∷ (13, 2) ∷ (15, 4) ∷ (0, 0) ∷ (7, 3) ∷ (93, 0) ∷ (0, 0) ∷ (0, 0) ∷ []) letters) (encodes (unlines letters))
    (0 ∷ 1 ∷ 2 ∷ 3 ∷ 4 ∷ 5 ∷ 6 ∷ []) (2 ∷ 2 ∷ 3 ∷ 3 ∷ 4 ∷ 257 ∷ 0 ∷ []) (replicate 104 33)
    ≡ record {
      reply = Printed.accepted 104;
      text = encodes (unlines ("# [2 x %Ž€😀] @árie(0 params)" ∷ "_rie:" ∷ "_rie___:" ∷ "jmp _rie___;" ∷ "push ___;" ∷ "call zp_v, 1;" ∷ "syscall říct;" ∷ []));
    }
unfolding open_assembly unlines slice letters
letters_print = refl

-- the reply's number for one line and a text slice of this length
unfoldable pub shows : (kind operand room : ℕ) → ℕ
shows k x room = printed_number (print tiny (unlines tiny_names) (k ∷ []) (x ∷ []) (replicate room 33)).reply

-- 21 for unknown kinds and operands that aren't allowed, 20 for text that doesn't fit
pub printer_refusals :
    (shows 65535 0 64 ∷ shows 94 0 64 ∷ shows 7 0 64 ∷ shows 7 65535 64 ∷ shows 7 65536 64 ∷ shows 1 4 64 ∷ shows 0 1 64 ∷ shows 0 2 64
    ∷ shows 6 0 64 ∷ shows 6 1 64 ∷ shows 21 1 64 ∷ shows 12 255 64 ∷ shows 12 256 64 ∷ shows 5 1023 64 ∷ shows 5 1024 64
    ∷ shows 8 5 7 ∷ shows 8 5 6 ∷ shows 93 0 0 ∷ [])
    ≡ 21 ∷ 21 ∷ 21 ∷ 0 ∷ 21 ∷ 21 ∷ 21 ∷ 0 ∷ 0 ∷ 21 ∷ 21 ∷ 0 ∷ 21 ∷ 0 ∷ 21 ∷ 20 ∷ 20 ∷ 20 ∷ []
unfolding open_assembly unlines slice tiny_names tiny shows
printer_refusals = refl

-- 1 before 2 before 21 before 20, and nothing changed
pub printer_order :
    (print [] [] (94 ∷ []) (0 ∷ []) [] ∷ print tiny [] (94 ∷ []) (0 ∷ []) (1 ∷ []) ∷ print tiny (unlines tiny_names) (94 ∷ []) (0 ∷ []) (1 ∷ []) ∷ [])
    ≡ record { reply = Printed.refused 1; text = [] } ∷ record { reply = Printed.refused 2; text = 1 ∷ [] } ∷ record { reply = Printed.refused 21; text = 1 ∷ [] } ∷ []
unfolding open_assembly unlines slice tiny_names tiny
printer_order = refl

-- ---- a book of two functions: i32 @f(i32) and void @g(), of other types and numbers of parameters and with a block b each
unfoldable pub two_names : List (List ℕ)
two_names = map bytes ("b" ∷ "f" ∷ "g" ∷ [])

unfoldable pub one_block : List BasicBlock
one_block = record { label = 0; insts = []; term = Terminator.unreachable } ∷ []

unfoldable pub two_functions : Book
two_functions = record {
  marks = [];
  structs = [];
  functions =
      record { name = 1; ret_ty = Ty.int 32; params = record { ty = Ty.int 32; name = none } ∷ []; blocks = one_block }
      ∷ record { name = 2; ret_ty = Ty.void; params = []; blocks = one_block } ∷ [];
}

-- the text of lines of this book, from their kinds and operands
unfoldable pub of_two : (kinds operands : List ℕ) → List ℕ
of_two ks xs = let p = print_lines two_names two_functions ks xs (replicate 200 33) in take (printed_bytes p.reply) p.text

-- a comment prints the return type and the parameters of the function that it names; a block label and a jump take the function of the last
-- comment line before them, in either order, also where a comment stands twice
pub two_print :
    (of_two (0 ∷ 1 ∷ 2 ∷ 3 ∷ 0 ∷ 1 ∷ 2 ∷ 3 ∷ []) (1 ∷ 1 ∷ 0 ∷ 0 ∷ 2 ∷ 2 ∷ 0 ∷ 0 ∷ [])
    ∷ of_two (0 ∷ 2 ∷ 0 ∷ 2 ∷ []) (2 ∷ 0 ∷ 1 ∷ 0 ∷ [])
    ∷ of_two (0 ∷ 0 ∷ 2 ∷ 0 ∷ 3 ∷ []) (1 ∷ 2 ∷ 0 ∷ 2 ∷ 0 ∷ []) ∷ [])
    ≡ unlines ("# i32 @f(1 params)" ∷ "f:" ∷ "f__b:" ∷ "jmp f__b;" ∷ "# void @g(0 params)" ∷ "g:" ∷ "g__b:" ∷ "jmp g__b;" ∷ [])
    ∷ unlines ("# void @g(0 params)" ∷ "g__b:" ∷ "# i32 @f(1 params)" ∷ "f__b:" ∷ [])
    ∷ unlines ("# i32 @f(1 params)" ∷ "# void @g(0 params)" ∷ "g__b:" ∷ "# void @g(0 params)" ∷ "jmp g__b;" ∷ []) ∷ []
unfolding open_assembly unlines two_names one_block two_functions of_two
two_print = refl

-- lines without a function's name may stand before any comment line
pub two_before : of_two (1 ∷ 8 ∷ 14 ∷ 0 ∷ 2 ∷ []) (2 ∷ 7 ∷ 7 ∷ 2 ∷ 0 ∷ []) ≡ unlines ("g:" ∷ "push 7;" ∷ "__sel_done_7:" ∷ "# void @g(0 params)" ∷ "g__b:" ∷ [])
unfolding open_assembly unlines two_names one_block two_functions of_two
two_before = refl

-- the reply's number for lines of this book and a text slice of this length
unfoldable pub shows_two : (kinds operands : List ℕ) (room : ℕ) → ℕ
shows_two ks xs room = printed_number (print_lines two_names two_functions ks xs (replicate room 33)).reply

-- 21 for a block label or a jump before any comment, though one follows, and for a comment that names no function, both before 20
pub two_refusals :
    (shows_two (2 ∷ 0 ∷ []) (0 ∷ 1 ∷ []) 64 ∷ shows_two (8 ∷ 3 ∷ 0 ∷ []) (7 ∷ 0 ∷ 1 ∷ []) 64 ∷ shows_two (0 ∷ 0 ∷ []) (1 ∷ 0 ∷ []) 64 ∷ shows_two (0 ∷ []) (3 ∷ []) 64
    ∷ shows_two (8 ∷ 2 ∷ []) (7 ∷ 0 ∷ []) 0 ∷ shows_two (0 ∷ 2 ∷ []) (2 ∷ 0 ∷ []) 25 ∷ shows_two (0 ∷ 2 ∷ []) (2 ∷ 0 ∷ []) 26 ∷ [])
    ≡ 21 ∷ 21 ∷ 21 ∷ 21 ∷ 21 ∷ 20 ∷ 0 ∷ []
unfolding open_assembly two_names one_block two_functions shows_two
two_refusals = refl

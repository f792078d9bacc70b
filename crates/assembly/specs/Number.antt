-- The number of a line's kind and its operand, as docs/LINES.md lists them, and the line of two such numbers (document 01, "The book", last paragraph).
use Rattle.std.specs.Prelude.{ℕ, ◌+◌, ◌-◌, ◌*◌, ◌/◌, ◌%◌, Bool, true, false, ◌&&◌, cond, List, [], ◌∷◌, ◌++◌, map, length, eqb, leb, ltb}
use Rattle.std.proofs.Math.Option.{Option, none, some}
use Rattle.std.proofs.Math.ListN.{get_elem?}
use Rattle.book.specs.Ast.{BinOp, ICmpPred, Book}
use Rattle.book.specs.Kinds.{InstTag, inst_kind}
use Rattle.book.specs.Decode.{member, function_names}
use Rattle.names.specs.Name.{name_at}
use Rattle.names.specs.Spelling.{is_syscall}
use Rattle.assembly.specs.Line.{Line, Work, Mem, Narrow, Hint}

-- so many kinds there are
abbrev pub line_kinds : ℕ
line_kinds = 94

-- ---- the kind of a line
unfoldable pub hint_number : Hint → ℕ
hint_number Hint.sel_false = 0
hint_number Hint.sel_done = 1
hint_number Hint.br_false = 2
hint_number Hint.sw_case = 3

unfoldable pub mem_number : Mem → ℕ
mem_number Mem.m8 = 0
mem_number Mem.m16 = 1
mem_number Mem.m32 = 2
mem_number Mem.m64 = 3

unfoldable pub narrow_number : Narrow → ℕ
narrow_number Narrow.n8 = 0
narrow_number Narrow.n16 = 1
narrow_number Narrow.n32 = 2

-- 13 operations and 10 comparisons, from 0 in ast.rs order
unfoldable pub bin_number : BinOp → ℕ
bin_number op = inst_kind (InstTag.bin op) - 40

unfoldable pub icmp_number : ICmpPred → ℕ
icmp_number p = inst_kind (InstTag.icmp p) - 60 + 13

-- the kind of an operation by its number and working width
unfoldable pub operation : ℕ → Work → ℕ
operation n Work.w32 = 21 + n
operation n Work.w64 = 44 + n

unfoldable pub kind_of : Line → ℕ
kind_of (Line.comment x) = 0
kind_of (Line.fn_label x) = 1
kind_of (Line.block_label x) = 2
kind_of (Line.jmp_block x) = 3
kind_of (Line.push_name x) = 4
kind_of (Line.call x k) = 5
kind_of (Line.syscall x) = 6
kind_of (Line.push0n n) = 7
kind_of (Line.push n) = 8
kind_of (Line.get_arg n) = 9
kind_of (Line.get_local n) = 10
kind_of (Line.set_local n) = 11
kind_of (Line.call_fp n) = 12
kind_of (Line.label h n) = 13 + hint_number h
kind_of (Line.jump h n) = 17 + hint_number h
kind_of (Line.bin op w) = operation (bin_number op) w
kind_of (Line.icmp p w) = operation (icmp_number p) w
kind_of (Line.trunc n) = 67 + narrow_number n
kind_of (Line.sx8 Work.w32) = 70
kind_of (Line.sx16 Work.w32) = 71
kind_of (Line.sx8 Work.w64) = 72
kind_of (Line.sx16 Work.w64) = 73
kind_of Line.sx32 = 74
kind_of (Line.load m) = 75 + mem_number m
kind_of (Line.store m) = 79 + mem_number m
kind_of Line.atomic_load = 83
kind_of Line.atomic_store = 84
kind_of Line.atomic_cas = 85
kind_of Line.sys_memcmp = 86
kind_of Line.dup = 87
kind_of Line.pop = 88
kind_of Line.ret = 89
kind_of Line.panic = 90
kind_of Line.thread_get = 91
kind_of Line.thread_set = 92
kind_of Line.blank = 93

-- ---- its operand: "a call's is name × 256 + arguments", "else 0"
unfoldable pub operand_of : Line → ℕ
operand_of (Line.comment x) = x
operand_of (Line.fn_label x) = x
operand_of (Line.block_label x) = x
operand_of (Line.jmp_block x) = x
operand_of (Line.push_name x) = x
operand_of (Line.call x k) = x * 256 + k
operand_of (Line.syscall x) = x
operand_of (Line.push0n n) = n
operand_of (Line.push n) = n
operand_of (Line.get_arg n) = n
operand_of (Line.get_local n) = n
operand_of (Line.set_local n) = n
operand_of (Line.call_fp n) = n
operand_of (Line.label h n) = n
operand_of (Line.jump h n) = n
operand_of (Line.bin op w) = 0
operand_of (Line.icmp p w) = 0
operand_of (Line.trunc n) = 0
operand_of (Line.sx8 w) = 0
operand_of (Line.sx16 w) = 0
operand_of Line.sx32 = 0
operand_of (Line.load m) = 0
operand_of (Line.store m) = 0
operand_of Line.atomic_load = 0
operand_of Line.atomic_store = 0
operand_of Line.atomic_cas = 0
operand_of Line.sys_memcmp = 0
operand_of Line.dup = 0
operand_of Line.pop = 0
operand_of Line.ret = 0
operand_of Line.panic = 0
operand_of Line.thread_get = 0
operand_of Line.thread_set = 0
operand_of Line.blank = 0

-- ---- the line of a kind and an operand
unfoldable pub bins : List BinOp
bins =
    BinOp.add ∷ BinOp.sub ∷ BinOp.mul ∷ BinOp.udiv ∷ BinOp.sdiv ∷ BinOp.urem ∷ BinOp.srem
    ∷ BinOp.and ∷ BinOp.or ∷ BinOp.xor ∷ BinOp.shl ∷ BinOp.lshr ∷ BinOp.ashr ∷ []

unfoldable pub preds : List ICmpPred
preds =
    ICmpPred.eq ∷ ICmpPred.ne ∷ ICmpPred.ugt ∷ ICmpPred.uge ∷ ICmpPred.ult
    ∷ ICmpPred.ule ∷ ICmpPred.sgt ∷ ICmpPred.sge ∷ ICmpPred.slt ∷ ICmpPred.sle ∷ []

-- the 23 operations at a working width
unfoldable pub operations : Work → List Line
operations w = map (λ op. Line.bin op w) bins ++ map (λ p. Line.icmp p w) preds

-- kinds 0 to 20: the lines with an operand
unfoldable pub with_operand : List (ℕ → Line)
with_operand =
    Line.comment ∷ Line.fn_label ∷ Line.block_label ∷ Line.jmp_block ∷ Line.push_name
    ∷ (λ x. Line.call (x / 256) (x % 256)) ∷ Line.syscall
    ∷ Line.push0n ∷ Line.push ∷ Line.get_arg ∷ Line.get_local ∷ Line.set_local ∷ Line.call_fp
    ∷ Line.label Hint.sel_false ∷ Line.label Hint.sel_done ∷ Line.label Hint.br_false ∷ Line.label Hint.sw_case
    ∷ Line.jump Hint.sel_false ∷ Line.jump Hint.sel_done ∷ Line.jump Hint.br_false ∷ Line.jump Hint.sw_case ∷ []

-- kinds from 21 on: the lines without
unfoldable pub bare : List Line
bare =
    operations Work.w32 ++ (operations Work.w64 ++ (
    Line.trunc Narrow.n8 ∷ Line.trunc Narrow.n16 ∷ Line.trunc Narrow.n32
    ∷ Line.sx8 Work.w32 ∷ Line.sx16 Work.w32 ∷ Line.sx8 Work.w64 ∷ Line.sx16 Work.w64 ∷ Line.sx32
    ∷ Line.load Mem.m8 ∷ Line.load Mem.m16 ∷ Line.load Mem.m32 ∷ Line.load Mem.m64
    ∷ Line.store Mem.m8 ∷ Line.store Mem.m16 ∷ Line.store Mem.m32 ∷ Line.store Mem.m64
    ∷ Line.atomic_load ∷ Line.atomic_store ∷ Line.atomic_cas ∷ Line.sys_memcmp
    ∷ Line.dup ∷ Line.pop ∷ Line.ret ∷ Line.panic ∷ Line.thread_get ∷ Line.thread_set ∷ Line.blank ∷ []))

unfoldable pub applied : Option (ℕ → Line) → ℕ → Option Line
applied none x = none
applied (some f) x = some (f x)

unfoldable pub kept : Bool → Option Line → Option Line
kept true l = l
kept false l = none

-- whatever the operand, but for "else 0"
unfoldable pub form_of : ℕ → ℕ → Option Line
form_of k x = cond (ltb k 21) (applied (get_elem? with_operand k) x) (kept (eqb x 0) (get_elem? bare (k - 21)))

module _ (names : List (List ℕ)) (b : Book) where
  unfoldable pub is_name : ℕ → Bool
  is_name x = ltb x (length names)

  -- "Allowed are names of the book (for a syscall with `__uvm_`, for a comment a function here), slots to 65,535, `push_0n` 1 to 65,535,
  -- `call_fp` to 255, any number for `push`, `get_arg` and numbered labels, else 0"
  unfoldable pub allowed : Line → Bool
  allowed (Line.comment x) = member x (function_names b)
  allowed (Line.fn_label x) = is_name x
  allowed (Line.block_label x) = is_name x
  allowed (Line.jmp_block x) = is_name x
  allowed (Line.push_name x) = is_name x
  allowed (Line.call x k) = is_name x && leb k 255
  allowed (Line.syscall x) = is_name x && is_syscall (name_at names x)
  allowed (Line.push0n n) = leb 1 n && leb n 65535
  allowed (Line.push n) = true
  allowed (Line.get_arg n) = true
  allowed (Line.get_local n) = leb n 65535
  allowed (Line.set_local n) = leb n 65535
  allowed (Line.call_fp n) = leb n 255
  allowed (Line.label h n) = true
  allowed (Line.jump h n) = true
  allowed (Line.bin op w) = true
  allowed (Line.icmp p w) = true
  allowed (Line.trunc n) = true
  allowed (Line.sx8 w) = true
  allowed (Line.sx16 w) = true
  allowed Line.sx32 = true
  allowed (Line.load m) = true
  allowed (Line.store m) = true
  allowed Line.atomic_load = true
  allowed Line.atomic_store = true
  allowed Line.atomic_cas = true
  allowed Line.sys_memcmp = true
  allowed Line.dup = true
  allowed Line.pop = true
  allowed Line.ret = true
  allowed Line.panic = true
  allowed Line.thread_get = true
  allowed Line.thread_set = true
  allowed Line.blank = true

  unfoldable pub if_allowed : Option Line → Option Line
  if_allowed none = none
  if_allowed (some l) = kept (allowed l) (some l)

  -- a line, or none: an unknown kind, or an operand that its kind doesn't allow
  unfoldable pub line_of : ℕ → ℕ → Option Line
  line_of k x = if_allowed (form_of k x)

-- opens every definition of this file, for an example that computes
unfoldable pub open_number : Unit {0}
unfolding hint_number mem_number narrow_number bin_number icmp_number operation kind_of operand_of bins preds operations with_operand bare applied kept form_of is_name member allowed if_allowed line_of
open_number = tt

-- codegen.rs: widths, `push_value`, `store_dest`, `emit_sext`, `emit_trunc_to`.
use Rattle.std.specs.Prelude.{ℕ, ◌-◌, ◌^◌, min, cond, List, [], ◌∷◌, eqb, leb, ltb}
use Rattle.std.proofs.Math.Option.{Option, none, some}
use Rattle.numbers.specs.Width.{mask_to_width}
use Rattle.book.specs.Ast.{Ty, Value, BinOp}
use Rattle.book.specs.Rule.{pick}
use Rattle.book.specs.Result.{Result, ok, err, ok_or}
use Rattle.assembly.specs.Line.{Line, Work, Narrow}
use Rattle.lowering.specs.Gen.{Gen, lines, line, refuse, ◌>>=◌, ◌>>◌, when, choose}
use Rattle.lowering.specs.Context.{FnCtx, slot_of}
use Rattle.book.specs.Map.{lookup}

-- ---- widths
-- `int_width`; without floats `scalar_width` is the same
unfoldable pub int_width : Ty → Result ℕ
int_width (Ty.int w) = ok w
int_width Ty.ptr = ok 64
int_width Ty.void = err 9
int_width (Ty.sizeless s) = err 9
int_width (Ty.array p n t) = err 9
int_width (Ty.named_struct x) = err 9
int_width (Ty.struct p ts) = err 9

-- the working width of w bits, 32 up to 32 and else 64: as a number, and as a line has it
unfoldable pub work_bits : ℕ → ℕ
work_bits w = cond (leb w 32) 32 64

unfoldable pub work_of : ℕ → Work
work_of w = cond (leb w 32) Work.w32 Work.w64

-- ---- `emit_trunc_to`
unfoldable pub trunc_lines : ℕ → List Line
trunc_lines w =
    cond (eqb w 1) (Line.push 1 ∷ Line.bin BinOp.and Work.w32 ∷ [])
    (cond (eqb w 8) (Line.trunc Narrow.n8 ∷ [])
    (cond (eqb w 16) (Line.trunc Narrow.n16 ∷ [])
    (cond (eqb w 32) (Line.trunc Narrow.n32 ∷ []) [])))

unfoldable pub emit_trunc_to : ℕ → Gen
emit_trunc_to w = lines (trunc_lines w)

-- ---- `emit_sext`
-- all ones of a width
unfoldable pub ones : ℕ → ℕ
ones w = 2 ^ min w 64 - 1

unfoldable pub sext_bit : ℕ → Gen
sext_bit to = do
  line (Line.push 1)
  line (Line.bin BinOp.and (work_of to))
  line (Line.push (ones to))
  line (Line.bin BinOp.mul (work_of to))

unfoldable pub sx32_to : Work → Option Line
sx32_to Work.w32 = none
sx32_to Work.w64 = some Line.sx32

-- from 8, 16 or 32 bits to a working width that is larger
unfoldable pub sx_line : ℕ → Work → Option Line
sx_line from mid = pick (eqb from 8) (some (Line.sx8 mid)) (pick (eqb from 16) (some (Line.sx16 mid)) (pick (eqb from 32) (sx32_to mid) none))

unfoldable pub sext_more : (from to : ℕ) → Gen
sext_more from to = do
  sx ← ok_or 13 (sx_line from (work_of to))
  line sx
  when (ltb to (work_bits to)) (emit_trunc_to to)

unfoldable pub emit_sext : (from to : ℕ) → Gen
emit_sext from to = choose (eqb from 1) (sext_bit to) (sext_more from to)

-- ---- `push_int`, `push_value`
unfoldable pub push_int : (v width : ℕ) → Gen
push_int v width = line (Line.push (mask_to_width v width))

-- "A local is a parameter first"
unfoldable pub local_line : (arg slot : Option ℕ) → Result Line
local_line (some i) slot = ok (Line.get_arg i)
local_line none (some s) = ok (Line.get_local s)
local_line none none = err 10

-- two lines that stand behind many operands
unfoldable pub add64 : Gen
add64 = line (Line.bin BinOp.add Work.w64)

unfoldable pub mul64 : Gen
mul64 = line (Line.bin BinOp.mul Work.w64)

module _ (c : FnCtx) where
  unfoldable pub push_value : Value → (width : ℕ) → Gen
  push_value (Value.local x) width = do
    l ← local_line (lookup x c.params) (lookup x c.slots)
    line l
  push_value (Value.int v) width = push_int v width
  push_value (Value.zero z) width = line (Line.push 0)
  push_value (Value.global x) width = line (Line.push_name x)
  push_value Value.other width = refuse 3

  -- a value at its type's width: arguments, results, copies
  unfoldable pub push_typed : Ty → Value → Gen
  push_typed ty val = do
    w ← int_width ty
    push_value val w

  -- `store_dest`
  unfoldable pub store_dest : Option ℕ → Gen
  store_dest dest = do
    slot ← slot_of c dest
    line (Line.set_local slot)

  -- a call's result: into its slot, or dropped
  unfoldable pub store_or_pop : Option ℕ → Gen
  store_or_pop none = line Line.pop
  store_or_pop (some x) = store_dest (some x)

-- opens every definition of this file, for an example that computes
unfoldable pub open_operand : Unit {0}
unfolding int_width work_bits work_of trunc_lines emit_trunc_to ones sext_bit sx32_to sx_line sext_more emit_sext push_int local_line add64 mul64 push_value push_typed store_dest store_or_pop
open_operand = tt

-- The text of a line, as bytes: what codegen.rs formats at each `line(..)`.
use Rattle.std.specs.Prelude.{ℕ, true, false, List, [], ◌∷◌, ◌++◌, length, drop}
use Prim.Native.String.{String}
use Rattle.numbers.specs.Digits.{decimal}
use Rattle.names.specs.Text.{bytes}
use Rattle.names.specs.Name.{name_at}
use Rattle.names.specs.Spelling.{sanitize}
use Rattle.book.specs.Ast.{Ty, Sizeless, BinOp, ICmpPred, Function}
use Rattle.assembly.specs.Line.{Line, Work, Mem, Narrow, Hint}

-- ---- parts of mnemonics
unfoldable pub work_text : Work → String
work_text Work.w32 = "32"
work_text Work.w64 = "64"

unfoldable pub mem_text : Mem → String
mem_text Mem.m8 = "8"
mem_text Mem.m16 = "16"
mem_text Mem.m32 = "32"
mem_text Mem.m64 = "64"

unfoldable pub narrow_text : Narrow → String
narrow_text Narrow.n8 = "8"
narrow_text Narrow.n16 = "16"
narrow_text Narrow.n32 = "32"

-- `bin_mnemonic`, up to the width
unfoldable pub bin_text : BinOp → String
bin_text BinOp.add = "add_u"
bin_text BinOp.sub = "sub_u"
bin_text BinOp.mul = "mul_u"
bin_text BinOp.udiv = "div_u"
bin_text BinOp.sdiv = "div_i"
bin_text BinOp.urem = "mod_u"
bin_text BinOp.srem = "mod_i"
bin_text BinOp.and = "and_u"
bin_text BinOp.or = "or_u"
bin_text BinOp.xor = "xor_u"
bin_text BinOp.shl = "lshift_u"
bin_text BinOp.lshr = "rshift_u"
bin_text BinOp.ashr = "rshift_i"

-- `icmp_mnemonic`, up to the width
unfoldable pub icmp_text : ICmpPred → String
icmp_text ICmpPred.eq = "eq_u"
icmp_text ICmpPred.ne = "ne_u"
icmp_text ICmpPred.ugt = "gt_u"
icmp_text ICmpPred.uge = "ge_u"
icmp_text ICmpPred.ult = "lt_u"
icmp_text ICmpPred.ule = "le_u"
icmp_text ICmpPred.sgt = "gt_i"
icmp_text ICmpPred.sge = "ge_i"
icmp_text ICmpPred.slt = "lt_i"
icmp_text ICmpPred.sle = "le_i"

-- `fresh_label`, up to the number
unfoldable pub hint_text : Hint → String
hint_text Hint.sel_false = "__sel_false_"
hint_text Hint.sel_done = "__sel_done_"
hint_text Hint.br_false = "__br_false_"
hint_text Hint.sw_case = "__sw_case_"

-- the jump that goes to such a label
unfoldable pub jump_text : Hint → String
jump_text Hint.sel_false = "jz"
jump_text Hint.sel_done = "jmp"
jump_text Hint.br_false = "jz"
jump_text Hint.sw_case = "jnz"

unfoldable pub hinted : Hint → ℕ → List ℕ
hinted h n = bytes (hint_text h) ++ decimal n

-- ---- shapes of lines
-- `m;`
unfoldable pub plain : String → List ℕ
plain m = bytes m ++ bytes ";"

-- `m` with a width behind it
unfoldable pub sized : String → String → List ℕ
sized m w = bytes m ++ plain w

-- `m x;`
unfoldable pub with1 : String → List ℕ → List ℕ
with1 m x = bytes m ++ (bytes " " ++ (x ++ bytes ";"))

-- `x:`
unfoldable pub labelled : List ℕ → List ℕ
labelled x = x ++ bytes ":"

module _ (names : List (List ℕ)) where
  -- a name as a label
  unfoldable pub clean : ℕ → List ℕ
  clean x = sanitize (name_at names x)

  -- `type_str`
  unfoldable pub type_text : Ty → List ℕ
  type_text Ty.void = bytes "void"
  type_text (Ty.int w) = bytes "i" ++ decimal w
  type_text Ty.ptr = bytes "ptr"
  type_text (Ty.array false n t) = bytes "[" ++ (decimal n ++ (bytes " x " ++ (type_text t ++ bytes "]")))
  type_text (Ty.array true n t) = bytes "<" ++ (decimal n ++ (bytes " x " ++ (type_text t ++ bytes ">")))
  type_text (Ty.struct p ts) = bytes "struct"
  type_text (Ty.named_struct x) = bytes "%" ++ name_at names x
  type_text (Ty.sizeless Sizeless.func) = bytes "fn"
  type_text (Ty.sizeless Sizeless.label) = bytes "label"
  type_text (Ty.sizeless Sizeless.metadata) = bytes "metadata"

  -- `block_label`: f is the function's name
  unfoldable pub block_text : (f block : ℕ) → List ℕ
  block_text f x = clean f ++ (bytes "__" ++ clean x)

  -- a function's opening comment
  unfoldable pub comment_text : Function → List ℕ
  comment_text f =
      bytes "# " ++ (type_text f.ret_ty ++ (bytes " @" ++ (name_at names f.name ++ (bytes "(" ++ (decimal (length f.params) ++ bytes " params)")))))

  -- the text of a line of the function f
  unfoldable pub text : Function → Line → List ℕ
  text f (Line.comment x) = comment_text f
  text f (Line.fn_label x) = labelled (clean x)
  text f (Line.block_label x) = labelled (block_text f.name x)
  text f (Line.jmp_block x) = with1 "jmp" (block_text f.name x)
  text f (Line.push_name x) = with1 "push" (clean x)
  text f (Line.call x k) = with1 "call" (clean x ++ (bytes ", " ++ decimal k))
  text f (Line.syscall x) = with1 "syscall" (drop (length (bytes "__uvm_")) (name_at names x))
  text f (Line.push0n n) = with1 "push_0n" (decimal n)
  text f (Line.push n) = with1 "push" (decimal n)
  text f (Line.get_arg n) = with1 "get_arg" (decimal n)
  text f (Line.get_local n) = with1 "get_local" (decimal n)
  text f (Line.set_local n) = with1 "set_local" (decimal n)
  text f (Line.call_fp k) = with1 "call_fp" (decimal k)
  text f (Line.label h n) = labelled (hinted h n)
  text f (Line.jump h n) = with1 (jump_text h) (hinted h n)
  text f (Line.bin op w) = sized (bin_text op) (work_text w)
  text f (Line.icmp p w) = sized (icmp_text p) (work_text w)
  text f (Line.trunc n) = sized "trunc_u" (narrow_text n)
  text f (Line.sx8 w) = sized "sx_i8_i" (work_text w)
  text f (Line.sx16 w) = sized "sx_i16_i" (work_text w)
  text f Line.sx32 = plain "sx_i32_i64"
  text f (Line.load m) = sized "load_u" (mem_text m)
  text f (Line.store m) = sized "store_u" (mem_text m)
  text f Line.atomic_load = plain "atomic_load_u64"
  text f Line.atomic_store = plain "atomic_store_u64"
  text f Line.atomic_cas = plain "atomic_cas_u64"
  text f Line.sys_memcmp = plain "syscall memcmp"
  text f Line.dup = plain "dup"
  text f Line.pop = plain "pop"
  text f Line.ret = plain "ret"
  text f Line.panic = plain "panic"
  text f Line.thread_get = plain "thread_get 0"
  text f Line.thread_set = plain "thread_set 0"
  text f Line.blank = []

  -- lines of the function f: each is ended by byte 10, the empty one too
  unfoldable pub texts : Function → List Line → List ℕ
  texts f [] = []
  texts f (l ∷ ls) = text f l ++ (10 ∷ texts f ls)

-- opens every definition of this file, for an example that computes
unfoldable pub open_text : Unit {0}
unfolding work_text mem_text narrow_text bin_text icmp_text hint_text jump_text hinted plain sized with1 labelled clean type_text block_text comment_text text texts
open_text = tt

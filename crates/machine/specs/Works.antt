-- Where a line does not fail: "A zero divisor, an overflowing signed division or remainder, a shift by the width or more, `panic` or anything missing fails", turned
-- round, a condition for each line in positive words. Nothing here asks what a line does; that a step fails nowhere else is proved (`Exact`, `step-works`).
use Rattle.std.specs.Prelude.{ℕ, ◌<◌, ◌≤◌, ◌≡◌, List, ◌∷◌, length}
use Rattle.std.proofs.Math.Option.{Option, some}
use Rattle.names.specs.Name.{name_at}
use Rattle.book.specs.Ast.{BinOp, ICmpPred}
use Rattle.assembly.specs.Line.{Line, Work, Mem, Narrow, Hint}
use Rattle.assembly.specs.Text.{block_text, hinted}
use Rattle.machine.specs.Signed.{signed, least, minus_one}
use Rattle.machine.specs.State.{Shape, World, Frame, cell_at, memcmp, shape_of, printed_name}
use Rattle.machine.specs.Labels.{Placed, label_of}
use Rattle.machine.specs.Line.{work_width, word}
use Rattle.machine.specs.Run.{State}

-- ---- operations
-- a divisor other than 0, and no overflow: not the least number by −1
abbrev pub Divides : (w a b : ℕ) → Type 0
Divides w a b = (0 < b) × ¬ ((signed w a ≡ least w) × (signed w b ≡ minus_one))

abbrev pub Defined : BinOp → (w a b : ℕ) → Type 0
Defined BinOp.add w a b = Unit {0}
Defined BinOp.sub w a b = Unit {0}
Defined BinOp.mul w a b = Unit {0}
Defined BinOp.udiv w a b = 0 < b
Defined BinOp.sdiv w a b = Divides w a b
Defined BinOp.urem w a b = 0 < b
Defined BinOp.srem w a b = Divides w a b
Defined BinOp.and w a b = Unit {0}
Defined BinOp.or w a b = Unit {0}
Defined BinOp.xor w a b = Unit {0}
Defined BinOp.shl w a b = b < w
Defined BinOp.lshr w a b = b < w
Defined BinOp.ashr w a b = b < w

-- ---- what may be missing
-- a line with this label
abbrev pub Labelled : (names : List (List ℕ)) → List Placed → (label : List ℕ) → Type 0
Labelled names lines t = (i : ℕ) × (l : Placed) × (cell_at lines i ≡ some l) × (label_of names l ≡ some t)

-- a syscall's shape, and as many operands as it has arguments
abbrev pub Answered : World → (printed operands : List ℕ) → Type 0
Answered world t o = (s : Shape) × (shape_of world t ≡ some s) × (s.args ≤ length o)

module _ (names : List (List ℕ)) (world : World) (lines : List Placed) where
  -- ---- a line of a function, with the operands that it pops, the latest first. There is no way for `panic`
  pub data Works (f : Option ℕ) (e : Frame) : Line → (operands : List ℕ) → Type 0 where
    comment : {x : ℕ} {o : List ℕ} → Works f e (Line.comment x) o
    fn_label : {x : ℕ} {o : List ℕ} → Works f e (Line.fn_label x) o
    label : {h : Hint} {n : ℕ} {o : List ℕ} → Works f e (Line.label h n) o
    blank : {o : List ℕ} → Works f e Line.blank o
    -- a comment line has come before a block's label, and before a jump to one
    block_label : {g x : ℕ} {o : List ℕ} → f ≡ some g → Works f e (Line.block_label x) o
    -- a jump that is taken has its label: one of a condition where the cell is 0, a switch's where it is not
    jmp_block : {g x : ℕ} {o : List ℕ} → f ≡ some g → Labelled names lines (block_text names g x) → Works f e (Line.jmp_block x) o
    sel_done : {n : ℕ} {o : List ℕ} → Labelled names lines (hinted Hint.sel_done n) → Works f e (Line.jump Hint.sel_done n) o
    sel_false : {n x : ℕ} {o : List ℕ} → (x ≡ 0 → Labelled names lines (hinted Hint.sel_false n)) → Works f e (Line.jump Hint.sel_false n) (x ∷ o)
    br_false : {n x : ℕ} {o : List ℕ} → (x ≡ 0 → Labelled names lines (hinted Hint.br_false n)) → Works f e (Line.jump Hint.br_false n) (x ∷ o)
    sw_case : {n x : ℕ} {o : List ℕ} → (¬ (x ≡ 0) → Labelled names lines (hinted Hint.sw_case n)) → Works f e (Line.jump Hint.sw_case n) (x ∷ o)
    -- slots and arguments that are there
    push0n : {n : ℕ} {o : List ℕ} → Works f e (Line.push0n n) o
    push : {n : ℕ} {o : List ℕ} → Works f e (Line.push n) o
    push_name : {x : ℕ} {o : List ℕ} → Works f e (Line.push_name x) o
    get_arg : {i : ℕ} {o : List ℕ} → i < length e.args → Works f e (Line.get_arg i) o
    get_local : {i : ℕ} {o : List ℕ} → i < length e.slots → Works f e (Line.get_local i) o
    set_local : {i x : ℕ} {o : List ℕ} → i < length e.slots → Works f e (Line.set_local i) (x ∷ o)
    -- operations, on low halves at 32
    bin : {op : BinOp} {w : Work} {a b : ℕ} {o : List ℕ} → Defined op (work_width w) (word w a) (word w b) → Works f e (Line.bin op w) (b ∷ a ∷ o)
    icmp : {p : ICmpPred} {w : Work} {a b : ℕ} {o : List ℕ} → Works f e (Line.icmp p w) (b ∷ a ∷ o)
    trunc : {n : Narrow} {x : ℕ} {o : List ℕ} → Works f e (Line.trunc n) (x ∷ o)
    sx8 : {w : Work} {x : ℕ} {o : List ℕ} → Works f e (Line.sx8 w) (x ∷ o)
    sx16 : {w : Work} {x : ℕ} {o : List ℕ} → Works f e (Line.sx16 w) (x ∷ o)
    sx32 : {x : ℕ} {o : List ℕ} → Works f e Line.sx32 (x ∷ o)
    -- memory: every address can be read and written
    load : {m : Mem} {a : ℕ} {o : List ℕ} → Works f e (Line.load m) (a ∷ o)
    store : {m : Mem} {x a : ℕ} {o : List ℕ} → Works f e (Line.store m) (x ∷ a ∷ o)
    atomic_load : {a : ℕ} {o : List ℕ} → Works f e Line.atomic_load (a ∷ o)
    atomic_store : {x a : ℕ} {o : List ℕ} → Works f e Line.atomic_store (x ∷ a ∷ o)
    atomic_cas : {x c a : ℕ} {o : List ℕ} → Works f e Line.atomic_cas (x ∷ c ∷ a ∷ o)
    thread_get : {o : List ℕ} → Works f e Line.thread_get o
    thread_set : {x : ℕ} {o : List ℕ} → Works f e Line.thread_set (x ∷ o)
    dup : {x : ℕ} {o : List ℕ} → Works f e Line.dup (x ∷ o)
    pop : {x : ℕ} {o : List ℕ} → Works f e Line.pop (x ∷ o)
    -- calls: as many operands as arguments, and the address called
    call : {x n : ℕ} {o : List ℕ} → n ≤ length o → Works f e (Line.call x n) o
    call_fp : {n a : ℕ} {o : List ℕ} → n ≤ length o → Works f e (Line.call_fp n) (a ∷ o)
    syscall : {x : ℕ} {o : List ℕ} → Answered world (printed_name (name_at names x)) o → Works f e (Line.syscall x) o
    sys_memcmp : {o : List ℕ} → Answered world memcmp o → Works f e Line.sys_memcmp o
    ret : {x : ℕ} {o : List ℕ} → Works f e Line.ret (x ∷ o)

  -- there is a line, and it works
  abbrev pub StepWorks : State → Type 0
  StepWorks s = (l : Placed) × (cell_at lines s.pos ≡ some l) × Works l.function s.frame l.line s.operands

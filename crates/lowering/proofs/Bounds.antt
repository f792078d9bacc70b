-- Laws: what docs/LINES.md says of kinds and operands holds of every line of an accepted translation.
use Rattle.std.specs.Prelude.{ℕ, ◌≤◌, ◌<◌, ◌≡◌, true, List, [], ◌∷◌, length, leb}
use Rattle.std.proofs.Common.{arith}
use borrow.Author.Tests.{leb-true, ltb-true}
use Rattle.names.specs.Name.{name_at}
use Rattle.names.specs.Spelling.{is_syscall}
use Rattle.names.specs.Tests.{both}
use Rattle.book.specs.Ast.{BinOp, ICmpPred, Book}
use Rattle.book.specs.Decode.{member, function_names}
use Rattle.book.specs.Limits.{Each}
use Rattle.assembly.specs.Line.{Line, Work, Mem, Narrow, Hint}
use Rattle.assembly.specs.Number.{hint_number, mem_number, narrow_number, bin_number, icmp_number, operation, kind_of, is_name, allowed}
use Rattle.assembly.specs.Lists.{AllAllowed}
use Rattle.lowering.specs.Translate.{Translation, translate}
use Rattle.lowering.proofs.Printable.{translate_accepted}

-- ---- kinds
bin_small : (op : BinOp) → bin_number op < 13
unfolding bin_number
bin_small BinOp.add = omega arith
bin_small BinOp.sub = omega arith
bin_small BinOp.mul = omega arith
bin_small BinOp.udiv = omega arith
bin_small BinOp.sdiv = omega arith
bin_small BinOp.urem = omega arith
bin_small BinOp.srem = omega arith
bin_small BinOp.and = omega arith
bin_small BinOp.or = omega arith
bin_small BinOp.xor = omega arith
bin_small BinOp.shl = omega arith
bin_small BinOp.lshr = omega arith
bin_small BinOp.ashr = omega arith

icmp_small : (p : ICmpPred) → icmp_number p < 23
unfolding icmp_number
icmp_small ICmpPred.eq = omega arith
icmp_small ICmpPred.ne = omega arith
icmp_small ICmpPred.ugt = omega arith
icmp_small ICmpPred.uge = omega arith
icmp_small ICmpPred.ult = omega arith
icmp_small ICmpPred.ule = omega arith
icmp_small ICmpPred.sgt = omega arith
icmp_small ICmpPred.sge = omega arith
icmp_small ICmpPred.slt = omega arith
icmp_small ICmpPred.sle = omega arith

operation_small : (n : ℕ) (w : Work) → n < 23 → operation n w < 67
unfolding operation
operation_small n Work.w32 h = omega arith
operation_small n Work.w64 h = omega arith

hint_small : (h : Hint) → hint_number h < 4
unfolding hint_number
hint_small Hint.sel_false = omega arith
hint_small Hint.sel_done = omega arith
hint_small Hint.br_false = omega arith
hint_small Hint.sw_case = omega arith

mem_small : (m : Mem) → mem_number m < 4
unfolding mem_number
mem_small Mem.m8 = omega arith
mem_small Mem.m16 = omega arith
mem_small Mem.m32 = omega arith
mem_small Mem.m64 = omega arith

narrow_small : (n : Narrow) → narrow_number n < 3
unfolding narrow_number
narrow_small Narrow.n8 = omega arith
narrow_small Narrow.n16 = omega arith
narrow_small Narrow.n32 = omega arith

-- there are 94 kinds
pub kind_small : (l : Line) → kind_of l < 94
unfolding kind_of
kind_small (Line.label h n) = let p = hint_small h in omega arith
kind_small (Line.jump h n) = let p = hint_small h in omega arith
kind_small (Line.bin op w) = let q = bin_small op in let p = operation_small (bin_number op) w (omega arith) in omega arith
kind_small (Line.icmp c w) = let p = operation_small (icmp_number c) w (icmp_small c) in omega arith
kind_small (Line.trunc n) = let p = narrow_small n in omega arith
kind_small (Line.load m) = let p = mem_small m in omega arith
kind_small (Line.store m) = let p = mem_small m in omega arith
kind_small (Line.comment x) = omega arith
kind_small (Line.fn_label x) = omega arith
kind_small (Line.block_label x) = omega arith
kind_small (Line.jmp_block x) = omega arith
kind_small (Line.push_name x) = omega arith
kind_small (Line.call x k) = omega arith
kind_small (Line.syscall x) = omega arith
kind_small (Line.push0n n) = omega arith
kind_small (Line.push n) = omega arith
kind_small (Line.get_arg n) = omega arith
kind_small (Line.get_local n) = omega arith
kind_small (Line.set_local n) = omega arith
kind_small (Line.call_fp n) = omega arith
kind_small (Line.sx8 Work.w32) = omega arith
kind_small (Line.sx8 Work.w64) = omega arith
kind_small (Line.sx16 Work.w32) = omega arith
kind_small (Line.sx16 Work.w64) = omega arith
kind_small Line.sx32 = omega arith
kind_small Line.atomic_load = omega arith
kind_small Line.atomic_store = omega arith
kind_small Line.atomic_cas = omega arith
kind_small Line.sys_memcmp = omega arith
kind_small Line.dup = omega arith
kind_small Line.pop = omega arith
kind_small Line.ret = omega arith
kind_small Line.panic = omega arith
kind_small Line.thread_get = omega arith
kind_small Line.thread_set = omega arith
kind_small Line.blank = omega arith

-- ---- operands
module _ (names : List (List ℕ)) (b : Book) where
  -- what a line's operand keeps to
  abbrev pub Keeps : Line → Type 0
  Keeps (Line.comment x) = member x (function_names b) ≡ true
  Keeps (Line.fn_label x) = x < length names
  Keeps (Line.block_label x) = x < length names
  Keeps (Line.jmp_block x) = x < length names
  Keeps (Line.push_name x) = x < length names
  Keeps (Line.call x k) = (x < length names) × (k ≤ 255)
  Keeps (Line.syscall x) = (x < length names) × (is_syscall (name_at names x) ≡ true)
  Keeps (Line.push0n n) = (1 ≤ n) × (n < 65536)
  Keeps (Line.get_local s) = s < 65536
  Keeps (Line.set_local s) = s < 65536
  Keeps (Line.call_fp n) = n ≤ 255
  Keeps (Line.push n) = Unit {0}
  Keeps (Line.get_arg n) = Unit {0}
  Keeps (Line.label h n) = Unit {0}
  Keeps (Line.jump h n) = Unit {0}
  Keeps (Line.bin op w) = Unit {0}
  Keeps (Line.icmp p w) = Unit {0}
  Keeps (Line.trunc n) = Unit {0}
  Keeps (Line.sx8 w) = Unit {0}
  Keeps (Line.sx16 w) = Unit {0}
  Keeps Line.sx32 = Unit {0}
  Keeps (Line.load m) = Unit {0}
  Keeps (Line.store m) = Unit {0}
  Keeps Line.atomic_load = Unit {0}
  Keeps Line.atomic_store = Unit {0}
  Keeps Line.atomic_cas = Unit {0}
  Keeps Line.sys_memcmp = Unit {0}
  Keeps Line.dup = Unit {0}
  Keeps Line.pop = Unit {0}
  Keeps Line.ret = Unit {0}
  Keeps Line.panic = Unit {0}
  Keeps Line.thread_get = Unit {0}
  Keeps Line.thread_set = Unit {0}
  Keeps Line.blank = Unit {0}

  small : (s : ℕ) → leb s 65535 ≡ true → s < 65536
  small s h = let p = leb-true s 65535 h in omega arith

  name : (x : ℕ) → is_name names b x ≡ true → x < length names
  unfolding is_name
  name x h = ltb-true x (length names) h

  -- an allowed line keeps to it
  keeps : (l : Line) → allowed names b l ≡ true → Keeps l
  unfolding allowed
  keeps (Line.comment x) h = h
  keeps (Line.fn_label x) h = name x h
  keeps (Line.block_label x) h = name x h
  keeps (Line.jmp_block x) h = name x h
  keeps (Line.push_name x) h = name x h
  keeps (Line.call x k) h = let p = both (is_name names b x) (leb k 255) h in (name x p.0, leb-true k 255 p.1)
  keeps (Line.syscall x) h = let p = both (is_name names b x) (is_syscall (name_at names x)) h in (name x p.0, p.1)
  keeps (Line.push0n n) h = let p = both (leb 1 n) (leb n 65535) h in (leb-true 1 n p.0, small n p.1)
  keeps (Line.get_local s) h = small s h
  keeps (Line.set_local s) h = small s h
  keeps (Line.call_fp n) h = leb-true n 255 h
  keeps (Line.push n) h = tt
  keeps (Line.get_arg n) h = tt
  keeps (Line.label k n) h = tt
  keeps (Line.jump k n) h = tt
  keeps (Line.bin op w) h = tt
  keeps (Line.icmp p w) h = tt
  keeps (Line.trunc n) h = tt
  keeps (Line.sx8 w) h = tt
  keeps (Line.sx16 w) h = tt
  keeps Line.sx32 h = tt
  keeps (Line.load m) h = tt
  keeps (Line.store m) h = tt
  keeps Line.atomic_load h = tt
  keeps Line.atomic_store h = tt
  keeps Line.atomic_cas h = tt
  keeps Line.sys_memcmp h = tt
  keeps Line.dup h = tt
  keeps Line.pop h = tt
  keeps Line.ret h = tt
  keeps Line.panic h = tt
  keeps Line.thread_get h = tt
  keeps Line.thread_set h = tt
  keeps Line.blank h = tt

  pub all_keep : (ls : List Line) → AllAllowed names b ls → Each Keeps ls
  all_keep [] AllAllowed.none = tt
  all_keep (l ∷ ls) (AllAllowed.one h r) = (keeps l h, all_keep ls r)

-- slots stay below 65,536 and names below their number, in every line of an accepted translation
pub lines_keep : (book names : List ℕ) (counter : ℕ) (work kinds operands : List ℕ) (n next : ℕ)
    → (h : (translate book names counter work kinds operands).reply ≡ Translation.accepted n next)
    → let t = (translate_accepted book names counter work kinds operands n next h).0 in
    Each (Keeps t.accepted.sound.names t.accepted.sound.book) t.out.lines
lines_keep book names counter work kinds operands n next h =
    let t = (translate_accepted book names counter work kinds operands n next h).0 in
    all_keep t.accepted.sound.names t.accepted.sound.book t.out.lines t.accepted.allowed

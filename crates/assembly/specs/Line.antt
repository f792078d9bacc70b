-- The lines of the stack machine that codegen.rs emits. A constructor stands for a group of line kinds of docs/LINES.md; every value is a line.
use Rattle.std.specs.Prelude.{ℕ}
use Rattle.book.specs.Ast.{BinOp, ICmpPred}

-- the working width of an operation
pub data Work : Type 0 where
  w32 w64 : Work

-- the width of a load or a store
pub data Mem : Type 0 where
  m8 m16 m32 m64 : Mem

-- the width that a truncation leaves
pub data Narrow : Type 0 where
  n8 n16 n32 : Narrow

-- `fresh_label`: what a numbered label is for
pub data Hint : Type 0 where
  sel_false sel_done br_false sw_case : Hint

pub data Line : Type 0 where
  -- over a name: `# .. @name(..)`, `name:`, `function__name:`, `jmp function__name;`, `push name;`, `syscall name;`
  comment fn_label block_label jmp_block push_name syscall : (name : ℕ) → Line
  -- `call name, args;`
  call : (name args : ℕ) → Line
  -- over a number
  push0n push get_arg get_local set_local call_fp : ℕ → Line
  -- a numbered label, and the one jump that goes there
  label jump : Hint → (number : ℕ) → Line
  -- `bin_mnemonic`, `icmp_mnemonic`
  bin : BinOp → Work → Line
  icmp : ICmpPred → Work → Line
  -- widths: `trunc_u..`, `sx_i8_i..`, `sx_i16_i..`, `sx_i32_i64`
  trunc : Narrow → Line
  sx8 sx16 : (to : Work) → Line
  sx32 : Line
  -- memory
  load store : Mem → Line
  atomic_load atomic_store atomic_cas : Line
  -- the others; `thread_get 0`, `thread_set 0` are the stack pointer; the empty line ends a function
  sys_memcmp dup pop ret panic thread_get thread_set blank : Line

-- Where the source run goes on: document 01, "Stops", turned round, a condition for each instruction in positive words. Nothing here asks the run. That it goes on
-- exactly here, where what it measures can be measured (`Measured`), is proved: `inst-goes` (`ExactInst`), `run-goes` and `gone-run` (`Progress`).
use Rattle.std.specs.Prelude.{ℕ, ◌-◌, ◌%◌, ◌^◌, ◌<◌, ◌≤◌, ◌≡◌, ◌⊎◌, Bool, true, false, List, [], ◌∷◌, length}
use Rattle.std.proofs.Math.Option.{Option, none, some}
use Rattle.names.specs.Name.{name_at}
use Rattle.names.specs.Spelling.{is_syscall, is_bcmp, is_memcmp}
use Rattle.book.specs.Ast.{Ty, Tys, Value, Zero, TypedVal, BinOp, ConvOp, ICmpPred, InstKind, StructBody, StructType}
use Rattle.book.specs.Limits.{Each}
use Rattle.book.specs.Result.{ok}
use Rattle.layout.specs.Layout.{resolve}
use Rattle.layout.specs.Step.{const_int, field_at}
use Rattle.layout.specs.Frame.{Places, count_of}
use Rattle.machine.specs.Memory.{peek}
use Rattle.machine.specs.Signed.{signed, least, minus_one}
use Rattle.machine.specs.State.{Target, Shape, World, global_at, memcmp, shape_of, printed_name}
use Rattle.manual.specs.State.{Cell, Given, Source}

-- ---- types
-- "a value of struct, packed struct, array or packed array type" stops: the others have w bits, a pointer 64
pub data Scalar : Ty → (w : ℕ) → Type 0 where
  int : {w : ℕ} → Scalar (Ty.int w) w
  ptr : Scalar Ty.ptr 64

-- "The two arguments .. must be integer .. values"
pub data Integer : Ty → (w : ℕ) → Type 0 where
  int : {w : ℕ} → Integer (Ty.int w) w

-- "a function's or call's result type not integer, pointer or void" stops: the result's width, if it has one
pub data Answers : Ty → Option ℕ → Type 0 where
  void : Answers Ty.void none
  value : {ty : Ty} {w : ℕ} → Scalar ty w → Answers ty (some w)

-- ---- operands
-- "an integer outside both the signed and the unsigned range of its width" stops: of a word, 0 to 2^w − 1, or −2^(w − 1) to −1
abbrev pub InRange : (w v : ℕ) → Type 0
InRange w v = (v < 2 ^ w) ⊎ (2 ^ 64 - 2 ^ (w - 1) ≤ v)

-- "a constant GEP index outside its type's signed range" stops: 0 to 2^(w − 1) − 1, or −2^(w − 1) to −1
abbrev pub InSignedRange : (w v : ℕ) → Type 0
InSignedRange w v = (v < 2 ^ (w - 1)) ⊎ (2 ^ 64 - 2 ^ (w - 1) ≤ v)

-- an operand is read as n at w bits
pub data Reads (g : Given) (σ : Source) : (w : ℕ) → Value → (n : ℕ) → Type 0 where
  -- "reading an unset local or one at another width" stops, and so does a cmpxchg's own result, "which extractvalue alone may read"
  local : {w x n : ℕ} → σ.env x ≡ some (Cell.one w n) → Reads g σ w (Value.local x) n
  int : {w v : ℕ} → InRange w v → Reads g σ w (Value.int v) (v % 2 ^ w)
  -- "undef, poison and zeroinitializer as operands are 0", and so is null
  zero : {w : ℕ} {z : Zero} → Reads g σ w (Value.zero z) 0
  -- a global is a pointer
  global : {x : ℕ} → Reads g σ 64 (Value.global x) (global_at g.world x)

-- a value with its type can be read
abbrev pub Typed : Given → Source → TypedVal → Type 0
Typed g σ v = (w : ℕ) × (n : ℕ) × Scalar v.ty w × Reads g σ w v.val n

-- ---- operations: "anything the manual calls .. undefined or poison" stops
-- "Division by zero is undefined behavior. Overflow also leads to undefined behavior": a divisor other than 0, and not the least number by −1
abbrev pub Divides : (w x y : ℕ) → Type 0
Divides w x y = (0 < y) × ¬ ((signed w x ≡ least w) × (signed w y ≡ minus_one))

-- "If op2 is .. equal to or larger than the number of bits in op1, this instruction returns a poison value"
abbrev pub Shifts : (w y : ℕ) → Type 0
Shifts w y = y < w

abbrev pub Defined : BinOp → (w x y : ℕ) → Type 0
Defined BinOp.add w x y = Unit {0}
Defined BinOp.sub w x y = Unit {0}
Defined BinOp.mul w x y = Unit {0}
Defined BinOp.udiv w x y = 0 < y
Defined BinOp.sdiv w x y = Divides w x y
Defined BinOp.urem w x y = 0 < y
Defined BinOp.srem w x y = Divides w x y
Defined BinOp.and w x y = Unit {0}
Defined BinOp.or w x y = Unit {0}
Defined BinOp.xor w x y = Unit {0}
Defined BinOp.shl w x y = Shifts w y
Defined BinOp.lshr w x y = Shifts w y
Defined BinOp.ashr w x y = Shifts w y

-- the widths that a conversion goes between: narrower, wider, from or to a pointer's, the same
abbrev pub Converts : ConvOp → (fw tw : ℕ) → Type 0
Converts ConvOp.trunc fw tw = tw < fw
Converts ConvOp.zext fw tw = fw < tw
Converts ConvOp.sext fw tw = fw < tw
Converts ConvOp.ptr_to_int fw tw = fw ≡ 64
Converts ConvOp.int_to_ptr fw tw = tw ≡ 64
Converts ConvOp.bit_cast fw tw = fw ≡ tw

-- ---- getelementptr
pub data Index (g : Given) (σ : Source) : Ty → Value → Type 0 where
  constant : {ty : Ty} {w c : ℕ} → Scalar ty w → InSignedRange w c → Index g σ ty (Value.int c)
  varying : {ty : Ty} {v : Value} {w n : ℕ} → const_int v ≡ none → Scalar ty w → Reads g σ w v n → Index g σ ty v

-- an index leads into a type: to an array's element, or to the field of a struct that a constant names
pub data Leads (structs : List StructType) : Ty → Value → (next : Ty) → Type 0 where
  element : {p : Bool} {n : ℕ} {elem : Ty} {v : Value} → Leads structs (Ty.array p n elem) v elem
  field : {p : Bool} {ts : Tys} {k : ℕ} {next : Ty} → field_at ts k ≡ some next → Leads structs (Ty.struct p ts) (Value.int k) next
  named : {x : ℕ} {body : StructBody} {k : ℕ} {next : Ty} → resolve structs x ≡ ok body → field_at body.fields k ≡ some next → Leads structs (Ty.named_struct x) (Value.int k) next

pub data Way (g : Given) (σ : Source) : Ty → List TypedVal → Type 0 where
  end : {ty : Ty} → Way g σ ty []
  step : {ty next : Ty} {i : TypedVal} {is : List TypedVal} → Index g σ i.ty i.val → Leads g.structs ty i.val next → Way g σ next is → Way g σ ty (i ∷ is)

-- "The first index always indexes the pointer value given as the second argument"
pub data Indices (g : Given) (σ : Source) : Ty → List TypedVal → Type 0 where
  nil : {ty : Ty} → Indices g σ ty []
  first : {ty : Ty} {i : TypedVal} {is : List TypedVal} → Index g σ i.ty i.val → Way g σ ty is → Indices g σ ty (i ∷ is)

-- ---- calls
-- what is called: a syscall, by its prefix or as bcmp and memcmp, another function of the book, or a local's address
pub data Callee (g : Given) (σ : Source) : Value → Target → Type 0 where
  syscall : {x : ℕ} → is_syscall (name_at g.names x) ≡ true → Callee g σ (Value.global x) (Target.syscall (printed_name (name_at g.names x)))
  compare : {x : ℕ} → is_syscall (name_at g.names x) ≡ false → (is_bcmp (name_at g.names x) ≡ true) ⊎ (is_memcmp (name_at g.names x) ≡ true)
      → Callee g σ (Value.global x) (Target.syscall memcmp)
  function : {x : ℕ} → is_syscall (name_at g.names x) ≡ false → is_bcmp (name_at g.names x) ≡ false → is_memcmp (name_at g.names x) ≡ false
      → Callee g σ (Value.global x) (Target.function x)
  address : {x a : ℕ} → Reads g σ 64 (Value.local x) a → Callee g σ (Value.local x) (Target.address a)

-- "a syscall against its fixed shape" stops: as many arguments as it has, a result exactly where it replies. Any other call goes on with any arguments
pub data Replies : Bool → (result : Option ℕ) → Type 0 where
  with : {w : ℕ} → Replies true (some w)
  without : Replies false none

pub data Shaped (world : World) : Target → (args : ℕ) → (result : Option ℕ) → Type 0 where
  syscall : {t : List ℕ} {s : Shape} {n : ℕ} {r : Option ℕ} → shape_of world t ≡ some s → n ≡ s.args → Replies s.replies r → Shaped world (Target.syscall t) n r
  function : {x n : ℕ} {r : Option ℕ} → Shaped world (Target.function x) n r
  address : {a n : ℕ} {r : Option ℕ} → Shaped world (Target.address a) n r

-- "replies .. fit their widths"; a void call has no value, so it has no name
pub data Receives : (result dest : Option ℕ) → (cell : ℕ) → Type 0 where
  nothing : {c : ℕ} → Receives none none c
  value : {w c : ℕ} {dest : Option ℕ} → c < 2 ^ w → Receives (some w) dest c

-- ---- places
-- "the size-0 case above": fixed places that have some byte, or a varying place beside them
abbrev pub Framed : Places → Type 0
Framed fr = (0 < fr.off) ⊎ (fr.dynamic ≡ true)

-- ---- an instruction. There is no way for a phi: the leading ones are taken on the edge, and one that is met inside a block is ill-formed
pub data Goes (g : Given) (σ : Source) (dest : Option ℕ) : InstKind → Type 0 where
  bin : {op : BinOp} {ty : Ty} {a b : Value} {w x y : ℕ} → Integer ty w → Reads g σ w a x → Reads g σ w b y → Defined op w x y → Goes g σ dest (InstKind.bin op ty a b)
  conv : {op : ConvOp} {from to : Ty} {v : Value} {fw tw x : ℕ} → Scalar from fw → Scalar to tw → Reads g σ fw v x → Converts op fw tw → Goes g σ dest (InstKind.conv op from v to)
  icmp : {p : ICmpPred} {ty : Ty} {a b : Value} {w x y : ℕ} → Scalar ty w → Reads g σ w a x → Reads g σ w b y → Goes g σ dest (InstKind.icmp p ty a b)
  -- the side that is taken is read, and no other
  select_first : {c : Value} {ty : Ty} {a b : Value} {w t x : ℕ} → Scalar ty w → Reads g σ 1 c t → 0 < t → Reads g σ w a x → Goes g σ dest (InstKind.select c ty a b)
  select_second : {c : Value} {ty : Ty} {a b : Value} {w x : ℕ} → Scalar ty w → Reads g σ 1 c 0 → Reads g σ w b x → Goes g σ dest (InstKind.select c ty a b)
  -- "an i1 load of a byte above 1" stops; "every address can be read and written"
  load : {ty : Ty} {p : Value} {align : Option ℕ} {w a : ℕ} → Scalar ty w → Reads g σ 64 p a → (w ≡ 1 → peek 1 σ.memory a < 2) → Goes g σ dest (InstKind.load ty p align)
  atomic_load : {ty : Ty} {p : Value} {w a : ℕ} → Scalar ty w → Reads g σ 64 p a → (w ≡ 1 → peek 1 σ.memory a < 2) → Goes g σ dest (InstKind.atomic_load ty p)
  store : {ty : Ty} {v p : Value} {align : Option ℕ} {w x a : ℕ} → Scalar ty w → Reads g σ w v x → Reads g σ 64 p a → Goes g σ dest (InstKind.store ty v p align)
  atomic_store : {ty : Ty} {v p : Value} {w x a : ℕ} → Scalar ty w → Reads g σ w v x → Reads g σ 64 p a → Goes g σ dest (InstKind.atomic_store ty v p)
  cmpxchg : {ty : Ty} {p c n : Value} {w a x y : ℕ} → Scalar ty w → Reads g σ 64 p a → Reads g σ w c x → Reads g σ w n y → Goes g σ dest (InstKind.cmpxchg ty p c n)
  -- "a fixed alloca run twice, or in the size-0 case above" stops; a place is fixed where its count is absent or an integer
  fixed : {ty : Ty} {count : Option TypedVal} {align : Option ℕ} {n : ℕ} → count_of count ≡ some n → Framed g.frame → ((x : ℕ) → dest ≡ some x → σ.env x ≡ none)
      → Goes g σ dest (InstKind.alloca ty count align)
  varying : {ty : Ty} {count : TypedVal} {align : Option ℕ} → count_of (some count) ≡ none → Typed g σ count → Goes g σ dest (InstKind.alloca ty (some count) align)
  get_element_ptr : {ty : Ty} {p : Value} {is : List TypedVal} {a : ℕ} → Reads g σ 64 p a → Indices g σ ty is → Goes g σ dest (InstKind.get_element_ptr ty p is)
  call : {ty : Ty} {callee : Value} {args : List TypedVal} {t : Target} {r : Option ℕ} → Each (Typed g σ) args → Callee g σ callee t → Answers ty r → Shaped g.world t (length args) r
      → Receives r dest (g.world.replies (length σ.calls)).cell → Goes g σ dest (InstKind.call ty callee args)
  freeze : {ty : Ty} {v : Value} {w x : ℕ} → Scalar ty w → Reads g σ w v x → Goes g σ dest (InstKind.freeze ty v)
  -- a cmpxchg's own result, of two parts
  extract_value : {x w a b k : ℕ} → σ.env x ≡ some (Cell.two w a b) → k < 2 → Goes g σ dest (InstKind.extract_value (Value.local x) k)
  fence : Goes g σ dest InstKind.fence

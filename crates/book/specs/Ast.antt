-- ast.rs, as far as a book has it: the same names and order of fields. A name is its number, a width a number of bits, an integer its
-- two's complement word. What the lowering treats alike stands under one constructor.
use Rattle.std.specs.Prelude.{ℕ, Bool, List}
use Rattle.std.proofs.Math.Option.{Option}

-- types that have no size
pub data Sizeless : Type 0 where
  func label metadata : Sizeless

mutual
  pub data Ty : Type 0 where
    void ptr : Ty
    sizeless : Sizeless → Ty
    int : (width : ℕ) → Ty
    array : (packed : Bool) → (len : ℕ) → (elem : Ty) → Ty
    named_struct : (name : ℕ) → Ty
    struct : (packed : Bool) → (fields : Tys) → Ty

  -- a list of types
  pub data Tys : Type 0 where
    nil : Tys
    cons : Ty → Tys → Tys

-- values that are 0 as operands
pub data Zero : Type 0 where
  null undef poison zero_init : Zero

pub data Value : Type 0 where
  local global int : ℕ → Value
  zero : Zero → Value
  other : Value

pub record TypedVal : Type 0 where
  pub ty : Ty
  pub val : Value

pub data BinOp : Type 0 where
  add sub mul udiv sdiv urem srem and or xor shl lshr ashr : BinOp

pub data ConvOp : Type 0 where
  trunc zext sext ptr_to_int int_to_ptr bit_cast : ConvOp

pub data ICmpPred : Type 0 where
  eq ne ugt uge ult ule sgt sge slt sle : ICmpPred

pub record Incoming : Type 0 where
  pub val : Value
  pub label : ℕ

pub record Case : Type 0 where
  pub value : ℕ
  pub label : ℕ

pub data InstKind : Type 0 where
  bin : BinOp → (ty : Ty) → (lhs rhs : Value) → InstKind
  conv : ConvOp → (fromTy : Ty) → (val : Value) → (toTy : Ty) → InstKind
  icmp : ICmpPred → (ty : Ty) → (lhs rhs : Value) → InstKind
  select : (cond : Value) → (ty : Ty) → (tval fval : Value) → InstKind
  load : (ty : Ty) → (ptr : Value) → (align : Option ℕ) → InstKind
  store : (ty : Ty) → (val ptr : Value) → (align : Option ℕ) → InstKind
  alloca : (ty : Ty) → (count : Option TypedVal) → (align : Option ℕ) → InstKind
  get_element_ptr : (baseTy : Ty) → (ptr : Value) → (indices : List TypedVal) → InstKind
  phi : (ty : Ty) → (incoming : List Incoming) → InstKind
  call : (ret_ty : Ty) → (callee : Value) → (args : List TypedVal) → InstKind
  freeze : (ty : Ty) → (val : Value) → InstKind
  atomic_load : (ty : Ty) → (ptr : Value) → InstKind
  atomic_store : (ty : Ty) → (val ptr : Value) → InstKind
  cmpxchg : (ty : Ty) → (ptr cmp new : Value) → InstKind
  extract_value : (agg : Value) → (index : ℕ) → InstKind
  fence : InstKind

pub record Inst : Type 0 where
  pub dest : Option ℕ
  pub kind : InstKind

pub data Terminator : Type 0 where
  ret : (val : Option TypedVal) → Terminator
  br : (cond : Option Value) → (if_true : ℕ) → (if_false : Option ℕ) → Terminator
  switch : (ty : Ty) → (val : Value) → (default : ℕ) → (cases : List Case) → Terminator
  unreachable : Terminator

pub record BasicBlock : Type 0 where
  pub label : ℕ
  pub insts : List Inst
  pub term : Terminator

pub record Param : Type 0 where
  pub ty : Ty
  pub name : Option ℕ

pub record Function : Type 0 where
  pub name : ℕ
  pub ret_ty : Ty
  pub params : List Param
  pub blocks : List BasicBlock

pub record StructBody : Type 0 where
  pub packed : Bool
  pub fields : Tys

-- a named struct type; an opaque one has no body
pub record StructType : Type 0 where
  pub name : ℕ
  pub body : Option StructBody

-- kinds 1 and 2: a name with a definition here, a name that `is_float_builtin` takes
pub data Mark : Type 0 where
  defined reserved : ℕ → Mark

-- what a book holds, in the order of its entries
pub record Book : Type 0 where
  pub marks : List Mark
  pub structs : List StructType
  pub functions : List Function

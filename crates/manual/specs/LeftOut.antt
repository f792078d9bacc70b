-- Stops that document 01 allows and the source run leaves out, since the two runs agree without them: an example of each, which goes on in every state. docs/DECISIONS.md lists them.
use Rattle.std.specs.Prelude.{ℕ, ◌≡◌, List, ◌∷◌}
use Rattle.std.proofs.Math.Path.{refl}
use Rattle.std.proofs.Common.{inl, lit<}
use Rattle.std.proofs.Math.Option.{Option, none, some}
use Rattle.book.specs.Ast.{Ty, Value, Zero, ConvOp, Incoming, Case, InstKind, Terminator}
use Rattle.layout.specs.Frame.{count_of}
use Rattle.layout.specs.Step.{const_int}
use Rattle.manual.specs.State.{Given, Source}
use Rattle.manual.specs.Goes.{Scalar, Answers, Reads, Index, Framed, Goes}
use Rattle.manual.specs.GoesOn.{From, Chooses, Edge, GoesTerm}

abbrev pub null : Value
null = Value.zero Zero.null

abbrev pub undef : Value
undef = Value.zero Zero.undef

module _ (g : Given) (σ : Source) (dest : Option ℕ) where
  -- ---- ill-formed by the manual: a pointer and an integer of 64 bits are told apart nowhere
  -- "'bitcast .. to' Instruction": "If the source type is a pointer, the destination type must also be a pointer of the same size"
  pub bitcast_pointer : Goes g σ dest (InstKind.conv ConvOp.bit_cast Ty.ptr null (Ty.int 64))
  bitcast_pointer = Goes.conv Scalar.ptr Scalar.int Reads.zero refl

  -- "'trunc .. to' Instruction": "Both types must be of integer types .."
  pub trunc_pointer : Goes g σ dest (InstKind.conv ConvOp.trunc Ty.ptr null (Ty.int 32))
  trunc_pointer = Goes.conv Scalar.ptr Scalar.int Reads.zero (lit< tt)

  -- "'ret' Instruction": not well formed with "a return value with a type that does not match": of another width
  pub ret_pointer : (p : ℕ) → g.function.ret_ty ≡ Ty.ptr → GoesTerm g σ p (Terminator.ret (some (record { ty = Ty.int 64; val = Value.int 5 })))
  ret_pointer p e = GoesTerm.ret {w = 64} (rw e (Answers.value Scalar.ptr)) Scalar.int (Reads.int (inl (lit< tt)))

  -- "only i32 integer constants are allowed" into a struct: of any width; and an index may be a pointer
  pub wide_index : Index g σ (Ty.int 64) (Value.int 1)
  wide_index = Index.constant Scalar.int (inl (lit< tt))

  -- "whose bit width is a power of two greater than or equal to eight": of any width (in an accepted book it has 64: refusal 12)
  pub swap_bits : Goes g σ dest (InstKind.cmpxchg (Ty.int 1) null undef undef)
  swap_bits = Goes.cmpxchg Scalar.int Reads.zero Reads.zero Reads.zero

  -- a name for what has no value
  pub named_store : Goes g σ (some 0) (InstKind.store (Ty.int 8) undef null none)
  named_store = Goes.store Scalar.int Reads.zero Reads.zero

  -- ---- operands that are not read: the other side of a select, the other pairs of a phi, the cases behind the one taken, the count of a fixed place
  pub other_side : (v : Value) → Goes g σ dest (InstKind.select (Value.int 1) (Ty.int 8) (Value.int 7) v)
  other_side v = Goes.select_first Scalar.int (Reads.int (inl (lit< tt))) (lit< tt) (Reads.int (inl (lit< tt)))

  pub other_pairs : (i : Incoming) (is : List Incoming) → From i.label (i ∷ is) i.val
  other_pairs i is = From.here refl

  -- the first of two equal cases is taken
  pub other_cases : (d b : ℕ) (ks : List Case) → Chooses 8 7 d (record { value = 7; label = b } ∷ ks) b
  other_cases d b ks = Chooses.this (inl (lit< tt)) refl

  pub wide_count : (ty : Ty) → Framed g.frame → ((x : ℕ) → dest ≡ some x → σ.env x ≡ none) → Goes g σ dest (InstKind.alloca ty (some (record { ty = Ty.int 8; val = Value.int 300 })) none)
  unfolding count_of const_int
  wide_count ty f u = Goes.fixed refl f u

  -- ---- undefined by the manual: a branch on undef or poison, which is 0
  pub branch_undef : (p t f : ℕ) → Edge g σ p f → GoesTerm g σ p (Terminator.br (some undef) t (some f))
  branch_undef p t f e = GoesTerm.br_false Reads.zero e

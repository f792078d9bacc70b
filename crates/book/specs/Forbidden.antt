-- Refusal 3: "kind 37; callee starting `llvm.` or marked reserved".
use Rattle.std.specs.Prelude.{ℕ, Bool, true, false, ◌||◌, List, [], ◌∷◌}
use Rattle.std.proofs.Math.Option.{Option, none, some}
use Rattle.names.specs.Name.{name_at}
use Rattle.names.specs.Spelling.{is_intrinsic}
use Rattle.book.specs.Ast.{Value, Mark, Inst, Terminator, BasicBlock, Function, Book}
use Rattle.book.specs.Fields.{Item, Field, ItemMeaning, Meaning, Meanings, inst_fields, term_fields, inst_tag_of, term_tag_of, inst_args, term_args}
use Rattle.book.specs.Shape.{Shape, shape}
use Rattle.book.specs.Decode.{member}

module _ {A : Type 0} (test : A → Bool) where
  unfoldable pub any : List A → Bool
  any [] = false
  any (a ∷ as') = test a || any as'

  unfoldable pub any_there : Option A → Bool
  any_there none = false
  any_there (some a) = test a

-- ---- a value of kind 37 anywhere in the function
unfoldable pub is_other : Value → Bool
is_other Value.other = true
is_other (Value.local x) = false
is_other (Value.global x) = false
is_other (Value.int v) = false
is_other (Value.zero z) = false

abbrev pub other_item : (i : Item) → ItemMeaning i → Bool
other_item Item.type t = false
other_item Item.value v = is_other v
other_item Item.block x = false
other_item Item.index n = false
other_item Item.align n = false
other_item Item.typed v = is_other v.val
other_item Item.gep_index v = is_other v.val
other_item Item.incoming i = is_other i.val
other_item Item.case c = false
other_item Item.param p = false

abbrev pub other_field : (f : Field) → Meaning f → Bool
other_field (Field.plain i) = other_item i
other_field (Field.optional i) = any_there (other_item i)
other_field (Field.list i) = any (other_item i)
other_field (Field.up_to n i) = any (other_item i)

unfoldable pub other_fields : (fs : List Field) → Meanings fs → Bool
other_fields [] p = false
other_fields (f ∷ fs) p = other_field f p.0 || other_fields fs p.1

abbrev pub other_inst : Inst → Bool
other_inst i = other_fields (inst_fields (inst_tag_of i.kind)) (inst_args i.kind)

abbrev pub other_term : Terminator → Bool
other_term t = other_fields (term_fields (term_tag_of t)) (term_args t)

-- ---- a callee that is no callee here
unfoldable pub reserved_by : List Mark → List ℕ
reserved_by [] = []
reserved_by (Mark.defined x ∷ ms) = reserved_by ms
reserved_by (Mark.reserved x ∷ ms) = x ∷ reserved_by ms

-- "callee starting `llvm.` or marked reserved"
unfoldable pub uncallable : List (List ℕ) → List Mark → ℕ → Bool
uncallable names marks x = member x (reserved_by marks) || is_intrinsic (name_at names x)

-- by the names that may not be called
module _ (barred : ℕ → Bool) where
  unfoldable pub barred_callee : Value → Bool
  barred_callee (Value.global x) = barred x
  barred_callee (Value.local x) = false
  barred_callee (Value.int v) = false
  barred_callee (Value.zero z) = false
  barred_callee Value.other = false

  abbrev pub barred_shape : Shape → Bool
  barred_shape (Shape.call callee) = barred_callee callee
  barred_shape (Shape.alloca ty count) = false
  barred_shape (Shape.phi ty incoming) = false
  barred_shape Shape.cmpxchg = false
  barred_shape Shape.plain = false

  abbrev pub forbidden_inst : Inst → Bool
  forbidden_inst i = other_inst i || barred_shape (shape i.kind)

  abbrev pub forbidden_block : BasicBlock → Bool
  forbidden_block b = any forbidden_inst b.insts || other_term b.term

  abbrev pub forbidden_function : Function → Bool
  forbidden_function f = any forbidden_block f.blocks

unfoldable pub forbidden : List (List ℕ) → Book → Bool
forbidden names b = any (forbidden_function (uncallable names b.marks)) b.functions

-- opens every definition of this file, for an example that computes
unfoldable pub open_forbidden : Unit {0}
unfolding any any_there is_other other_fields reserved_by uncallable barred_callee forbidden
open_forbidden = tt

-- `FnCtx`, and the maps that `gen_function` fills: "In each map later duplicates win".
use Rattle.std.specs.Prelude.{ℕ, ◌+◌, Bool, cond, List, [], ◌∷◌, ◌++◌}
use Rattle.std.proofs.Math.Option.{Option, none, some}
use Rattle.names.specs.Name.{name_at}
use Rattle.names.specs.Spelling.{has_overflow}
use Rattle.book.specs.Ast.{Value, Inst, BasicBlock, Param, StructType, Mark, Book}
use Rattle.book.specs.Decode.{function_names}
use Rattle.book.specs.Result.{Result, ok_or}
use Rattle.book.specs.Shape.{Shape, shape}
use Rattle.book.specs.Map.{Map, lookup, insert, open_map}

-- ---- `Codegen`: what a book's functions share
pub record Codegen : Type 0 where
  pub names : List (List ℕ)
  pub structs : List StructType
  -- `defined_fns`
  pub defined : List ℕ

unfoldable pub defined_by : List Mark → List ℕ
defined_by [] = []
defined_by (Mark.defined x ∷ ms) = x ∷ defined_by ms
defined_by (Mark.reserved x ∷ ms) = defined_by ms

-- "The function itself counts as defined"
unfoldable pub codegen_of : List (List ℕ) → Book → Codegen
codegen_of names b = record { names = names; structs = b.structs; defined = defined_by b.marks ++ function_names b }

-- ---- `FnCtx`
pub record FnCtx : Type 0 where
  pub codegen : Codegen
  pub params : Map ℕ
  pub slots : Map ℕ
  pub blocks : Map BasicBlock
  pub alloca_offsets : Map ℕ
  pub frame_size : ℕ
  pub has_frame : Bool
  pub bp_slot : ℕ

-- ---- parameters and blocks
unfoldable pub param_map : ℕ → List Param → Map ℕ → Map ℕ
param_map i [] m = m
param_map i (p ∷ ps) m = param_map (i + 1) ps (insert p.name i m)

unfoldable pub block_map : List BasicBlock → Map BasicBlock → Map BasicBlock
block_map [] m = m
block_map (b ∷ bs) m = block_map bs ((b.label, b) ∷ m)

-- ---- slots: in instruction order, "cmpxchg takes two, and so does a call of a global containing `.with.overflow.`"
pub record Slots : Type 0 where
  pub slots : Map ℕ
  pub num : ℕ

module _ (names : List (List ℕ)) where
  unfoldable pub call_slots : Value → ℕ
  call_slots (Value.global x) = cond (has_overflow (name_at names x)) 2 1
  call_slots (Value.local x) = 1
  call_slots (Value.int v) = 1
  call_slots (Value.zero z) = 1
  call_slots Value.other = 1

  unfoldable pub slots_for : Shape → ℕ
  slots_for Shape.cmpxchg = 2
  slots_for (Shape.call callee) = call_slots callee
  slots_for (Shape.alloca ty count) = 1
  slots_for (Shape.phi ty incoming) = 1
  slots_for Shape.plain = 1

  unfoldable pub slot_step : Option ℕ → Shape → Slots → Slots
  slot_step none sh s = s
  slot_step (some x) sh s = record { slots = (x, s.num) ∷ s.slots; num = s.num + slots_for sh }

  unfoldable pub slot_map : List Inst → Slots → Slots
  slot_map [] s = s
  slot_map (i ∷ is) s = slot_map is (slot_step i.dest (shape i.kind) s)

unfoldable pub no_slots : Slots
no_slots = record { slots = []; num = 0 }

-- the slot of a result; 5 where it has no name. A result's name always has a slot.
unfoldable pub named : Option ℕ → Map ℕ → Option ℕ
named none m = none
named (some x) m = lookup x m

unfoldable pub slot_of : FnCtx → Option ℕ → Result ℕ
slot_of c dest = ok_or 5 (named dest c.slots)

-- opens every definition of this file, for an example that computes
unfoldable pub open_context : Unit {0}
unfolding open_map defined_by codegen_of param_map block_map call_slots slots_for slot_step slot_map no_slots named slot_of
open_context = tt

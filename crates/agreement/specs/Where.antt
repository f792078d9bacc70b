-- Where the machine has a name's value: "its argument cell or slot".
use Rattle.std.specs.Prelude.{ℕ, List, []}
use Rattle.std.proofs.Math.Option.{Option, none, some}
use Rattle.book.specs.Ast.{Function}
use Rattle.book.specs.Shape.{all_insts}
use Rattle.machine.specs.State.{cell_at}
use Rattle.lowering.specs.Context.{param_map, slot_map, no_slots}
use Rattle.book.specs.Map.{lookup}

-- "A local is a parameter first": its argument cell, or its slot
unfoldable pub read_at : (arg slot : Option ℕ) → (args slots : List ℕ) → Option ℕ
read_at (some i) j as' ss = cell_at as' i
read_at none (some i) as' ss = cell_at ss i
read_at none none as' ss = none

-- the argument cell of a name
abbrev pub arg_cell : Function → (name : ℕ) → Option ℕ
arg_cell f x = lookup x (param_map 0 f.params [])

-- its first slot: "Slots run in instruction order; cmpxchg takes two .."
abbrev pub first_slot : (names : List (List ℕ)) → Function → (name : ℕ) → Option ℕ
first_slot names f x = lookup x (slot_map names (all_insts f.blocks) no_slots).slots

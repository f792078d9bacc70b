-- The function that a line belongs to: "A block label or jump takes the function of the last comment line before it". And "a jump goes to its label": the first line
-- whose printed label is the same.
use Rattle.std.specs.Prelude.{ℕ, suc, Bool, false, List, [], ◌∷◌}
use Rattle.std.proofs.Math.Option.{Option, none, some}
use Rattle.names.specs.Text.{same}
use Rattle.book.specs.Rule.{pick}
use Rattle.assembly.specs.Line.{Line}
use Rattle.assembly.specs.Text.{clean, block_text, hinted}

-- ---- lines and their functions
-- a line, and the function that it belongs to; none before any comment line
pub record Placed : Type 0 where
  pub function : Option ℕ
  pub line : Line

-- the function of a line, where that of the line before it is f: a comment line begins one
unfoldable pub function_from : Option ℕ → Line → Option ℕ
function_from f (Line.comment x) = some x
function_from f (Line.fn_label x) = f
function_from f (Line.block_label x) = f
function_from f (Line.label h n) = f
function_from f (Line.jmp_block x) = f
function_from f (Line.push_name x) = f
function_from f (Line.syscall x) = f
function_from f (Line.call x k) = f
function_from f (Line.push0n n) = f
function_from f (Line.push n) = f
function_from f (Line.get_arg n) = f
function_from f (Line.get_local n) = f
function_from f (Line.set_local n) = f
function_from f (Line.call_fp k) = f
function_from f (Line.jump h n) = f
function_from f (Line.bin op w) = f
function_from f (Line.icmp p w) = f
function_from f (Line.trunc n) = f
function_from f (Line.sx8 w) = f
function_from f (Line.sx16 w) = f
function_from f Line.sx32 = f
function_from f (Line.load m) = f
function_from f (Line.store m) = f
function_from f Line.atomic_load = f
function_from f Line.atomic_store = f
function_from f Line.atomic_cas = f
function_from f Line.sys_memcmp = f
function_from f Line.dup = f
function_from f Line.pop = f
function_from f Line.ret = f
function_from f Line.panic = f
function_from f Line.thread_get = f
function_from f Line.thread_set = f
function_from f Line.blank = f

unfoldable pub placed_from : Option ℕ → List Line → List Placed
placed_from f [] = []
placed_from f (l ∷ ls) = record { function = function_from f l; line = l } ∷ placed_from (function_from f l) ls

-- lines as the machine is given them
abbrev pub placed : List Line → List Placed
placed ls = placed_from none ls

-- ---- labels
unfoldable pub moved : Option ℕ → Option ℕ
moved none = none
moved (some i) = some (suc i)

unfoldable pub prints : List ℕ → Option (List ℕ) → Bool
prints t none = false
prints t (some u) = same t u

module _ (names : List (List ℕ)) where
  -- a block's label as it prints, in a function; without one there is none
  unfoldable pub block_in : Option ℕ → (block : ℕ) → Option (List ℕ)
  block_in none x = none
  block_in (some f) x = some (block_text names f x)

  -- the label that a line of a function is, as it prints in front of its `:`
  unfoldable pub label_in : Option ℕ → Line → Option (List ℕ)
  label_in f (Line.fn_label x) = some (clean names x)
  label_in f (Line.block_label x) = block_in f x
  label_in f (Line.label h n) = some (hinted h n)
  label_in f (Line.comment x) = none
  label_in f (Line.jmp_block x) = none
  label_in f (Line.push_name x) = none
  label_in f (Line.syscall x) = none
  label_in f (Line.call x k) = none
  label_in f (Line.push0n n) = none
  label_in f (Line.push n) = none
  label_in f (Line.get_arg n) = none
  label_in f (Line.get_local n) = none
  label_in f (Line.set_local n) = none
  label_in f (Line.call_fp k) = none
  label_in f (Line.jump h n) = none
  label_in f (Line.bin op w) = none
  label_in f (Line.icmp p w) = none
  label_in f (Line.trunc n) = none
  label_in f (Line.sx8 w) = none
  label_in f (Line.sx16 w) = none
  label_in f Line.sx32 = none
  label_in f (Line.load m) = none
  label_in f (Line.store m) = none
  label_in f Line.atomic_load = none
  label_in f Line.atomic_store = none
  label_in f Line.atomic_cas = none
  label_in f Line.sys_memcmp = none
  label_in f Line.dup = none
  label_in f Line.pop = none
  label_in f Line.ret = none
  label_in f Line.panic = none
  label_in f Line.thread_get = none
  label_in f Line.thread_set = none
  label_in f Line.blank = none

  abbrev pub label_of : Placed → Option (List ℕ)
  label_of l = label_in l.function l.line

  -- the position of the first line with this label
  unfoldable pub find : List ℕ → List Placed → Option ℕ
  find t [] = none
  find t (l ∷ ls) = let rest = moved (find t ls) in pick (prints t (label_of l)) (some 0) rest

-- opens every definition of this file, for an example that computes
unfoldable pub open_labels : Unit {0}
unfolding function_from placed_from moved prints block_in label_in find
open_labels = tt

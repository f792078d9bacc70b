-- "Naming conditions: parameter and result names are all distinct; no two of the book's names become equal under `sanitize`; no label line occurs twice; no
-- cmpxchg compares with its own result." The second is not needed beside the third. Names are "distinct within" a function; labels are those of all the lines.
use Rattle.std.specs.Prelude.{ℕ, ◌≡◌, List, [], ◌∷◌, ◌++◌, drop}
use Rattle.std.proofs.Math.Option.{Option, none, some}
use Rattle.book.specs.Ast.{Ty, Value, InstKind, Inst, Param, Function}
use Rattle.book.specs.Shape.{all_insts}
use Rattle.assembly.specs.Line.{Line}
use Rattle.machine.specs.State.{cell_at}
use Rattle.machine.specs.Labels.{Placed, placed, label_of}
use Rattle.agreement.specs.Lists.{In}

unfoldable pub optional : Option ℕ → List ℕ
optional none = []
optional (some x) = x ∷ []

unfoldable pub param_names : List Param → List ℕ
param_names [] = []
param_names (p ∷ ps) = optional p.name ++ param_names ps

unfoldable pub result_names : List Inst → List ℕ
result_names [] = []
result_names (i ∷ is) = optional i.dest ++ result_names is

-- no two positions hold one name
unfoldable pub Distinct : List ℕ → Type 0
Distinct l = (i j x : ℕ) → cell_at l i ≡ some x → cell_at l j ≡ some x → i ≡ j

-- two lines that print one label, each in its function, are one line
unfoldable pub LabelsOnce : (names : List (List ℕ)) → List Placed → Type 0
LabelsOnce names prog =
    (p q : ℕ) (l k : Placed) (j i : List Placed) (t : List ℕ) → drop p prog ≡ l ∷ j → drop q prog ≡ k ∷ i → label_of names l ≡ some t → label_of names k ≡ some t → p ≡ q

unfoldable pub NoSelf : List Inst → Type 0
NoSelf is = (x : ℕ) (ty : Ty) (p c n : Value) → In (record { dest = some x; kind = InstKind.cmpxchg ty p c n }) is → ¬ (c ≡ Value.local x)

-- of a function, and of the lines that it runs in
pub record Naming (names : List (List ℕ)) (f : Function) (lines : List Line) : Type 0 where
  pub distinct : Distinct (param_names f.params ++ result_names (all_insts f.blocks))
  pub labels : LabelsOnce names (placed lines)
  pub self : NoSelf (all_insts f.blocks)

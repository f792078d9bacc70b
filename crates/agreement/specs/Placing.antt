-- The lines of a function within a piece: "A block label or jump takes the function of the last comment line before it", so they belong to it wherever they stand.
use Rattle.std.specs.Prelude.{ℕ, ◌≡◌, refl, true, List, [], ◌∷◌, ◌++◌, map, length}
use Rattle.std.proofs.Common.{sym, ap, ◌∙◌}
use Rattle.std.proofs.lemmas.Bool.{false≢true}
use Rattle.std.proofs.Math.Option.{Option, none, some}
use Rattle.book.specs.Ast.{Function, Book}
use Rattle.book.specs.Limits.{Each, FunctionLimits}
use Rattle.book.specs.Decode.{member}
use Rattle.assembly.specs.Line.{Line}
use Rattle.assembly.specs.Number.{allowed}
use Rattle.assembly.specs.Lists.{AllAllowed}
use Rattle.machine.specs.Labels.{Placed, function_from, placed_from, placed}
use Rattle.lowering.specs.Gen.{Out}
use Rattle.book.specs.Result.{ok}
use Rattle.lowering.specs.Context.{Codegen}
use Rattle.lowering.specs.Function.{gen_lines, gen_function}
use Rattle.lowering.proofs.AllowedFunction.{function_opens}
use Rattle.agreement.specs.Holds.{H-use}
use Rattle.agreement.specs.Gives.{Gives, G-bind, G-put, G-map, G-self}
use Rattle.agreement.specs.Statement.{LinesAt}

-- a line of a function
abbrev pub under : ℕ → Line → Placed
under f l = record { function = some f; line = l }

-- a line that is no comment line leaves the function as it is
abbrev pub Plain : Line → Type 0
Plain l = (f : Option ℕ) → function_from f l ≡ f

-- ---- the functions of lines
all_under : (f : ℕ) (ls : List Line) → Each Plain ls → placed_from (some f) ls ≡ map (under f) ls
unfolding placed_from
all_under f [] h = refl
all_under f (l ∷ ls) (e, h) = rw (e (some f)) (ap {B = List Placed} (λ r. under f l ∷ r) (all_under f ls h))

-- behind a function's comment line, whatever came before
own_placed : (h : Option ℕ) (f : ℕ) (ls : List Line) → Each Plain ls → placed_from h (Line.comment f ∷ ls) ≡ map (under f) (Line.comment f ∷ ls)
unfolding placed_from function_from
own_placed h f ls e = ap {B = List Placed} (λ r. under f (Line.comment f) ∷ r) (all_under f ls e)

-- the function behind lines
unfoldable function_after : Option ℕ → List Line → Option ℕ
function_after f [] = f
function_after f (l ∷ ls) = function_after (function_from f l) ls

placed_append : (f : Option ℕ) (a b : List Line) → placed_from f (a ++ b) ≡ placed_from f a ++ placed_from (function_after f a) b
unfolding placed_from function_after
placed_append f [] b = refl
placed_append f (l ∷ a) b = ap {B = List Placed} (λ r. record { function = function_from f l; line = l } ∷ r) (placed_append (function_from f l) a b)

length_placed : (f : Option ℕ) (ls : List Line) → length (placed_from f ls) ≡ length ls
unfolding placed_from
length_placed f [] = refl
length_placed f (l ∷ ls) = rw (length_placed (function_from f l) ls) refl

-- ---- the lines that are generated for a function
-- a book without functions allows no comment line
bare : Book
bare = record { marks = []; structs = []; functions = [] }

allowed_plain : (names : List (List ℕ)) (l : Line) → allowed names bare l ≡ true → Plain l
unfolding allowed bare function_from member
allowed_plain names (Line.comment x) h f = absurd (false≢true h)
allowed_plain names (Line.fn_label x) h f = refl
allowed_plain names (Line.block_label x) h f = refl
allowed_plain names (Line.label k n) h f = refl
allowed_plain names (Line.jmp_block x) h f = refl
allowed_plain names (Line.push_name x) h f = refl
allowed_plain names (Line.syscall x) h f = refl
allowed_plain names (Line.call x k) h f = refl
allowed_plain names (Line.push0n n) h f = refl
allowed_plain names (Line.push n) h f = refl
allowed_plain names (Line.get_arg n) h f = refl
allowed_plain names (Line.get_local n) h f = refl
allowed_plain names (Line.set_local n) h f = refl
allowed_plain names (Line.call_fp k) h f = refl
allowed_plain names (Line.jump k n) h f = refl
allowed_plain names (Line.bin op w) h f = refl
allowed_plain names (Line.icmp p w) h f = refl
allowed_plain names (Line.trunc n) h f = refl
allowed_plain names (Line.sx8 w) h f = refl
allowed_plain names (Line.sx16 w) h f = refl
allowed_plain names Line.sx32 h f = refl
allowed_plain names (Line.load m) h f = refl
allowed_plain names (Line.store m) h f = refl
allowed_plain names Line.atomic_load h f = refl
allowed_plain names Line.atomic_store h f = refl
allowed_plain names Line.atomic_cas h f = refl
allowed_plain names Line.sys_memcmp h f = refl
allowed_plain names Line.dup h f = refl
allowed_plain names Line.pop h f = refl
allowed_plain names Line.ret h f = refl
allowed_plain names Line.panic h f = refl
allowed_plain names Line.thread_get h f = refl
allowed_plain names Line.thread_set h f = refl
allowed_plain names Line.blank h f = refl

all_plain : (names : List (List ℕ)) {ls : List Line} → AllAllowed names bare ls → Each Plain ls
all_plain names AllAllowed.none = tt
all_plain names (AllAllowed.one {l} h r) = (allowed_plain names l h, all_plain names r)

module _ (g : Codegen) (f : Function) where
  opens : Gives (gen_function g f) (λ L. (rest : List Line) × (L ≡ Line.comment f.name ∷ Line.fn_label f.name ∷ rest))
  unfolding gen_function gen_lines
  opens = G-bind _ _ λ fr e. G-put _ _ (G-put _ _ (G-map (G-self _) λ M m. (M, refl)))

  -- a function's lines begin with its comment line and its label, no other is a comment line, and so each is a line of it, whatever comes before them
  pub record OwnLines (L : List Line) : Type 0 where
    pub rest : List Line
    pub begins : L ≡ Line.comment f.name ∷ Line.fn_label f.name ∷ rest
    pub plain : Each Plain (Line.fn_label f.name ∷ rest)
    pub mine : (h : Option ℕ) → placed_from h L ≡ map (under f.name) L

  pub own_lines : FunctionLimits (length g.names) f → (c : ℕ) (out : Out) → gen_function g f c ≡ ok out → OwnLines out.lines
  own_lines limits c out makes =
      let (rest, e) = H-use out makes (opens.made c) in
      let o = (function_opens g bare f limits).opens c out makes in
      let same : o.rest ≡ Line.fn_label f.name ∷ rest = tails (sym o.begins ∙ e) in
      let plain : Each Plain (Line.fn_label f.name ∷ rest) = rw same at (all_plain g.names o.allowed_rest) in
      record { rest = rest; begins = e; plain = plain; mine = λ h. rw e (own_placed h f.name (Line.fn_label f.name ∷ rest) plain) }
    where
      tails : {l k : Line} {ls ks : List Line} → ◌≡◌ {A = List Line} (l ∷ ls) (k ∷ ks) → ls ≡ ks
      tails e = cc

-- ---- within a piece: from a position on
pub record Within (f : ℕ) (own lines : List Line) (from : ℕ) : Type 0 where
  pub before : List Placed
  pub after : List Placed
  pub parts : placed lines ≡ before ++ (map (under f) own ++ after)
  pub position : from ≡ length before

pub within : (g : Codegen) (f : Function) → FunctionLimits (length g.names) f → (lines : List Line) (from : ℕ) (at : LinesAt g f lines from) → Within f.name at.own.lines lines from
within g f limits lines from at =
    let own = at.own.lines in
    let h = function_after none at.before in
    let mine = (own_lines g f limits at.counter at.own at.made).mine in
    record {
      before = placed at.before;
      after = placed_from (function_after h own) at.after;
      parts = ap placed at.parts ∙ placed_append none at.before (own ++ at.after)
          ∙ ap (λ r. placed at.before ++ r) (placed_append h own at.after ∙ ap (λ r. r ++ placed_from (function_after h own) at.after) (mine h));
      position = at.position ∙ sym (length_placed none at.before);
    }

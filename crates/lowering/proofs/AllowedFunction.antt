-- The lines of a function are allowed: slots stay below 65,536, and operands are within what docs/LINES.md allows.
use Rattle.std.specs.Prelude.{ℕ, ◌≤◌, ◌≡◌, refl, Bool, true, false, ◌||◌, length, eqb, ltb}
use Rattle.std.proofs.Common.{subst, ⊎_elim, arith}
use Rattle.std.proofs.Math.Option.{some}
use mathlib.Core.List.{List, [], ◌∷◌, map}
use borrow.Author.Tests.{eq-eqb, ltb-true, ltb-false, le-leb, lt-ltb}
use Rattle.book.specs.Ast.{BasicBlock, Function, Book}
use Rattle.book.specs.Limits.{Each, BlockLimits, FunctionLimits, Limits}
use Rattle.book.specs.Decode.{member, function_names}
use Rattle.book.specs.Shape.{all_insts}
use Rattle.assembly.specs.Line.{Line}
use Rattle.assembly.specs.Number.{is_name, allowed}
use Rattle.lowering.specs.Gen.{line, each}
use Rattle.lowering.specs.Context.{Codegen, FnCtx, codegen_of, block_map}
use Rattle.layout.specs.Frame.{Places}
use Rattle.lowering.specs.Function.{gen_block, prologue, gen_lines, slots_of, context_of, total_slots, gen_function, gen_functions}
use Rattle.lowering.specs.Places.{lookup_cons, all_below_lem}
use Rattle.lowering.specs.Allows.{Allows, line_allows, then_allows, when_allows, when_true, guard_allows, each_allows, Opens, line_opens, bind_opens, opens_allows, plain}
use Rattle.lowering.specs.Allowed.{Within, add_allows, set_base}
use Rattle.lowering.proofs.AllowedBlocks.{and-true, block_allows}
use Rattle.book.specs.Map.{Map, lookup}

or-true : (b : Bool) → (b || true) ≡ true
or-true true = refl
or-true false = refl

-- ---- the blocks of a function
blocks_within : (n : ℕ) (bs : List BasicBlock) (m : Map BasicBlock) → Each (BlockLimits n) bs → ((x : ℕ) (bb : BasicBlock) → lookup x m ≡ some bb → BlockLimits n bb)
    → (x : ℕ) (bb : BasicBlock) → lookup x (block_map bs m) ≡ some bb → BlockLimits n bb
unfolding block_map
blocks_within n [] m l h x bb e = h x bb e
blocks_within n (a ∷ bs) m l h x bb e =
    blocks_within n bs ((a.label, a) ∷ m) l.1 (λ y found f. ⊎_elim (λ q. subst (BlockLimits n) q.1 l.0) (λ g. h y found g) (lookup_cons y a.label a found m f)) x bb e

no_block : (n x : ℕ) (bb : BasicBlock) → lookup x [] ≡ some bb → BlockLimits n bb
unfolding lookup
no_block n x bb h = absurd (let z : ◌≡◌ {A = ℕ} 0 1 = cc in omega arith)

-- a function within the limits, whatever else is defined
module _ (g : Codegen) (b : Book) (f : Function) (l : FunctionLimits (length g.names) f) where
  abbrev names : List (List ℕ)
  names = g.names

  abbrev context : Places → FnCtx
  context fr = context_of g f fr

  abbrev total : Places → ℕ
  total fr = total_slots g f fr

  -- ---- the context, where the slots are few enough
  within : (fr : Places) → total fr ≤ 65535 → Within (context fr)
  unfolding context_of total_slots slots_of
  within fr h =
      record {
        slots = λ x s e. let q = all_below_lem names (all_insts f.blocks) x s e in omega arith;
        base = omega arith;
        blocks = blocks_within (length names) f.blocks [] l.1.1.1 (no_block (length names));
      }

  name_line : Allows names b (line (Line.fn_label f.name))
  unfolding allowed is_name
  name_line = line_allows names b _ (lt-ltb _ _ l.0)

  slots_line : (n : ℕ) → n ≤ 65535 → ltb 0 n ≡ true → Allows names b (line (Line.push0n n))
  unfolding allowed
  slots_line n h k =
      let p = ltb-true 0 n k in
      line_allows names b _ (and-true _ _ (le-leb 1 n (omega arith)) (le-leb n 65535 h))

  prologue_allows : (c : FnCtx) (w : Within c) → Allows c.codegen.names b (prologue c)
  unfolding prologue
  prologue_allows c w =
      let base = set_base b c w in
      search (plain, add_allows) depth 9

  blocks_allow : (c : FnCtx) (w : Within c) (bs : List BasicBlock) → Each (BlockLimits (length c.codegen.names)) bs → Allows c.codegen.names b (each (gen_block c) bs)
  blocks_allow c w bs h = each_allows _ b (BlockLimits (length c.codegen.names)) (gen_block c) (block_allows b c w) bs h

  lines_open : (fr : Places) → Opens names b (Line.comment f.name) (gen_lines (context fr) f (total fr))
  unfolding gen_lines context_of
  lines_open fr =
      line_opens _ _ _ _ (then_allows _ _ _ _ name_line (guard_allows _ _ _ _ _ (λ e.
      let few : total fr ≤ 65535 = ltb-false 65535 (total fr) e in
      let w = within fr few in
      then_allows _ _ _ _ (when_true _ _ _ _ (slots_line (total fr) few)) (then_allows _ _ _ _ (when_allows _ _ _ _ (prologue_allows (context fr) w))
      (then_allows _ _ _ _ (blocks_allow (context fr) w f.blocks l.1.1.1) (search plain))))))

  -- behind its comment line every line of the function is allowed, whatever functions the book has
  pub function_opens : Opens g.names b (Line.comment f.name) (gen_function g f)
  unfolding gen_function
  function_opens = bind_opens _ _ _ _ _ lines_open

  -- every line of it, where the book has its name
  pub function_allows : member f.name (function_names b) ≡ true → Allows g.names b (gen_function g f)
  unfolding allowed
  function_allows own = opens_allows _ _ _ _ own function_opens

-- a function of the book, within the limits
abbrev Own : (names : List (List ℕ)) → Book → Function → Type 0
Own names b f = FunctionLimits (length names) f × (member f.name (function_names b) ≡ true)

-- those of a list are among its names, whatever stands before them
all_own : (names : List (List ℕ)) (b : Book) (fs : List Function) → ((x : ℕ) → member x (map (λ (f : Function). f.name) fs) ≡ true → member x (function_names b) ≡ true)
    → Each (FunctionLimits (length names)) fs → Each (Own names b) fs
unfolding member
all_own names b [] h l = tt
all_own names b (f ∷ fs) h l =
    ((l.0, h f.name (rw (eq-eqb f.name f.name refl) refl)), all_own names b fs (λ x e. h x (rw e (or-true (eqb x f.name)))) l.1)

-- every line of a book's functions is allowed
pub functions_allow : (names : List (List ℕ)) (b : Book) → Limits (length names) b → Allows names b (gen_functions (codegen_of names b) b.functions)
unfolding gen_functions codegen_of
functions_allow names b l =
    each_allows names b (Own names b) (gen_function (codegen_of names b)) (λ f k. function_allows (codegen_of names b) b f k.0 k.1) b.functions (all_own names b b.functions (λ x e. e) l.functions.1)

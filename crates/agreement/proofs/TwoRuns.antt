-- Demand 3, "The two runs": one claim about the whole run of each function that the translator accepts, on its lines wherever they stand.
use Rattle.std.specs.Prelude.{ℕ, ◌+◌, ◌^◌, ◌<◌, min, ◌≡◌, refl, true, length, take, leb}
use Rattle.std.proofs.Common.{sym, ◌∙◌, zero-add}
use Rattle.std.proofs.Math.Path.{ap, subst}
use Rattle.std.proofs.Math.Option.{Option, none, some}
use mathlib.Core.List.{List, [], ◌∷◌, ◌++◌, map, append_assoc}
use native.Mathlib.Omega.{arith}
use Rattle.book.specs.Ast.{BasicBlock, Function}
use Rattle.book.specs.Result.{Result, ok, err, bind, bind_ok, given_ok}
use Rattle.book.specs.Shape.{all_insts}
use Rattle.book.specs.Limits.{Each, BlockLimits, FunctionLimits}
use Rattle.book.specs.Check.{Sound, checked}
use Rattle.assembly.specs.Line.{Line}
use Rattle.assembly.specs.Number.{kind_of, operand_of}
use Rattle.assembly.specs.Printer.{lines_of}
use Rattle.assembly.proofs.Lists.{lines_of_numbers}
use Rattle.machine.specs.Memory.{Memory}
use Rattle.machine.specs.State.{World}
use Rattle.machine.specs.Labels.{placed}
use Rattle.machine.specs.Run.{Outcome, running, state, steps, start}
use Rattle.machine.proofs.Exact.{Alive}
use Rattle.lowering.specs.Gen.{Out, ◌>>=◌}
use Rattle.lowering.specs.Translate.{generated, Translation, over, replied, translate}
use Rattle.lowering.proofs.AllowedFunction.{functions_allow}
use Rattle.lowering.proofs.Printable.{checked_lent, take_over}
use Rattle.lowering.specs.Context.{Codegen, codegen_of}
use Rattle.layout.specs.Frame.{Places, frame_pass, no_frame}
use Rattle.lowering.specs.Function.{slots_of, context_of, gen_function, gen_functions}
use Rattle.manual.specs.State.{Cell, Source}
use Rattle.manual.specs.Term.{Stand}
use Rattle.manual.specs.GoesOn.{AllMeasured, places_of, given_of}
use Rattle.manual.specs.Going.{Going}
use Rattle.manual.specs.Run.{args_fit, first_block, begin, run, source_run}
use Rattle.agreement.specs.Holds.{ok_same, Holds, H-ok, H-bind, H-eq, H-known, H-map, H-use}
use Rattle.agreement.specs.Gives.{G-use}
use Rattle.agreement.specs.Lists.{some_same, none_some, drop_part, In}
use Rattle.agreement.specs.Setup.{Setup, given as givenTo}
use Rattle.agreement.specs.Reach.{Once, mine, at_line, steps_of}
use Rattle.agreement.specs.Relation.{Held}
use Rattle.agreement.specs.Statement.{LinesAt, SameValue, AtLabel, Agrees, RunsAs, RunsIn, after}
use Rattle.agreement.specs.Flow.{Arrives, Goes}
use Rattle.agreement.specs.Labels.{labels_of}
use Rattle.agreement.specs.Block.{labels_distinct, Split, split_ok, blocks_run}
use Rattle.agreement.specs.Start.{at_start, at_block, at_entry, Begins, begins_ok, first_ok, rel_start}
use Rattle.agreement.specs.Only.{Reason, Only, O-then, O-known}
use Rattle.agreement.specs.Measures.{blocks_measured}
use Rattle.agreement.specs.OnlyStops.{begin_only, run_only}
use Rattle.agreement.specs.Book.{apart_ok, good_inst, has_place, good_term, each_in}
use Rattle.agreement.specs.Naming.{param_names, result_names, Distinct, LabelsOnce, NoSelf, Naming}
use Rattle.agreement.specs.Placing.{under, own_lines, Within, within}
use Rattle.agreement.specs.Turns.{by_itself, in_turn_lem, begins_at, comment_turn, one_comment}
use Rattle.agreement.specs.Piece.{shifted, at_within, labels_within, run_within}

-- ---- the run of one function, with its frame
module _ (s : Setup) (m : ℕ) (limits : Each (BlockLimits m) s.function.blocks)
    (names : Distinct (param_names s.function.params ++ result_names (all_insts s.function.blocks))) (self : NoSelf (all_insts s.function.blocks)) (labels : Once s)
    (pass : frame_pass s.codegen.structs (all_insts s.function.blocks) no_frame ≡ ok s.frame) (begins : Begins s s.lines) where
  splits : (k : BasicBlock) → In k s.function.blocks → Split s k s.lines
  splits k h =
      let t = G-use begins.code begins.made (split_ok s s.function.blocks) k h in
      record {
        ahead = begins.head ++ t.ahead;
        after = t.after ++ (Line.blank ∷ []);
        code = t.code;
        made = t.made;
        parts = begins.parts ∙ ap (λ l. begins.head ++ (l ++ (Line.blank ∷ []))) t.parts
            ∙ ap (λ l. begins.head ++ l) (append_assoc t.ahead _ (Line.blank ∷ []) ∙ ap (λ l. t.ahead ++ (Line.block_label k.label ∷ l)) (append_assoc t.code t.after (Line.blank ∷ [])))
            ∙ sym (append_assoc begins.head t.ahead _);
      }

  distinct : Distinct (labels_of s.function.blocks)
  distinct =
      let (q, h) = drop_part s.lines begins.head 0 begins.parts in
      G-use begins.code begins.made (labels_distinct s labels s.function.blocks) q (Line.blank ∷ []) h

  arrives : s.base < 2 ^ 64 → (memory : Memory) → args_fit s.function.params s.args ≡ true → (b : ℕ) → first_block s.function.blocks ≡ ok b
      → Arrives s (state 0 (at_start s memory) [] 0) 0 b (at_entry s memory)
  arrives h memory t b hb =
      let (j, e) = G-use begins.code begins.made (first_ok s s.function.blocks b hb) in
      let c = (begins.enters memory).from 0 0 (begins.code ++ (Line.blank ∷ [])) begins.parts in
      record { pos = c.pos; rest = j ++ (Line.blank ∷ []); frame = at_block s memory; here = c.here ∙ ap (λ l. l ++ (Line.blank ∷ [])) e; way = c.way; rel = rel_start s h memory t }

  -- n blocks from the beginning
  whole_run : s.base < 2 ^ 64 → (memory : Memory) → args_fit s.function.params s.args ≡ true → (n : ℕ)
      → Holds (bind (begin (givenTo s) s.args memory) (λ t. run (givenTo s) n t)) (Goes s (start 0 s.args memory s.base) n)
  unfolding begin start
  whole_run h memory t n =
      H-bind _ (H-eq (first_block s.function.blocks) _ λ b hb. H-ok _ (arrives h memory t b hb)) λ x g.
      subst (λ k. Holds (run (givenTo s) n x) (Goes s (state 0 (at_start s memory) [] 0) k)) (zero-add n)
      (blocks_run s labels (apart_ok s names) (λ k q i p. good_inst s names pass self m limits k q i p)
      (λ k q. good_term m k.term (each_in (BlockLimits m) s.function.blocks limits q).1.1) splits distinct n 0 (state 0 (at_start s memory) [] 0) x g)

  -- it can be measured
  measured : AllMeasured (givenTo s)
  measured = G-use begins.code begins.made (blocks_measured s s.function.blocks (λ k q i p.
      (good_inst s names pass self m limits k q i p, has_place s names pass self m k q i p)))

  -- so it stops for document 01's reasons alone
  whole_only : (memory : Memory) (n : ℕ) → Only (bind (begin (givenTo s) s.args memory) (λ t. run (givenTo s) n t))
  whole_only memory n = O-then _ (begin_only (givenTo s) s.args memory) λ t. run_only (givenTo s) measured n t

-- ---- a function whose lines stand in a piece
module _ (g : Codegen) (f : Function) (limits : FunctionLimits (length g.names) f) (lines : List Line) (from : ℕ) (at : LinesAt g f lines from) (naming : Naming g.names f lines)
    (world : World) (args : List ℕ) (memory : Memory) (sp : ℕ) (fits : args_fit f.params args ≡ true) (word : sp < 2 ^ 64) where
  abbrev setup : Places → Setup
  setup fr = record { codegen = g; function = f; frame = fr; world = world; args = args; base = sp; lines = at.own.lines }

  -- its lines within the others
  around : Within f.name at.own.lines lines from
  around = within g f limits lines from at

  labels_own : (fr : Places) → Once (setup fr)
  labels_own fr = labels_within g.names around.before (mine (setup fr)) around.after (placed lines) around.parts from around.position naming.labels

  -- what the lines come to by themselves, the machine comes to in the piece
  there_too : (fr : Places) (k : ℕ) (y : Outcome) → steps_of (setup fr) k (running (start 0 args memory sp)) ≡ y → Alive y → after g.names f lines from world args memory sp k ≡ shifted from y
  unfolding start shifted
  there_too fr k y e a =
      let begin : Outcome = running (start 0 args memory sp) in
      let same : from + 0 ≡ from = omega arith in
      subst (λ p. steps g.names world (placed lines) k (running (start p args memory sp)) ≡ shifted from y) same
      (run_within g.names around.before (mine (setup fr)) around.after (placed lines) around.parts from around.position naming.labels world k begin (rw e a) ∙ ap (shifted from) e)

  arrived : (fr : Places) (n block : ℕ) (σ : Source) → Arrives (setup fr) (start 0 args memory sp) n block σ → AtLabel g.names f lines from world args memory sp n block σ
  unfolding shifted slots_of
  arrived fr n block σ a = record {
    number = a.way.number;
    position = from + a.pos;
    rest = _;
    frame = a.frame;
    stands = there_too fr a.way.number _ a.way.reach tt;
    label = at_within g.names around.before (mine (setup fr)) around.after (placed lines) around.parts from around.position a.pos (at_line (setup fr) a.pos a.here);
    same_args = a.rel.args_eq;
    same_values = λ x c h. same x c (a.rel.held x c h);
    same_memory = a.rel.memory_eq;
    same_stack = a.rel.stack.sp_eq;
    same_calls = a.rel.calls_eq;
  }
    where
      same : (x : ℕ) (c : Cell) → Held (setup fr) a.frame x c → SameValue g.names f a.frame x c
      same x (Cell.one w v) h = (h.cell, h.fits)
      same x (Cell.two w v t) h = (h.base, h.slot_eq, h.cell₀, h.cell₁, h.fits₀, h.fits₁)

  agrees : (fr : Places) (n : ℕ) (t : Stand) → Goes (setup fr) (start 0 args memory sp) n t → Agrees g.names f lines from world args memory sp n t
  unfolding shifted
  agrees fr n (Stand.at block σ) a = arrived fr n block σ a
  agrees fr n (Stand.gave v σ) a = record {
    number = a.way.number;
    frame = a.frame;
    labels = a.labels;
    within = a.within;
    returns = there_too fr a.way.number _ a.way.reach tt;
    same_memory = a.memory_eq;
    same_calls = a.calls_eq;
    stack_restored = a.sp_eq;
  }

  -- the frame that was passed, and what begins the lines
  begun : (fr : Places) × (places_of g.structs f ≡ ok fr) × Begins (setup fr) at.own.lines
  unfolding gen_function context_of ◌>>=◌
  begun = let (fr, pass, made) = bind_ok (places_of g.structs f) _ at.own at.made in (fr, pass, H-use at.own made ((begins_ok (setup fr)).made at.counter))

  function_runs : (n : ℕ) → Holds (source_run g.names g.structs f world args memory sp n) (Agrees g.names f lines from world args memory sp n)
  unfolding source_run
  function_runs n =
      let (fr, pass, begins) = begun in
      H-known _ pass (H-map (whole_run (setup fr) (length g.names) limits.1.1.1 naming.distinct naming.self (labels_own fr) pass begins word memory fits n) λ t a. agrees fr n t a)

  pub function_measured : (fr : Places) → places_of g.structs f ≡ ok fr → AllMeasured (given_of g.names g.structs f world sp fr)
  function_measured fr pass =
      let (fr', pass', begins) = begun in
      subst (λ (z : Places). AllMeasured (given_of g.names g.structs f world sp z)) (ok_same (sym pass' ∙ pass))
      (measured (setup fr') (length g.names) limits.1.1.1 naming.distinct naming.self (labels_own fr') pass' begins)

  pub function_places : Going (places_of g.structs f)
  function_places = let (fr, pass, begins) = begun in (fr, pass)

  function_only : (n : ℕ) → Only (source_run g.names g.structs f world args memory sp n)
  unfolding source_run
  function_only n =
      let (fr, pass, begins) = begun in
      O-known _ pass (whole_only (setup fr) (length g.names) limits.1.1.1 naming.distinct naming.self (labels_own fr) pass begins memory n)

-- ---- the functions of a book
-- what is generated for a book: its names, its structs, and all its functions defined
abbrev pub codegen : Sound → Codegen
codegen b = codegen_of b.names b.book

-- a function of a sound book keeps the limits
pub sound_limits : (book names : List ℕ) (counter workLen : ℕ) (b : Sound) → checked book names counter workLen ≡ ok b → (f : Function) → In f b.book.functions
    → FunctionLimits (length (codegen b).names) f
unfolding codegen_of
sound_limits book names counter workLen b checks f of =
    each_in (FunctionLimits (length b.names)) b.book.functions (checked_lent book names counter workLen b checks).limits.functions.1 of

-- For every function of a book that the translator accepts, on its lines wherever they stand.
pub two_runs : (book names : List ℕ) (counter workLen : ℕ) (b : Sound) → checked book names counter workLen ≡ ok b → (f : Function) → In f b.book.functions
    → (lines : List Line) (from : ℕ) → LinesAt (codegen b) f lines from → RunsAs b.names b.book.structs f lines from
unfolding codegen_of
two_runs book names counter workLen b checks f of lines from at naming world args memory sp fits word n t h =
    H-use t h (function_runs (codegen b) f (sound_limits book names counter workLen b checks f of) lines from at naming world args memory sp fits word n)

-- Where the source run of such a function has no state, it stopped for a reason of document 01, or a reply did not fit its call's width.
pub only_stops : (book names : List ℕ) (counter workLen : ℕ) (b : Sound) → checked book names counter workLen ≡ ok b → (f : Function) → In f b.book.functions
    → (lines : List Line) (from : ℕ) → LinesAt (codegen b) f lines from → Naming b.names f lines
    → (world : World) (args : List ℕ) (memory : Memory) (sp : ℕ) → args_fit f.params args ≡ true → sp < 2 ^ 64
    → (n e : ℕ) → source_run b.names b.book.structs f world args memory sp n ≡ err e → Reason e
unfolding codegen_of
only_stops book names counter workLen b checks f of lines from at naming world args memory sp fits word n e h =
    (function_only (codegen b) f (sound_limits book names counter workLen b checks f of) lines from at naming world args memory sp fits word n).only e h

-- what `generated` has made, of the sound book
pub made_by_lem : (book names : List ℕ) (counter workLen room : ℕ) (b : Sound) (out : Out) → checked book names counter workLen ≡ ok b → generated book names counter workLen room ≡ ok out
    → gen_functions (codegen b) b.book.functions counter ≡ ok out
unfolding generated
made_by_lem book names counter workLen room b out checks makes =
    let (b', hb, h₁) = bind_ok (checked book names counter workLen) _ out makes in
    let (out', ho, h₂) = bind_ok (gen_functions (codegen b') b'.book.functions counter) _ out h₁ in
    let same : b' ≡ b = ok_same (sym hb ∙ checks) in
    let made : out' ≡ out = (given_ok (leb (length out'.lines) room) 20 out' out h₂).1 in
    subst (λ (z : Sound). gen_functions (codegen z) z.book.functions counter ≡ ok out) same (ho ∙ ap {B = Result Out} ok made)

-- ---- the two uses
-- The whole piece: each function of the book runs on all the lines that were generated, from its comment line.
pub piece_runs : (book names : List ℕ) (counter workLen room : ℕ) (b : Sound) (out : Out) → checked book names counter workLen ≡ ok b → generated book names counter workLen room ≡ ok out
    → (f : Function) → In f b.book.functions → RunsIn b.names b.book.structs f out.lines
unfolding codegen_of
piece_runs book names counter workLen room b out checks makes f of =
    let limits = sound_limits book names counter workLen b checks in
    let turns = made_by_lem book names counter workLen room b out checks makes in
    let (p, at) = in_turn_lem (codegen b) b.book.functions counter out turns of in (
      (p, begins_at (codegen b) f (limits f of) out.lines p at),
      λ from (rest, begins) naming.
          let (k, in-k, same, at-k) = comment_turn (codegen b) b.book.functions limits counter out turns from begins in
          let here : p ≡ from = one_comment (codegen b) out.lines naming.labels f k (limits f of) (limits k in-k) same p from at at-k in
          two_runs book names counter workLen b checks f of out.lines from (subst (LinesAt (codegen b) f out.lines) here at) naming,
    )

-- The function's own lines, made at any counter: it runs on them from the first.
pub own_runs : (book names : List ℕ) (counter workLen : ℕ) (b : Sound) → checked book names counter workLen ≡ ok b → (f : Function) → In f b.book.functions
    → (c : ℕ) (own : Out) → gen_function (codegen b) f c ≡ ok own → RunsAs b.names b.book.structs f own.lines 0
own_runs book names counter workLen b checks f of c own makes = two_runs book names counter workLen b checks f of own.lines 0 (by_itself (codegen b) f c own makes)

-- where the naming conditions hold in the piece, they do in the function's own lines
pub own_naming : (book names : List ℕ) (counter workLen : ℕ) (b : Sound) → checked book names counter workLen ≡ ok b → (f : Function) → In f b.book.functions
    → (lines : List Line) (from : ℕ) (at : LinesAt (codegen b) f lines from) → Naming b.names f lines → Naming b.names f at.own.lines
own_naming book names counter workLen b checks f of lines from at naming =
    let limits = sound_limits book names counter workLen b checks f of in
    let own = own_lines (codegen b) f limits at.counter at.own at.made in
    let w = within (codegen b) f limits lines from at in
    let alone : LabelsOnce b.names (map (under f.name) at.own.lines) = labels_within b.names w.before _ w.after (placed lines) w.parts from w.position naming.labels in
    record { distinct = naming.distinct; labels = subst (LabelsOnce b.names) (sym (own.mine none)) alone; self = naming.self }

-- ---- the same of a call of the translator: the lines are those that its two line slices hold afterwards
count_of_lem : Translation → Option ℕ
count_of_lem (Translation.accepted n next) = some n
count_of_lem (Translation.refused e) = none

pub lent_runs : (book names : List ℕ) (counter : ℕ) (work kinds operands : List ℕ) → let call = translate book names counter work kinds operands in
    (many next : ℕ) → call.reply ≡ Translation.accepted many next
    → (b : Sound) → checked book names counter (length work) ≡ ok b
    → (lines : List Line) → lines_of b.names b.book (take many call.kinds) (take many call.operands) ≡ some lines
    → (f : Function) → In f b.book.functions → RunsIn b.names b.book.structs f lines
unfolding translate replied count_of_lem
lent_runs book names counter work kinds operands many next reply b checks lines read f of = go (generated book names counter (length work) room) refl reply read
  where
    room : ℕ
    room = min (length kinds) (length operands)

    go : (r : Result Out) → generated book names counter (length work) room ≡ r → (replied r work kinds operands).reply ≡ Translation.accepted many next
        → lines_of b.names b.book (take many (replied r work kinds operands).kinds) (take many (replied r work kinds operands).operands) ≡ some lines
        → RunsIn b.names b.book.structs f lines
    go (err e) makes k i = none_some many (ap count_of_lem k)
    go (ok out) makes k i =
        let gen = made_by_lem book names counter (length work) room b out checks makes in
        let l = checked_lent book names counter (length work) b checks in
        let count : length out.lines ≡ many = some_same (ap count_of_lem k) in
        let allowed = (functions_allow b.names b.book l.limits).allows counter out gen in
        let back : lines_of b.names b.book (take many (over (map kind_of out.lines) kinds)) (take many (over (map operand_of out.lines) operands)) ≡ some out.lines =
        rw (← count, take_over kind_of out.lines kinds, take_over operand_of out.lines operands) (lines_of_numbers b.names b.book out.lines allowed) in
        subst (RunsIn b.names b.book.structs f) (some_same (sym back ∙ i)) (piece_runs book names counter (length work) room b out checks makes f of)

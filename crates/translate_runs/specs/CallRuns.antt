-- Demand 3 of the code that runs: the lines that an accepted call of `translate::translate` leaves in its slices run as the book's functions do by the manual.
use Rattle.std.specs.Prelude.{ℕ, ◌≡◌, List, map, length, take}
use Rattle.std.proofs.Common.{sym, ap, ◌∙◌}
use Rattle.std.proofs.Math.Option.{some}
use Rattle.book.specs.Ast.{Function}
use Rattle.book.specs.Result.{Result, ok, bind_ok}
use Rattle.book.specs.Check.{Sound, checked}
use Rattle.assembly.specs.Line.{Line}
use Rattle.assembly.specs.Number.{kind_of, operand_of}
use Rattle.assembly.specs.Printer.{lines_of}
use Rattle.assembly.proofs.Lists.{lines_of_numbers}
use Rattle.lowering.specs.Gen.{Out}
use Rattle.lowering.proofs.AllowedFunction.{functions_allow}
use Rattle.lowering.proofs.Printable.{checked_lent, take_over}
use Rattle.lowering.specs.Numbers.{number_0}
use Rattle.lowering.specs.Translate.{Translating, generated, translation_lines, over, replied, translate}
use Rattle.agreement.specs.Lists.{In}
use Rattle.agreement.specs.Statement.{LinesAt, RunsAs, RunsIn}
use Rattle.agreement.specs.Turns.{in_turn_lem}
use Rattle.agreement.proofs.TwoRuns.{codegen, made_by_lem, piece_runs, own_runs}
use Rattle.translate.specs.Reply.{Answers}

-- the lines that these kinds and operands are, and the runs of the book's functions: with document 01's naming conditions, for all arguments that fit, every memory,
-- stack pointer and world, and for every number of blocks that the run by the manual passes without a stop
pub record Runs (book names : List ℕ) (counter work : ℕ) (kinds operands : List ℕ) : Type 0 where
  pub sound : Sound
  pub checks : checked book names counter work ≡ ok sound
  pub lines : List Line
  pub read : lines_of sound.names sound.book kinds operands ≡ some lines
  -- each on all the lines, from its comment line
  pub run : (f : Function) → In f sound.book.functions → RunsIn sound.names sound.book.structs f lines
  -- and on its own, which stand among them
  pub own_run : (f : Function) → In f sound.book.functions → (p : ℕ) × (at : LinesAt (codegen sound) f lines p) × RunsAs sound.names sound.book.structs f at.own.lines 0

-- what was generated
made : (book names : List ℕ) (counter work room : ℕ) (out : Out) → generated book names counter work room ≡ ok out
    → Runs book names counter work (map kind_of out.lines) (map operand_of out.lines)
unfolding generated
made book names counter work room out h =
    let a = bind_ok (checked book names counter work) _ out h in
    let b = a.0 in
    let made = made_by_lem book names counter work room b out a.1 h in
    let l = checked_lent book names counter work b a.1 in
    let allowed = (functions_allow b.names b.book l.limits).allows counter out made in
    record {
      sound = b;
      checks = a.1;
      lines = out.lines;
      read = lines_of_numbers b.names b.book out.lines allowed;
      run = piece_runs book names counter work room b out a.1 h;
      own_run = λ f of.
          let (p, at) = in_turn_lem (codegen b) b.book.functions counter out made of in
          (p, at, own_runs book names counter work b a.1 f of at.counter at.own at.made);
    }

-- every call whose number is 0, that of an accepted one, from the contract of the code alone
pub call_runs : (book names : List ℕ) (counter : ℕ) (work kinds operands work' kinds' operands' : List ℕ) (many next : ℕ)
    → Answers counter (translate book names counter work kinds operands) 0 many next work' kinds' operands'
    → Runs book names counter (length work) (take many kinds') (take many operands')
unfolding translate replied translation_lines
call_runs book names counter work kinds operands work' kinds' operands' many next h =
    let (out, makes) = number_0 book names counter work kinds operands (sym h.number) in
    let said : translate book names counter work kinds operands ≡ replied (ok out) work kinds operands =
    ap (λ (r : Result Out). replied r work kinds operands) makes in
    let n : many ≡ length out.lines = h.lines ∙ ap (λ (t : Translating). translation_lines t.reply) said in
    let ks : take many kinds' ≡ map kind_of out.lines =
    ap (take many) (h.kinds ∙ ap (λ (t : Translating). t.kinds) said) ∙ ap (λ (j : ℕ). take j (over (map kind_of out.lines) kinds)) n ∙ take_over kind_of out.lines kinds in
    let os : take many operands' ≡ map operand_of out.lines =
    ap (take many) (h.operands ∙ ap (λ (t : Translating). t.operands) said) ∙ ap (λ (j : ℕ). take j (over (map operand_of out.lines) operands)) n
    ∙ take_over operand_of out.lines operands in
    rw (ks, os) (made book names counter (length work) _ out makes)

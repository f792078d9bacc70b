-- "Stops", turned round, of a function that the translator accepts: its run goes on exactly where the conditions of `manual`'s `Goes` and `GoesOn` hold at every block
-- that it comes to, and there the lines go on with it. Nothing has to be said of measuring. (That a reply fits its call's width, a premise in document 01, is one of the
-- conditions: `Receives`.)
use Rattle.std.specs.Prelude.{ℕ, suc, ◌^◌, ◌<◌, ◌≡◌, ◌↔◌, true, List}
use Rattle.std.proofs.Math.Path.{refl}
use Rattle.book.specs.Ast.{Function}
use Rattle.book.specs.Result.{Result, ok}
use Rattle.book.specs.Check.{Sound, checked}
use Rattle.machine.specs.Memory.{Memory}
use Rattle.machine.specs.State.{World}
use Rattle.assembly.specs.Line.{Line}
use Rattle.machine.specs.Labels.{placed}
use Rattle.machine.specs.Run.{State, running, start}
use Rattle.machine.specs.Works.{StepWorks}
use Rattle.machine.proofs.Exact.{Alive, step_works}
use Rattle.lowering.specs.Context.{codegen_of}
use Rattle.manual.specs.Term.{Stand}
use Rattle.manual.specs.Run.{args_fit, source_run}
use Rattle.manual.specs.Going.{Going}
use Rattle.manual.specs.GoesOn.{SourceGoes}
use Rattle.manual.proofs.Progress.{source_goes, gone_source}
use Rattle.agreement.specs.Statement.{LinesAt, after, Agrees}
use Rattle.agreement.proofs.TwoRuns.{function_measured, function_places, codegen, sound_limits, two_runs}
use Rattle.agreement.proofs.NeverFails.{alive_step, Comes, never_fails}
use Rattle.agreement.specs.Naming.{Naming}
use Rattle.agreement.specs.Lists.{In}

module _ (book names : List ℕ) (counter workLen : ℕ) (b : Sound) (sound : checked book names counter workLen ≡ ok b) (f : Function) (of : In f b.book.functions)
    (lines : List Line) (from : ℕ) (at : LinesAt (codegen b) f lines from) (naming : Naming b.names f lines)
    (world : World) (args : List ℕ) (memory : Memory) (sp : ℕ) (fits : args_fit f.params args ≡ true) (word : sp < 2 ^ 64) where
  abbrev pub source : (n : ℕ) → Result Stand
  source n = source_run b.names b.book.structs f world args memory sp n

  abbrev pub Conditions : (n : ℕ) → Type 0
  Conditions n = SourceGoes b.names b.book.structs f world args memory sp n

  -- the run passes n blocks, or returns before, exactly where the conditions hold at every block that it comes to with fewer than n passed
  pub goes_on_lem : (n : ℕ) → Conditions n ↔ Going (source n)
  unfolding codegen_of
  goes_on_lem n =
      let limits = sound_limits book names counter workLen b sound f of in
      let (fr, pass) = function_places (codegen b) f limits lines from at naming world args memory sp fits word in
      let measured = function_measured (codegen b) f limits lines from at naming world args memory sp fits word fr pass in
      ((λ h. source_goes b.names b.book.structs f world args memory sp fr pass measured n h), (λ h. gone_source b.names b.book.structs f world args memory sp n h))

  -- and the lines go on with it: to the label of the block that the run has come to, or to the same return
  pub lines_go_on : (n : ℕ) → Conditions n → (t : Stand) × (source n ≡ ok t) × Agrees b.names f lines from world args memory sp n t
  lines_go_on n h = let (t, e) = (goes_on_lem n).0 h in (t, e, two_runs book names counter workLen b sound f of lines from at naming world args memory sp fits word n t e)

  -- where the conditions hold for every n the machine never fails
  pub lines_never_fail : ((n : ℕ) → Conditions n) → (k : ℕ) → Alive (after b.names f lines from world args memory sp k)
  unfolding start
  lines_never_fail h = never_fails b.names world (placed lines) (start from args memory sp) refl (λ n. let (t, e, a) = lines_go_on n (h n) in comes n t a)
    where
      comes : (n : ℕ) (t : Stand) → Agrees b.names f lines from world args memory sp n t → Comes b.names world (placed lines) (start from args memory sp) n
      comes n (Stand.at k σ) a = Comes.stands a.number a.stands refl
      comes n (Stand.gave v σ) a = Comes.returns a.number a.returns

  -- so at every line that it comes to there is what the line needs (`machine`, `Works`)
  pub nothing_missing : ((n : ℕ) → Conditions n) → (k : ℕ) (x : State) → after b.names f lines from world args memory sp k ≡ running x → StepWorks b.names world (placed lines) x
  nothing_missing h k x e =
      (step_works b.names world (placed lines) x).0 (alive_step b.names world (placed lines) k _ x e (lines_never_fail h (suc k)))

-- The theorem at work: `i32 @add1(i32 %a)` of "Sheets to check" from its raw book, for every argument, memory and stack pointer.
use Rattle.std.specs.Prelude.{ℕ, zero, suc, ◌+◌, ◌%◌, ◌^◌, ◌<◌, ◌≤◌, ◌≡◌, refl, Bool, true, false, List, [], ◌∷◌, map}
use Prim.Native.String.{String}
use Rattle.std.proofs.Common.{ap, sym, subst₂, ◌∙◌, inl, arith, lit<, lt-ltb}
use Rattle.std.proofs.lemmas.Bool.{false≢true}
use Rattle.std.proofs.Math.Option.{some}
use Rattle.names.specs.Text.{bytes}
use Rattle.book.specs.Ast.{Ty, Value, BinOp, InstKind, Inst, Terminator, Function}
use Rattle.book.specs.Result.{ok}
use Rattle.book.specs.Shape.{Shape, shape}
use Rattle.book.specs.Check.{Sound, checked}
use Rattle.assembly.specs.Line.{Line, Work}
use Rattle.assembly.specs.Cases.{unlines, slice}
use Rattle.machine.specs.Memory.{Memory}
use Rattle.machine.specs.State.{World, Frame}
use Rattle.machine.specs.Labels.{placed}
use Rattle.machine.specs.Run.{returned}
use Rattle.machine.proofs.Exact.{Alive}
use Rattle.lowering.specs.Gen.{Out}
use Rattle.lowering.specs.Translate.{generated}
use Rattle.manual.specs.State.{Cell, Given, Source, nothing, assign}
use Rattle.manual.specs.Term.{Stand}
use Rattle.layout.specs.Frame.{Places, no_frame}
use Rattle.manual.specs.Goes.{Scalar, Integer, Answers, Reads, Goes}
use Rattle.manual.specs.GoesOn.{Other, GoesTerm, GoesInsts, GoesBody, GoesBlock, HasBlock, given_of, SourceGoes}
use Rattle.agreement.proofs.GoesOn.{lines_go_on, lines_never_fail}
use Rattle.manual.specs.Run.{args_fit, run, source_run}
use Rattle.manual.specs.Open.{open_manual}
use Rattle.lowering.specs.Open.{open_lowering}
use Rattle.agreement.specs.Holds.{ok_same}
use Rattle.agreement.specs.Book.{each_in}
use Rattle.agreement.specs.Decide.{has_label, new_label, labels_once, labels_ok, distinct_ok}
use Rattle.agreement.specs.Statement.{LinesAt, after, Returned, Agrees}
use Rattle.agreement.proofs.TwoRuns.{codegen, two_runs}
use Rattle.agreement.specs.Turns.{by_itself}
use Rattle.agreement.specs.Lists.{In, here}
use Rattle.agreement.specs.Naming.{optional, param_names, result_names, NoSelf, Naming}

unfoldable pub names : List String
names = "a" ∷ "add1" ∷ "entry" ∷ "r" ∷ []

unfoldable pub book : List ℕ
unfolding names
book =
    slice ((5, 1) ∷ (11, 32) ∷ (6, 1) ∷ (11, 32) ∷ (0, 0) ∷ (7, 2) ∷ (40, 4) ∷ (11, 32) ∷ (30, 0) ∷ (32, 1) ∷ (90, 0) ∷ (11, 32) ∷ (30, 3) ∷ (0, 0) ∷ (0, 0) ∷ []) names

unfoldable pub i32 : Ty
i32 = Ty.int 32

unfoldable pub add : Inst
unfolding i32
add = record { dest = some 3; kind = InstKind.bin BinOp.add i32 (Value.local 0) (Value.int 1) }

unfoldable pub function : Function
unfolding i32 add
function =
    record {
      name = 1;
      ret_ty = i32;
      params = record { ty = i32; name = some 0 } ∷ [];
      blocks = record { label = 2; insts = add ∷ []; term = Terminator.ret (some (record { ty = i32; val = Value.local 3 })) } ∷ [];
    }

unfoldable pub add1 : Sound
unfolding function names
add1 = record { names = map bytes names; book = record { marks = []; structs = []; functions = function ∷ [] } }

unfoldable pub out : Out
out =
    record {
      lines =
          Line.comment 1 ∷ Line.fn_label 1 ∷ Line.push0n 1 ∷ Line.block_label 2 ∷ Line.get_arg 0 ∷ Line.push 1 ∷ Line.bin BinOp.add Work.w32 ∷ Line.set_local 0
          ∷ Line.get_local 0 ∷ Line.ret ∷ Line.blank ∷ [];
      next = 0;
    }

-- there is no cmpxchg
is_cmpxchg : Shape → Bool
is_cmpxchg Shape.cmpxchg = true
is_cmpxchg (Shape.alloca ty n) = false
is_cmpxchg (Shape.phi ty is) = false
is_cmpxchg (Shape.call v) = false
is_cmpxchg Shape.plain = false

no_self : NoSelf (add ∷ [])
unfolding NoSelf is_cmpxchg shape add
no_self x ty p c n h e = false≢true (sym (each_in (λ (i : Inst). is_cmpxchg (shape i.kind) ≡ false) (add ∷ []) (refl, tt) h))

naming : Naming add1.names function out.lines
unfolding open_manual open_lowering add1 function out add names i32 optional param_names result_names has_label new_label labels_once
naming = record { distinct = distinct_ok (0 ∷ 3 ∷ []) refl; labels = labels_ok add1.names (placed out.lines) refl; self = no_self }

sound : checked book (unlines names) 0 96 ≡ ok add1
unfolding open_manual open_lowering slice unlines book names add1 function add i32
sound = refl

pub translated : generated book (unlines names) 0 96 11 ≡ ok out
unfolding open_manual open_lowering slice unlines book names out
translated = refl

-- it is the one function of its book, and these are its lines
own : In function add1.book.functions
unfolding add1
own = here

lines : LinesAt (codegen add1) function out.lines 0
unfolding open_manual open_lowering add1 function out names add i32
lines = by_itself (codegen add1) function 0 out refl

-- what the source has at the end
at_end : ℕ → Memory → ℕ → Source
at_end a memory sp =
    record { env = assign (some 3) (Cell.one 32 ((a + 1) % 2 ^ 32)) (assign (some 0) (Cell.one 32 a) nothing); memory = memory; calls = []; sp = sp }

run_source : (world : World) (a : ℕ) (memory : Memory) (sp : ℕ) → source_run add1.names add1.book.structs function world (a ∷ []) memory sp 1 ≡ ok (Stand.gave ((a + 1) % 2 ^ 32) (at_end a memory sp))
unfolding open_manual open_lowering at_end add1 function add i32
run_source world a memory sp = refl

fits : (a : ℕ) → a < 2 ^ 32 → args_fit function.params (a ∷ []) ≡ true
unfolding open_manual open_lowering function i32
fits a h = rw (lt-ltb a (2 ^ 32) h) refl

-- the lines return a + 1 modulo 2^32 within one block, and leave memory and stack pointer as they were
pub add1_returns : (world : World) (a : ℕ) (memory : Memory) (sp : ℕ) → a < 2 ^ 32 → sp < 2 ^ 64
    → (k : ℕ) × (e : Frame) × (labels : ℕ) × (after add1.names function out.lines 0 world (a ∷ []) memory sp k ≡ returned ((a + 1) % 2 ^ 32) e labels) × (labels ≤ 1) × (e.memory ≡ memory) × (e.sp ≡ sp)
unfolding at_end
add1_returns world a memory sp ha hs =
    let r : Returned add1.names function out.lines 0 world (a ∷ []) memory sp 1 ((a + 1) % 2 ^ 32) (at_end a memory sp) =
    two_runs book (unlines names) 0 96 add1 sound function own out.lines 0 lines naming world (a ∷ []) memory sp (fits a ha) hs 1 _ (run_source world a memory sp) in
    (r.number, r.frame, r.labels, r.returns, r.within, r.same_memory, r.stack_restored)

-- ---- the conditions under which its run goes on hold, so it does, and the lines with it
at_entry : ℕ → Memory → ℕ → Source
at_entry a memory sp = record { env = assign (some 0) (Cell.one 32 a) nothing; memory = memory; calls = []; sp = sp }

block_goes : (world : World) (a : ℕ) (memory : Memory) (sp : ℕ) (fr : Places) → GoesBlock (given_of add1.names add1.book.structs function world sp fr) 2 (at_entry a memory sp)
unfolding open_manual open_lowering at_entry add1 function add i32
block_goes world a memory sp fr = (
  _,
  refl,
  GoesBody.other Other.plain (GoesInsts.step (Goes.bin Integer.int (Reads.local refl) (Reads.int (inl (lit< tt))) tt) λ τ e.
      GoesInsts.end (GoesTerm.ret (Answers.value Scalar.int) Scalar.int (Reads.local (ap (λ (z : Source). z.env 3) (sym (ok_same e)))))),
)

-- what has returned stays so
stays : (g : Given) (n v : ℕ) (σ : Source) → run g n (Stand.gave v σ) ≡ ok (Stand.gave v σ)
unfolding open_manual open_lowering
stays g zero v σ = refl
stays g (suc n) v σ = stays g n v σ

at_same : {b k : ℕ} {ρ σ : Source} → ok (Stand.at b ρ) ≡ ok (Stand.at k σ) → (b ≡ k) × (ρ ≡ σ)
at_same e = (cc, cc)

not_at : {X : Type 0} {v k : ℕ} {ρ σ : Source} → ok (Stand.gave v ρ) ≡ ok (Stand.at k σ) → X
not_at e = absurd (let z : ◌≡◌ {A = ℕ} 0 1 = cc in omega arith)

-- the run comes to one block
comes_to : (world : World) (a : ℕ) (memory : Memory) (sp n k : ℕ) (σ : Source) → source_run add1.names add1.book.structs function world (a ∷ []) memory sp n ≡ ok (Stand.at k σ) → (2 ≡ k) × (at_entry a memory sp ≡ σ)
unfolding open_manual open_lowering at_entry at_end add1 function add i32
comes_to world a memory sp zero k σ e = at_same e
comes_to world a memory sp (suc n) k σ e = not_at (sym (stays (given_of add1.names add1.book.structs function world sp no_frame) n ((a + 1) % 2 ^ 32) (at_end a memory sp)) ∙ e)

pub add1_goes : (world : World) (a : ℕ) (memory : Memory) (sp n : ℕ) → SourceGoes add1.names add1.book.structs function world (a ∷ []) memory sp n
unfolding function
add1_goes world a memory sp n = (
  HasBlock.has,
  λ fr pass j k σ l e.
      let (h, i) = comes_to world a memory sp j k σ e in
      subst₂ (λ b τ. GoesBlock (given_of add1.names add1.book.structs function world sp fr) b τ) h i (block_goes world a memory sp fr),
)

pub add1_goes_on : (world : World) (a : ℕ) (memory : Memory) (sp : ℕ) → a < 2 ^ 32 → sp < 2 ^ 64 → (n : ℕ)
    → (t : Stand) × (source_run add1.names add1.book.structs function world (a ∷ []) memory sp n ≡ ok t) × Agrees add1.names function out.lines 0 world (a ∷ []) memory sp n t
add1_goes_on world a memory sp ha hs n = lines_go_on book (unlines names) 0 96 add1 sound function own out.lines 0 lines naming world (a ∷ []) memory sp (fits a ha) hs n (add1_goes world a memory sp n)

pub add1_never_fails : (world : World) (a : ℕ) (memory : Memory) (sp : ℕ) → a < 2 ^ 32 → sp < 2 ^ 64 → (k : ℕ) → Alive (after add1.names function out.lines 0 world (a ∷ []) memory sp k)
add1_never_fails world a memory sp ha hs =
    lines_never_fail book (unlines names) 0 96 add1 sound function own out.lines 0 lines naming world (a ∷ []) memory sp (fits a ha) hs (add1_goes world a memory sp)

-- A step fails exactly where `Works` does not hold.
use Prim.Native.Nat.{ℕ, zero, suc, ◌<◌, ◌≤◌}
use Rattle.std.specs.Prelude.{◌≡◌, ◌↔◌, Bool, cond, not, eqb}
use Rattle.std.proofs.Math.Path.{refl}
use Rattle.std.proofs.Common.{sym, ◌∙◌}
use Rattle.std.proofs.Math.Bool.{true, false}
use Rattle.std.proofs.lemmas.Bool.{false≢true}
use Rattle.std.proofs.Math.Option.{Option, none, some}
use mathlib.Core.List.{List, [], ◌∷◌}
use native.Mathlib.Omega.{arith}
use Rattle.std.proofs.Math.Dec.{ltb}
use Rattle.std.proofs.Math.ListN.{length, drop}
use borrow.Author.Tests.{ltb-true, eqb-true, lt-ltb, eq-eqb, ne_eqb}
use Rattle.names.specs.Name.{name_at}
use Rattle.book.specs.Ast.{BinOp}
use Rattle.assembly.specs.Line.{Line, Work, Hint}
use Rattle.assembly.specs.Text.{hinted}
use Rattle.machine.specs.Cells.{cell_some, cell_lt, drop_cell, cell_drop}
use Rattle.machine.specs.State.{Target, Shape, World, Frame, cell_at, memcmp, shape_of, printed_name}
use Rattle.machine.specs.Values.{word_op}
use Rattle.machine.specs.Labels.{Placed, block_in, find}
use Rattle.machine.specs.Line.{Effect, or_fails, pop_n, branch, jump, replying, system_call, does, work_width, word}
use Rattle.machine.specs.Run.{State, Outcome, running, returned, failed, found, follow, step_at, step, steps}
use Rattle.machine.specs.Works.{Labelled, Answered, Works, StepWorks}
use Rattle.machine.proofs.ExactParts.{defined_op, op_defined, label_find, find_label}

-- a step that does not fail
abbrev pub Alive : Outcome → Type 0
Alive (running s) = Unit {0}
Alive (returned v e n) = Unit {0}
Alive failed = ⊥

module _ (names : List (List ℕ)) (world : World) (lines : List Placed) where
  -- what leads on
  abbrev Lives : Effect → Type 0
  Lives (Effect.goes e o) = Unit {0}
  Lives (Effect.passes e o) = Unit {0}
  Lives (Effect.jumps t e o) = Labelled names lines t
  Lives (Effect.ends v e) = Unit {0}
  Lives Effect.fails = ⊥

  -- ---- operands, branches, calls
  pops : (n : ℕ) (xs o : List ℕ) (k : List ℕ → List ℕ → Effect) → n ≤ length o → ((ys r : List ℕ) → Lives (k ys r)) → Lives (pop_n n xs o k)
  unfolding pop_n
  pops zero xs o k h c = c xs o
  pops (suc n) xs [] k h c = absurd (omega arith)
  pops (suc n) xs (x ∷ o) k h c = pops n (x ∷ xs) o k (omega arith) c

  popped : (n : ℕ) (xs o : List ℕ) (k : List ℕ → List ℕ → Effect) → Lives (pop_n n xs o k) → n ≤ length o
  unfolding pop_n
  popped zero xs o k h = omega arith
  popped (suc n) xs [] k h = absurd h
  popped (suc n) xs (x ∷ o) k h = let i = popped n (x ∷ xs) o k h in omega arith

  branches : (b : Bool) (t : List ℕ) (e : Frame) (o : List ℕ) → (b ≡ true → Labelled names lines t) → Lives (branch b t e o)
  unfolding branch
  branches true t e o h = h refl
  branches false t e o h = tt

  branched : (b : Bool) (t : List ℕ) (e : Frame) (o : List ℕ) → Lives (branch b t e o) → b ≡ true → Labelled names lines t
  unfolding branch
  branched true t e o h i = h
  branched false t e o h i = absurd (false≢true i)

  replies : (b : Bool) (t : Target) (e : Frame) (ys r : List ℕ) → Lives (replying world b t e ys r)
  unfolding replying
  replies true t e ys r = tt
  replies false t e ys r = tt

  answers : (t : List ℕ) (e : Frame) (o : List ℕ) → Answered world t o → Lives (system_call world t e o)
  unfolding system_call
  answers t e o (s, h, n) = rw h (pops s.args [] o _ n (replies s.replies (Target.syscall t) e))

  answered : (t : List ℕ) (e : Frame) (o : List ℕ) → Lives (system_call world t e o) → Answered world t o
  unfolding system_call
  answered t e o = go (shape_of world t) refl
    where
      go : (q : Option Shape) → shape_of world t ≡ q → Lives (or_fails q (λ s. pop_n s.args [] o (replying world s.replies (Target.syscall t) e))) → Answered world t o
      go none h l = absurd l
      go (some s) h l = (s, h, popped s.args [] o _ l)

  not_zero : (x : ℕ) → not (eqb x 0) ≡ true → ¬ (x ≡ 0)
  not_zero x h e = false≢true (sym (rw (eq-eqb x 0 e) refl) ∙ h)

  zero_not : (x : ℕ) → ¬ (x ≡ 0) → not (eqb x 0) ≡ true
  zero_not x h = rw (ne_eqb x 0 h) refl

  -- ---- a line
  works_live : {f : Option ℕ} {e : Frame} {l : Line} {o : List ℕ} → Works names world lines f e l o → Lives (does names f world l e o)
  unfolding does jump block_in
  works_live Works.comment = tt
  works_live Works.fn_label = tt
  works_live Works.label = tt
  works_live (Works.block_label h) = rw h tt
  works_live Works.blank = tt
  works_live (Works.jmp_block h k) = rw h k
  works_live (Works.sel_done h) = h
  works_live {e = e} (Works.sel_false {n = n} {x = x} {o = o} h) = branches (eqb x 0) (hinted Hint.sel_false n) e o (λ i. h (eqb-true x 0 i))
  works_live {e = e} (Works.br_false {n = n} {x = x} {o = o} h) = branches (eqb x 0) (hinted Hint.br_false n) e o (λ i. h (eqb-true x 0 i))
  works_live {e = e} (Works.sw_case {n = n} {x = x} {o = o} h) = branches (not (eqb x 0)) (hinted Hint.sw_case n) e o (λ i. h (not_zero x i))
  works_live Works.push0n = tt
  works_live Works.push = tt
  works_live Works.push_name = tt
  works_live {e = e} (Works.get_arg {i = i} h) = let (x, c) = cell_some e.args i h in rw c tt
  works_live {e = e} (Works.get_local {i = i} h) = let (x, c) = cell_some e.slots i h in rw c tt
  works_live {e = e} (Works.set_local {i = i} h) = rw (lt-ltb i (length e.slots) h) tt
  works_live (Works.bin {op = op} {w = w} {a = a} {b = b} h) = let (x, c) = defined_op (work_width w) (word w a) (word w b) op h in rw c tt
  works_live Works.icmp = tt
  works_live Works.trunc = tt
  works_live Works.sx8 = tt
  works_live Works.sx16 = tt
  works_live Works.sx32 = tt
  works_live Works.load = tt
  works_live Works.store = tt
  works_live Works.atomic_load = tt
  works_live Works.atomic_store = tt
  works_live Works.atomic_cas = tt
  works_live Works.thread_get = tt
  works_live Works.thread_set = tt
  works_live Works.dup = tt
  works_live Works.pop = tt
  works_live (Works.call {n = n} {o = o} h) = pops n [] o _ h (λ ys r. tt)
  works_live (Works.call_fp {n = n} {o = o} h) = pops n [] o _ h (λ ys r. tt)
  works_live {e = e} (Works.syscall {x = x} {o = o} h) = answers (printed_name (name_at names x)) e o h
  works_live {e = e} (Works.sys_memcmp {o = o} h) = answers memcmp e o h
  works_live Works.ret = tt

  module _ (f : Option ℕ) (e : Frame) where
    abbrev Worked : Line → List ℕ → Type 0
    Worked l o = Lives (does names f world l e o) → Works names world lines f e l o

    live_jump : (h : Hint) (n : ℕ) (o : List ℕ) → Worked (Line.jump h n) o
    unfolding does jump
    live_jump Hint.sel_done n o h = Works.sel_done h
    live_jump Hint.sel_false n [] h = absurd h
    live_jump Hint.sel_false n (x ∷ o) h = Works.sel_false (λ z. branched (eqb x 0) _ e o h (eq-eqb x 0 z))
    live_jump Hint.br_false n [] h = absurd h
    live_jump Hint.br_false n (x ∷ o) h = Works.br_false (λ z. branched (eqb x 0) _ e o h (eq-eqb x 0 z))
    live_jump Hint.sw_case n [] h = absurd h
    live_jump Hint.sw_case n (x ∷ o) h = Works.sw_case (λ z. branched (not (eqb x 0)) _ e o h (zero_not x z))

    live_bin : (op : BinOp) (w : Work) (o : List ℕ) → Worked (Line.bin op w) o
    unfolding does
    live_bin op w [] h = absurd h
    live_bin op w (b ∷ []) h = absurd h
    live_bin op w (b ∷ a ∷ o) h = go (word_op op (work_width w) (word w a) (word w b)) refl h
      where
        go : (q : Option ℕ) → word_op op (work_width w) (word w a) (word w b) ≡ q → Lives (or_fails q (λ x. Effect.goes e (x ∷ o))) → Works names world lines f e (Line.bin op w) (b ∷ a ∷ o)
        go none c l = absurd l
        go (some x) c l = Works.bin (op_defined (work_width w) (word w a) (word w b) op x c)

    -- a cell that is there
    there : (cells : List ℕ) (i : ℕ) (k : ℕ → Effect) → Lives (or_fails (cell_at cells i) k) → i < length cells
    there cells i k = go (cell_at cells i) refl
      where
        go : (q : Option ℕ) → cell_at cells i ≡ q → Lives (or_fails q k) → i < length cells
        go none c l = absurd l
        go (some x) c l = cell_lt cells i x c

    live_set : (i : ℕ) (o : List ℕ) → Worked (Line.set_local i) o
    unfolding does
    live_set i [] h = absurd h
    live_set i (x ∷ o) h = Works.set_local (go (ltb i (length e.slots)) refl _ h)
      where
        go : (b : Bool) → ltb i (length e.slots) ≡ b → (k : Effect) → Lives (cond b k Effect.fails) → i < length e.slots
        go true c k l = ltb-true i (length e.slots) c
        go false c k l = absurd l

    -- a function that is there
    live_label : (g : Option ℕ) (x : ℕ) (o : List ℕ) → f ≡ g → Lives (or_fails (block_in names g x) (λ t. Effect.passes e o)) → Works names world lines f e (Line.block_label x) o
    unfolding block_in
    live_label none x o i h = absurd h
    live_label (some g) x o i h = Works.block_label i

    live_block : (g : Option ℕ) (x : ℕ) (o : List ℕ) → f ≡ g → Lives (or_fails (block_in names g x) (λ t. Effect.jumps t e o)) → Works names world lines f e (Line.jmp_block x) o
    unfolding block_in
    live_block none x o i h = absurd h
    live_block (some g) x o i h = Works.jmp_block i h

    live_works : (l : Line) (o : List ℕ) → Worked l o
    unfolding does
    live_works (Line.comment x) o h = Works.comment
    live_works (Line.fn_label x) o h = Works.fn_label
    live_works (Line.label k n) o h = Works.label
    live_works (Line.block_label x) o h = live_label f x o refl h
    live_works Line.blank o h = Works.blank
    live_works (Line.jmp_block x) o h = live_block f x o refl h
    live_works (Line.jump k n) o h = live_jump k n o h
    live_works (Line.push0n n) o h = Works.push0n
    live_works (Line.push n) o h = Works.push
    live_works (Line.push_name x) o h = Works.push_name
    live_works (Line.get_arg i) o h = Works.get_arg (there e.args i _ h)
    live_works (Line.get_local i) o h = Works.get_local (there e.slots i _ h)
    live_works (Line.set_local i) o h = live_set i o h
    live_works (Line.bin op w) o h = live_bin op w o h
    live_works (Line.icmp p w) [] h = absurd h
    live_works (Line.icmp p w) (b ∷ []) h = absurd h
    live_works (Line.icmp p w) (b ∷ a ∷ o) h = Works.icmp
    live_works (Line.trunc n) [] h = absurd h
    live_works (Line.trunc n) (x ∷ o) h = Works.trunc
    live_works (Line.sx8 w) [] h = absurd h
    live_works (Line.sx8 w) (x ∷ o) h = Works.sx8
    live_works (Line.sx16 w) [] h = absurd h
    live_works (Line.sx16 w) (x ∷ o) h = Works.sx16
    live_works Line.sx32 [] h = absurd h
    live_works Line.sx32 (x ∷ o) h = Works.sx32
    live_works (Line.load m) [] h = absurd h
    live_works (Line.load m) (a ∷ o) h = Works.load
    live_works (Line.store m) [] h = absurd h
    live_works (Line.store m) (x ∷ []) h = absurd h
    live_works (Line.store m) (x ∷ a ∷ o) h = Works.store
    live_works Line.atomic_load [] h = absurd h
    live_works Line.atomic_load (a ∷ o) h = Works.atomic_load
    live_works Line.atomic_store [] h = absurd h
    live_works Line.atomic_store (x ∷ []) h = absurd h
    live_works Line.atomic_store (x ∷ a ∷ o) h = Works.atomic_store
    live_works Line.atomic_cas [] h = absurd h
    live_works Line.atomic_cas (x ∷ []) h = absurd h
    live_works Line.atomic_cas (x ∷ c ∷ []) h = absurd h
    live_works Line.atomic_cas (x ∷ c ∷ a ∷ o) h = Works.atomic_cas
    live_works Line.thread_get o h = Works.thread_get
    live_works Line.thread_set [] h = absurd h
    live_works Line.thread_set (x ∷ o) h = Works.thread_set
    live_works Line.dup [] h = absurd h
    live_works Line.dup (x ∷ o) h = Works.dup
    live_works Line.pop [] h = absurd h
    live_works Line.pop (x ∷ o) h = Works.pop
    live_works (Line.call x n) o h = Works.call (popped n [] o _ h)
    live_works (Line.call_fp n) [] h = absurd h
    live_works (Line.call_fp n) (a ∷ o) h = Works.call_fp (popped n [] o _ h)
    live_works (Line.syscall x) o h = Works.syscall (answered _ e o h)
    live_works Line.sys_memcmp o h = Works.sys_memcmp (answered _ e o h)
    live_works Line.ret [] h = absurd h
    live_works Line.ret (x ∷ o) h = Works.ret
    live_works Line.panic o h = absurd h

  -- ---- a step
  lives_follow : (p n : ℕ) (a : Effect) → Lives a → Alive (follow names world lines p n a)
  unfolding follow found
  lives_follow p n (Effect.goes e o) h = tt
  lives_follow p n (Effect.passes e o) h = tt
  lives_follow p n (Effect.jumps t e o) (i, l, c, d) = let (q, z) = label_find names lines t i l c d in rw z tt
  lives_follow p n (Effect.ends v e) h = tt
  lives_follow p n Effect.fails h = h

  follow_lives : (p n : ℕ) (a : Effect) → Alive (follow names world lines p n a) → Lives a
  unfolding follow found
  follow_lives p n (Effect.goes e o) h = tt
  follow_lives p n (Effect.passes e o) h = tt
  follow_lives p n (Effect.jumps t e o) h = go (find names t lines) refl h
    where
      go : (q : Option ℕ) → find names t lines ≡ q → Alive (found names world lines q e o n) → Labelled names lines t
      go none z l = absurd l
      go (some q) z l = find_label names lines t q z
  follow_lives p n (Effect.ends v e) h = tt
  follow_lives p n Effect.fails h = h

  -- A step does not fail exactly where there is a line and what it needs.
  pub step_works : (s : State) → Alive (step names world lines s) ↔ StepWorks names world lines s
  unfolding step step_at
  step_works s = (go (drop s.pos lines) refl, λ (l, c, w). let (r, h) = drop_cell lines s.pos l c in rw h (lives_follow s.pos s.passed _ (works_live w)))
    where
      go : (ls : List Placed) → drop s.pos lines ≡ ls → Alive (step_at names world lines ls s) → StepWorks names world lines s
      go [] h a = absurd a
      go (l ∷ ls) h a = (l, cell_drop lines s.pos l ls h, live_works l.function s.frame l.line s.operands (follow_lives s.pos s.passed _ a))

  -- Where that holds of every state that the machine comes to, it never fails.
  pub steps_work : (s : State) → ((k : ℕ) (x : State) → steps names world lines k (running s) ≡ running x → StepWorks names world lines x) → (k : ℕ) → Alive (steps names world lines k (running s))
  unfolding steps
  steps_work s h k = from k (running s) (λ j x e. h j x e) tt
    where
      from : (k : ℕ) (o : Outcome) → ((j : ℕ) (x : State) → steps names world lines j o ≡ running x → StepWorks names world lines x) → Alive o → Alive (steps names world lines k o)
      from zero o h a = a
      from (suc k) (running x) h a = from k (step names world lines x) (λ j y e. h (suc j) y e) ((step_works x).1 (h 0 x refl))
      from (suc k) (returned v e n) h a = tt
      from (suc k) failed h a = a

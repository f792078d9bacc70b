-- `gen_call`: the call that the source lists, with the reply that it takes.
use Prim.Native.Nat.{ℕ, zero, suc, ◌+◌, ◌^◌}
use Rattle.std.specs.Prelude.{◌≡◌, Bool, true, false, not, ltb, length}
use Rattle.std.proofs.Math.Path.{refl, ap}
use Rattle.std.proofs.Common.{subst, arith, zero-add, suc-add, add-suc, add-zero, ltb-true}
use Rattle.std.proofs.Math.Option.{Option, none, some}
use mathlib.Core.List.{List, [], ◌∷◌, ◌++◌, append-nil}
use Rattle.names.specs.Name.{name_at}
use Rattle.book.specs.Ast.{Ty, Value, TypedVal}
use Rattle.book.specs.Decode.{member}
use Rattle.assembly.specs.Line.{Line}
use Rattle.machine.specs.State.{Target, Call, Frame, called}
use Rattle.machine.specs.Line.{Effect, goes, pop_n, does, calls}
use Rattle.lowering.specs.Gen.{◌>>=◌, each}
use Rattle.lowering.specs.Operand.{push_typed, store_or_pop}
use Rattle.lowering.specs.Call.{push_arg, push_args, call_target, gen_plain_call}
use Rattle.manual.specs.Stop.{Stop}
use Rattle.manual.specs.State.{Source, put, assign}
use Rattle.manual.specs.Operand.{typed, typeds}
use Rattle.manual.specs.Call.{result_width, listed_as, fits_shape, fitting, receive, target_of, reply_to, after_call, run_call}
use Rattle.agreement.specs.Holds.{Holds, H-ok, H-err, H-bind, H-eq, H-need, H-map}
use Rattle.agreement.specs.Gives.{Gives, G-line, G-skip, G-refuse, G-then, G-bind, G-unless, G-map}
use Rattle.agreement.specs.Setup.{Setup, ctx, given}
use Rattle.agreement.specs.Reach.{Runs, runs_nil, run_line, seq, doing}
use Rattle.agreement.specs.Relation.{Rel, Apart, rel_world}
use Rattle.agreement.specs.Operand.{H-width, Sound, at_most, value_ok_lem, Ends, then_ends, DestOk, dest_ok}
use Rattle.agreement.specs.Gep.{SoundIndices}
use Rattle.agreement.specs.Instr.{StepOk}

-- ---- operands pushed in order, and popped
abbrev pub onto : List ℕ → List ℕ → List ℕ
onto [] o = o
onto (n ∷ ns) o = onto ns (n ∷ o)

pop_more : (ns xs o : List ℕ) (j : ℕ) (k : List ℕ → List ℕ → Effect) → pop_n (length ns + j) xs (onto ns o) k ≡ pop_n j (ns ++ xs) o k
unfolding pop_n
pop_more [] xs o j k = rw zero-add refl
pop_more (n ∷ ns) xs o j k = rw (suc-add, ← add-suc) (pop_more ns xs (n ∷ o) (suc j) k)

pub pop_onto : (ns o : List ℕ) (k : List ℕ → List ℕ → Effect) → pop_n (length ns) [] (onto ns o) k ≡ k ns o
unfolding pop_n
pop_onto ns o k = rw (add-zero, append-nil) at (pop_more ns [] o 0 k)

-- a reply that fits
H-fitting : {P : Source → Type 0} (b : Bool) (σ : Source) → (b ≡ true → P σ) → Holds (fitting b σ) P
unfolding fitting
H-fitting true σ h = H-ok _ (h refl)
H-fitting false σ h = H-err _

module _ (s : Setup) where
  -- arguments, pushed in order
  pub record Pushed (count : ℕ) (L : List Line) (e : Frame) (ns : List ℕ) : Type 0 where
    pub pushes : (o : List ℕ) → Runs s L e o e (onto ns o)
    pub number : length ns ≡ count

  arg_ok : (a : TypedVal) → Sound a.ty → Gives (push_arg (ctx s) a) (λ L. (σ : Source) (e : Frame) → Rel s σ e → Holds (typed s.world σ.env a.ty a.val) (λ n. (o : List ℕ) → Runs s L e o e (n ∷ o)))
  unfolding push_arg push_typed typed
  arg_ok a sound = G-bind _ _ λ w hw. G-map (value_ok_lem s w a.val (at_most w (sound.width w hw))) λ A pa σ e r. H-width a.ty _ hw (H-map (pa σ e r) λ n q. q.pushes)

  pub args_ok : (as' : List TypedVal) → SoundIndices as' → Gives (each (push_arg (ctx s)) as') (λ L. (σ : Source) (e : Frame) → Rel s σ e → Holds (typeds s.world σ.env as') (Pushed (length as') L e))
  unfolding each typeds
  args_ok [] sound = G-skip λ σ e r. H-ok _ (record { pushes = λ o. runs_nil s; number = refl })
  args_ok (a ∷ as') (so, sound) = G-then _ (arg_ok a so) λ A pa. G-map (args_ok as' sound) λ B pb σ e r.
      H-bind _ (pa σ e r) λ n p. H-bind _ (pb σ e r) λ ns q. H-ok _ (record { pushes = λ o. seq s (p o) (q.pushes (n ∷ o)); number = ap suc q.number })

  -- the frame after a call
  abbrev pub after : Target → List ℕ → Frame → Frame
  after t ns e = called e (record { target = t; args = ns }) (s.world.replies (length e.calls)).memory

  pub rel_called : (t : Target) (ns : List ℕ) {σ : Source} {e : Frame} → Rel s σ e → Rel s (after_call (given s) t ns σ) (after t ns e)
  rel_called t ns {σ} {e} r = rel_world s r _ _ _ _ (ap (λ k. (s.world.replies (length k)).memory) r.calls_eq) (ap {B = List Call} (λ k. record { target = t; args = ns } ∷ k) r.calls_eq)

  -- the lines of a target, behind the arguments: the call is listed and its cell pushed
  abbrev pub CallsOk : (σ : Source) → Frame → Target → (count : ℕ) → List Line → Type 0
  CallsOk σ e t count L = (ns o : List ℕ) → length ns ≡ count → Runs s L e (onto ns o) (after t ns e) ((s.world.replies (length e.calls)).cell ∷ o)

  -- a reply's cell on top is received: set, or dropped
  abbrev pub ReceiveOk : (dest : Option ℕ) → List Line → Type 0
  ReceiveOk dest L = (σ : Source) (e : Frame) → Rel s σ e → (cell : ℕ) (r : Option ℕ) (o : List ℕ) → Holds (receive r dest cell σ) (λ τ. Ends s L e (cell ∷ o) τ o)

  pop_ends : {σ : Source} (e : Frame) → Rel s σ e → (cell : ℕ) (o : List ℕ) → Ends s (Line.pop ∷ []) e (cell ∷ o) σ o
  unfolding does
  pop_ends e r cell o = record { frame = e; runs = run_line s refl; rel = r }

  receive_none : (w : Option ℕ) (σ : Source) (e : Frame) → Rel s σ e → (cell : ℕ) (o : List ℕ) → Holds (receive w none cell σ) (λ τ. Ends s (Line.pop ∷ []) e (cell ∷ o) τ o)
  unfolding receive assign
  receive_none none σ e r cell o = H-ok _ (pop_ends e r cell o)
  receive_none (some w) σ e r cell o = H-fitting (ltb cell (2 ^ w)) σ (λ t. pop_ends e r cell o)

  receive_some : (x : ℕ) (L : List Line) → DestOk s (some x) L → (w : Option ℕ) (σ : Source) (e : Frame) → Rel s σ e → (cell : ℕ) (o : List ℕ) → Holds (receive w (some x) cell σ) (λ τ. Ends s L e (cell ∷ o) τ o)
  unfolding receive
  receive_some x L d none σ e r cell o = H-err _
  receive_some x L d (some w) σ e r cell o = H-fitting (ltb cell (2 ^ w)) (put (some x) w cell σ) (λ t. d σ e r w cell o (ltb-true cell (2 ^ w) t))

  module _ (ap' : Apart s) where
    -- a result set or dropped
    pub drop_ok : (dest : Option ℕ) → Gives (store_or_pop (ctx s) dest) (ReceiveOk dest)
    unfolding store_or_pop
    drop_ok none = G-line _ λ σ e r cell w o. receive_none w σ e r cell o
    drop_ok (some x) = G-map (dest_ok s ap' (some x)) λ L d σ e r cell w o. receive_some x L d w σ e r cell o

    -- behind the call: the result, from the reply's cell
    pub ends_call : {A B C : List Line} {σ : Source} {e : Frame} (o ns : List ℕ) (t : Target) (count : ℕ) (w dest : Option ℕ) → Rel s σ e → Pushed count A e ns → CallsOk σ e t count B
        → ReceiveOk dest C
        → Holds (receive w dest (reply_to (given s) σ.calls).cell (after_call (given s) t ns σ)) (λ τ. Ends s (A ++ (B ++ C)) e o τ o)
    ends_call {A} {B} {C} {σ} {e} o ns t count w dest r p q k =
        let cell_eq : (s.world.replies (length e.calls)).cell ≡ (s.world.replies (length σ.calls)).cell = ap (λ c. (s.world.replies (length c)).cell) r.calls_eq in
        H-map (k (after_call (given s) t ns σ) (after t ns e) (rel_called t ns r) (s.world.replies (length σ.calls)).cell w o) λ τ end.
        then_ends s (p.pushes o) (then_ends s (subst (λ c. Runs s B e (onto ns o) (after t ns e) (c ∷ o)) cell_eq (q ns o p.number)) end)

    -- ---- `gen_call`
    -- a callee that is no syscall
    abbrev pub Plain : Value → Type 0
    Plain v = (x : ℕ) → v ≡ Value.global x → listed_as (name_at s.codegen.names x) x ≡ Target.function x

    call_does : (x n : ℕ) (e : Frame) (ns o : List ℕ) → length ns ≡ n → doing s (Line.call x n) e (onto ns o) ≡ goes (after (Target.function x) ns e) ((s.world.replies (length e.calls)).cell ∷ o)
    unfolding does
    call_does x n e ns o h = rw (← h, pop_onto ns o _) refl

    pointer_does : (a n : ℕ) (e : Frame) (ns o : List ℕ) → length ns ≡ n → doing s (Line.call_fp n) e (a ∷ onto ns o) ≡ goes (after (Target.address a) ns e) ((s.world.replies (length e.calls)).cell ∷ o)
    unfolding does
    pointer_does a n e ns o h = rw (← h, pop_onto ns o _) refl

    target_ok : (v : Value) (n : ℕ) → Plain v → Gives (call_target (ctx s) v n) (λ L. (σ : Source) (e : Frame) → Rel s σ e → Holds (target_of (given s) σ.env v) (λ t. CallsOk σ e t n L))
    unfolding call_target target_of
    target_ok (Value.global x) n plain = G-unless (not (member x s.codegen.defined)) 15 _ λ d. G-line _ λ σ e r. rw (plain x refl) (H-ok _ λ ns o h. run_line s (call_does x n e ns o h))
    target_ok (Value.local x) n plain = G-then _ (value_ok_lem s 64 (Value.local x) (omega arith)) λ A pa. G-line _ λ σ e r.
        H-bind _ (pa σ e r) λ a q. H-ok _ λ ns o h. seq s (q.pushes (onto ns o)) (run_line s (pointer_does a n e ns o h))
    target_ok (Value.int v) n plain = G-refuse 15
    target_ok (Value.zero z) n plain = G-refuse 15
    target_ok Value.other n plain = G-refuse 15

    pub plain_ok : (dest : Option ℕ) (ty : Ty) (v : Value) (as' : List TypedVal) → SoundIndices as' → Plain v → Gives (gen_plain_call (ctx s) dest v as') (StepOk s (run_call (given s) dest ty v as'))
    unfolding gen_plain_call push_args run_call
    plain_ok dest ty v as' sound plain = G-unless (ltb 255 (length as')) 15 _ λ d. G-then _ (args_ok as' sound) λ A pa. G-then _ (target_ok v (length as') plain) λ B pb. G-map (drop_ok dest) λ C pc σ e o r.
        H-bind _ (pa σ e r) λ ns p. H-bind _ (pb σ e r) λ t q. H-eq (result_width ty) _ λ w hw. H-need (fits_shape s.world t (length as') w) Stop.syscall_shape _ λ f.
        ends_call o ns t (length as') w dest r p q pc

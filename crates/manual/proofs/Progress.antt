-- The source run goes on exactly where its conditions hold: a block, n blocks, the run of a function.
use Prim.Native.Nat.{ℕ, zero, suc, ◌<◌}
use Rattle.std.proofs.Math.Path.{◌≡◌, refl, subst}
use Rattle.std.proofs.Common.{sym, ◌∙◌, arith}
use Rattle.std.specs.Prelude.{Bool, true, false, eqb}
use Rattle.std.proofs.Math.Option.{some}
use mathlib.Core.List.{List, [], ◌∷◌}
use Rattle.book.specs.Ast.{Ty, Incoming, Inst, Terminator, BasicBlock, StructType, Function}
use Rattle.book.specs.Limits.{Each}
use Rattle.book.specs.Result.{Result, ok, bind, err_no_ok, bind_ok, bind_step}
use Rattle.book.specs.Rule.{find, pick}
use Rattle.book.specs.Shape.{Shape, shape}
use Rattle.layout.specs.Frame.{Places}
use Rattle.machine.specs.Memory.{Memory}
use Rattle.machine.specs.State.{World}
use Rattle.manual.specs.State.{Given, Source, nothing}
use Rattle.manual.specs.Inst.{run_inst, run_insts}
use Rattle.manual.specs.Term.{Stand, body_step, body, block_named, run_term}
use Rattle.manual.specs.Run.{run_block, go, run, param_env, entered, first_block, begin, source_run}
use Rattle.manual.specs.Measured.{Measured}
use Rattle.manual.specs.GoesOn.{Other, GoesInsts, GoesBody, GoesBlock, GoesOn, AllMeasured, HasBlock, places_of, given_of, SourceGoes}
use Rattle.machine.specs.Cells.{some_same, none_some}
use Rattle.manual.specs.Going.{ok_same, Going, onward, ok_or_ok, ok_or_some}
use Rattle.manual.proofs.ExactInst.{inst_goes}
use Rattle.manual.proofs.ExactTerm.{term_goes, gone_term}

-- ---- the instructions behind the leading phis
other_body : {s : Shape} (is rest : List Inst) → Other s → body_step s is rest ≡ is
unfolding body_step
other_body is rest Other.alloca = refl
other_body is rest Other.call = refl
other_body is rest Other.cmpxchg = refl
other_body is rest Other.plain = refl

-- a first instruction is a phi or another
module _ (P : List Inst → Type 0) (i : Inst) (is : List Inst) where
  by_shape : ((ty : Ty) (incoming : List Incoming) → shape i.kind ≡ Shape.phi ty incoming → P (body is)) → (Other (shape i.kind) → P (i ∷ is)) → P (body (i ∷ is))
  unfolding body body_step
  by_shape h k = pass (shape i.kind) refl
    where
      pass : (s : Shape) → shape i.kind ≡ s → P (body_step s (i ∷ is) (body is))
      pass (Shape.phi ty incoming) e = h ty incoming e
      pass (Shape.alloca ty count) e = k (rw e Other.alloca)
      pass (Shape.call callee) e = k (rw e Other.call)
      pass Shape.cmpxchg e = k (rw e Other.cmpxchg)
      pass Shape.plain e = k (rw e Other.plain)

-- a block that is found is one of them
pub each_find : (P : BasicBlock → Type 0) (b : ℕ) (k : BasicBlock) (bs : List BasicBlock) → Each P bs → find (λ (y : BasicBlock). y.label) b bs ≡ some k → P k
unfolding find
each_find P b k [] m e = none_some k e
each_find P b k (c ∷ bs) (m, ms) e = pass (eqb c.label b) e (λ h. each_find P b k bs ms h)
  where
    pass : (z : Bool) → pick z (some c) (find (λ (y : BasicBlock). y.label) b bs) ≡ some k → (find (λ (y : BasicBlock). y.label) b bs ≡ some k → P k) → P k
    pass true h rest = subst P (some_same h) m
    pass false h rest = rest h

module _ (g : Given) where
  abbrev pub Sizes : List Inst → Type 0
  Sizes is = Each (λ (i : Inst). Measured g i.dest i.kind) is

  pub body_sizes : (is : List Inst) → Sizes is → Sizes (body is)
  unfolding body
  body_sizes [] m = tt
  body_sizes (i ∷ is) m = by_shape Sizes i is (λ ty l e. body_sizes is m.1) (λ o. m)

  module _ (p : ℕ) (t : Terminator) where
    -- from a state to the block's end
    abbrev Rest : List Inst → Source → Result Stand
    Rest is σ = bind (run_insts g is σ) (λ τ. run_term g p t τ)

    insts_go : (is : List Inst) (σ : Source) → Sizes is → GoesInsts g p t is σ → Going (Rest is σ)
    unfolding run_insts bind
    insts_go [] σ m (GoesInsts.end h) = term_goes g σ p h
    insts_go (i ∷ is) σ (m, ms) (GoesInsts.step h k) = let (τ, e) = (inst_goes g σ i).1 (m, h) in rw e (insts_go is τ ms (k τ e))

    gone_insts : (is : List Inst) (σ : Source) (s : Stand) → Rest is σ ≡ ok s → GoesInsts g p t is σ
    unfolding run_insts bind
    gone_insts [] σ s e = GoesInsts.end (gone_term g σ p t s e)
    gone_insts (i ∷ is) σ s e =
        let (υ, h, e₁) = bind_ok (bind (run_inst g i σ) (λ τ. run_insts g is τ)) _ s e in
        let (τ, k, h₁) = bind_ok (run_inst g i σ) _ υ h in
        GoesInsts.step ((inst_goes g σ i).0 (τ, k)).1 (λ τ' k'. gone_insts is τ' s (subst (λ z. Rest is z ≡ ok s) (ok_same (sym k ∙ k')) (bind_step _ _ h₁ e₁)))

    body_insts : {is : List Inst} {σ : Source} → GoesBody g p t is σ → GoesInsts g p t (body is) σ
    unfolding body body_step
    body_insts (GoesBody.end h) = GoesInsts.end h
    body_insts (GoesBody.phi h b) = rw h (body_insts b)
    body_insts (GoesBody.other {i = i} {is = is} o h) = rw (other_body (i ∷ is) (body is) o) h

    insts_body : (is : List Inst) (σ : Source) → GoesInsts g p t (body is) σ → GoesBody g p t is σ
    unfolding body
    insts_body [] σ (GoesInsts.end h) = GoesBody.end h
    insts_body (i ∷ is) σ h = by_shape (λ js. GoesInsts g p t js σ → GoesBody g p t (i ∷ is) σ) i is (λ ty l e k. GoesBody.phi e (insts_body is σ k)) (λ o k. GoesBody.other o k) h

  -- ---- a block
  pub block_goes : AllMeasured g → (b : ℕ) (σ : Source) → GoesBlock g b σ → Going (run_block g b σ)
  unfolding run_block
  block_goes m b σ (bb, h, k) = onward _ (ok_or_ok _ h) (insts_go bb.label bb.term (body bb.insts) σ (body_sizes bb.insts (each_find (λ k. Sizes k.insts) b bb g.function.blocks m h)) (body_insts bb.label bb.term k))

  pub gone_block : (b : ℕ) (σ : Source) (t : Stand) → run_block g b σ ≡ ok t → GoesBlock g b σ
  unfolding run_block
  gone_block b σ t e =
      let (bb, h, e₁) = bind_ok (block_named g b) _ t e in
      (bb, ok_or_some _ (find (λ (k : BasicBlock). k.label) b g.function.blocks) bb h, insts_body bb.label bb.term bb.insts σ (gone_insts bb.label bb.term (body bb.insts) σ t e₁))

  -- ---- n blocks
  one_more_lem : (s : Stand) (n : ℕ) → AllMeasured g → GoesOn g s (suc n) → Going (go g s)
  unfolding go run
  one_more_lem (Stand.at b σ) n m h = block_goes m b σ (h 0 b σ (omega arith) refl)
  one_more_lem (Stand.gave v σ) n m h = (_, refl)

  -- Where the conditions hold at every block that the run comes to with fewer than n passed, it passes n (a run that has returned stays so).
  pub run_goes : AllMeasured g → (s : Stand) (n : ℕ) → GoesOn g s n → Going (run g n s)
  unfolding run
  run_goes m s zero h = (s, refl)
  run_goes m s (suc n) h = let (t, e) = one_more_lem s n m h in onward _ e (run_goes m t n (λ k b σ l i. h (suc k) b σ (omega arith) (bind_step _ _ e i)))

  -- k blocks and one more, of n
  run_next : (k n : ℕ) (s t : Stand) → k < n → run g k s ≡ ok t → Going (run g n s) → Going (go g t)
  unfolding run
  run_next k zero s t l e h = absurd (omega arith)
  run_next zero (suc n) s t l e (u, h) = let (v, a, b) = bind_ok (go g s) _ u h in (v, rw (← ok_same e) a)
  run_next (suc k) (suc n) s t l e (u, h) =
      let (v, a, b) = bind_ok (go g s) _ t e in
      let (v', a', b') = bind_ok (go g s) (λ z. run g n z) u h in
      run_next k n v t (omega arith) b (u, rw (ok_same (sym a ∙ a')) b')

  -- And only there.
  pub gone_run : (s : Stand) (n : ℕ) → Going (run g n s) → GoesOn g s n
  unfolding go
  gone_run s n h k b σ l e = let (u, i) = run_next k n s (Stand.at b σ) l e h in gone_block b σ u i

  -- How the conditions are shown of a loop: by what holds at each block whenever the run comes to it.
  module _ (I : (block : ℕ) → Source → Type 0) (goes : (b : ℕ) (σ : Source) → I b σ → GoesBlock g b σ)
      (kept : (b : ℕ) (σ : Source) (c : ℕ) (τ : Source) → I b σ → run_block g b σ ≡ ok (Stand.at c τ) → I c τ) where
    abbrev pub Holds : Stand → Type 0
    Holds (Stand.at b σ) = I b σ
    Holds (Stand.gave v σ) = Unit {0}

    held : (s t : Stand) → Holds s → go g s ≡ ok t → Holds t
    unfolding go
    held (Stand.at b σ) (Stand.at c τ) h e = kept b σ c τ h e
    held (Stand.at b σ) (Stand.gave v τ) h e = tt
    held (Stand.gave u σ) (Stand.at c τ) h e = absurd (let z : ◌≡◌ {A = ℕ} 0 1 = cc in omega arith)
    held (Stand.gave u σ) (Stand.gave v τ) h e = tt

    all_held : (n : ℕ) (s t : Stand) → Holds s → run g n s ≡ ok t → Holds t
    unfolding run
    all_held zero s t h e = subst Holds (ok_same e) h
    all_held (suc n) s t h e = let (u, a, e₁) = bind_ok (go g s) _ t e in all_held n u t (held s u h a) e₁

    pub by_invariant : (s : Stand) (n : ℕ) → Holds s → GoesOn g s n
    by_invariant s n h k b σ l e = goes b σ (all_held k s (Stand.at b σ) h e)

-- ---- the run of a function
first_block_lem : (bs : List BasicBlock) → HasBlock bs → Going (first_block bs)
unfolding first_block
first_block_lem [] x' = elim x' [ ]
first_block_lem (b ∷ bs) HasBlock.has = (_, refl)

block_first : (bs : List BasicBlock) (b : ℕ) → first_block bs ≡ ok b → HasBlock bs
unfolding first_block
block_first [] b e = err_no_ok _ b e
block_first (k ∷ bs) b e = HasBlock.has

module _ (names : List (List ℕ)) (structs : List StructType) (f : Function) (world : World) (args : List ℕ) (m : Memory) (sp : ℕ) where
  abbrev Runs : ℕ → Result Stand
  Runs n = source_run names structs f world args m sp n

  abbrev given : Places → Given
  given fr = given_of names structs f world sp fr

  from_first : (fr : Places) → places_of structs f ≡ ok fr → (s : Stand) → begin (given fr) args m ≡ ok s → (n : ℕ) → Runs n ≡ run (given fr) n s
  unfolding source_run bind
  from_first fr pass s e n = rw (pass, e) refl

  pub source_goes : (fr : Places) → places_of structs f ≡ ok fr → AllMeasured (given_of names structs f world sp fr) → (n : ℕ) → SourceGoes names structs f world args m sp n → Going (source_run names structs f world args m sp n)
  unfolding begin
  source_goes fr pass ms n (w, h) =
      let (k, i) = first_block_lem f.blocks w in
      let (s, e) = onward {r = first_block f.blocks} (λ k. ok (Stand.at k (record { env = param_env f.params args nothing; memory = m; calls = []; sp = entered fr sp }))) i (_, refl) in
      rw (from_first fr pass s e n) (run_goes (given fr) ms s n (λ j c σ l i. h fr pass j c σ l (from_first fr pass s e j ∙ i)))

  pub gone_source : (n : ℕ) → Going (source_run names structs f world args m sp n) → SourceGoes names structs f world args m sp n
  unfolding source_run begin
  gone_source n (t, e) =
      let (fr, p, e₁) = bind_ok (places_of structs f) _ t e in
      let (s, i, e₂) = bind_ok (begin (given fr) args m) _ t e₁ in
      let (k, j, e₃) = bind_ok (first_block f.blocks) _ s i in (
        block_first f.blocks k j,
        λ fr' p'. subst (λ z. (j c : ℕ) (σ : Source) → j < n → Runs j ≡ ok (Stand.at c σ) → GoesBlock (given z) c σ) (ok_same (sym p ∙ p'))
            (λ j c σ l h. gone_run (given fr) s n (t, e₂) j c σ l (sym (from_first fr p s i j) ∙ h)),
      )

-- `gen_function` up to its first block: slots are made, the frame is entered, and the two runs begin alike.
use Rattle.std.specs.Prelude.{ℕ, ◌+◌, ◌%◌, ◌^◌, ◌<◌, ◌≡◌, Bool, eqb, length, set, replicate}
use Rattle.std.proofs.Math.Path.{refl, ap, subst}
use Rattle.std.proofs.Common.{sym, ◌∙◌, arith, length-set, length-append}
use Rattle.std.proofs.Math.Bool.{true, false, cond}
use Rattle.std.proofs.lemmas.Bool.{false≢true}
use Rattle.std.proofs.Math.Option.{Option, none, some}
use mathlib.Core.List.{List, [], ◌∷◌, ◌++◌, append_assoc}
use Rattle.std.proofs.Math.Dec.{ltb}
use Rattle.std.proofs.lemmas.List.{length-replicate}
use borrow.Author.Tests.{eqb-true, eqb-false, ltb-true, ltb-false, lt-ltb}
use Rattle.numbers.specs.Align.{align_up}
use Rattle.names.specs.Tests.{both}
use Rattle.book.specs.Ast.{BinOp, BasicBlock, Param}
use Rattle.book.specs.Result.{Result, ok, err, err_no_ok}
use Rattle.assembly.specs.Line.{Line, Work}
use Rattle.machine.specs.Memory.{Memory}
use Rattle.machine.specs.State.{Frame, set_slots, cell_at}
use Rattle.machine.specs.Line.{does}
use Rattle.lowering.specs.Gen.{line, when, each}
use Rattle.lowering.specs.Context.{param_map}
use Rattle.lowering.specs.Places.{lookup_here, lookup_there}
use Rattle.lowering.specs.Operand.{add64}
use Rattle.lowering.specs.Function.{gen_block, prologue, gen_lines, total_slots}
use Rattle.manual.specs.State.{Cell, Env, Source, nothing, with, without, assign, unassign}
use Rattle.manual.specs.Operand.{width_of}
use Rattle.manual.specs.Run.{valued, param_env, fits_in, args_fit, entered, first_block}
use Rattle.agreement.specs.Gives.{Gives, G-line, G-put, G-then, G-when, G-unless, G-map, Made, G-self}
use Rattle.agreement.specs.Lists.{none_some, cell_set_same, cell_right}
use Rattle.agreement.specs.Setup.{Setup, ctx}
use Rattle.agreement.specs.Reach.{Runs, runs_nil, run_line, seq, ◌⊳◌}
use Rattle.agreement.specs.Relation.{Held, Stack, Rel}
use Rattle.agreement.specs.Operand.{fits_mod}
use Rattle.agreement.specs.Alloca.{add_does}
use Rattle.agreement.specs.Holds.{ok_same}
use Rattle.agreement.specs.Where.{read_at}
use Rattle.book.specs.Map.{Map, lookup, insert}
use Rattle.layout.specs.Frame.{framed}

-- ---- parameters: a readable one's argument cell holds its value
abbrev ParamsHeld : (args : List ℕ) → Map ℕ → Env → Type 0
ParamsHeld args m ρ = (x : ℕ) (c : Cell) → ρ x ≡ some c → (i w v : ℕ) × (c ≡ Cell.one w v) × (lookup x m ≡ some i) × (cell_at args i ≡ some v) × (v < 2 ^ w)

with_held : (args : List ℕ) (m : Map ℕ) (ρ : Env) (y k w v : ℕ) → cell_at args k ≡ some v → v < 2 ^ w → ParamsHeld args m ρ → ParamsHeld args ((y, k) ∷ m) (with y (Cell.one w v) ρ)
unfolding with
with_held args m ρ y k w v hv l h x c e = go (eqb x y) refl e
  where
    go : (t : Bool) → eqb x y ≡ t → cond t (some (Cell.one w v)) (ρ x) ≡ some c → (i w v : ℕ) × (c ≡ Cell.one w v) × (lookup x ((y, k) ∷ m) ≡ some i) × (cell_at args i ≡ some v) × (v < 2 ^ w)
    go true t e = let z : Cell.one w v ≡ c = cc in (k, w, v, sym z, (rw (eqb-true x y t) (lookup_here y k m)), hv, l)
    go false t e = let (i, w', v', ec, hl, ha, lt) = h x c e in (i, w', v', ec, lookup_there x y k m (eqb-false x y t) ∙ hl, ha, lt)

without_held : (args : List ℕ) (m : Map ℕ) (ρ : Env) (y k : ℕ) → ParamsHeld args m ρ → ParamsHeld args ((y, k) ∷ m) (without y ρ)
unfolding without
without_held args m ρ y k h x c e = go (eqb x y) refl e
  where
    go : (t : Bool) → eqb x y ≡ t → cond t none (ρ x) ≡ some c → (i w v : ℕ) × (c ≡ Cell.one w v) × (lookup x ((y, k) ∷ m) ≡ some i) × (cell_at args i ≡ some v) × (v < 2 ^ w)
    go true t e = none_some c e
    go false t e = let (i, w', v', ec, hl, ha, lt) = h x c e in (i, w', v', ec, lookup_there x y k m (eqb-false x y t) ∙ hl, ha, lt)

one_held : (args : List ℕ) (m : Map ℕ) (ρ : Env) (y : Option ℕ) (k v : ℕ) (r : Result ℕ) → cell_at args k ≡ some v → fits_in r v ≡ true → ParamsHeld args m ρ → ParamsHeld args (insert y k m) (valued r y v ρ)
unfolding valued insert assign unassign fits_in
one_held args m ρ none k v (ok w) hv t h = h
one_held args m ρ none k v (err n) hv t h = h
one_held args m ρ (some y) k v (ok w) hv t h = with_held args m ρ y k w v hv (ltb-true v (2 ^ w) t) h
one_held args m ρ (some y) k v (err n) hv t h = without_held args m ρ y k h

params_held : (ps : List Param) (pre vs : List ℕ) (k : ℕ) (m : Map ℕ) (ρ : Env) → k ≡ length pre → args_fit ps vs ≡ true → ParamsHeld (pre ++ vs) m ρ → ParamsHeld (pre ++ vs) (param_map k ps m) (param_env ps vs ρ)
unfolding args_fit param_map param_env cell_at
params_held [] pre [] k m ρ e t h = h
params_held [] pre (v ∷ vs) k m ρ e t h = absurd (false≢true t)
params_held (p ∷ ps) pre [] k m ρ e t h = absurd (false≢true t)
params_held (p ∷ ps) pre (v ∷ vs) k m ρ e t h =
    let (tv, ts) = both (fits_in (width_of p.ty) v) (args_fit ps vs) t in
    let here : cell_at (pre ++ (v ∷ vs)) k ≡ some v = (let z : k ≡ length pre + 0 = omega arith in rw z (cell_right pre (v ∷ vs) 0 refl)) in
    let h' = one_held (pre ++ (v ∷ vs)) m ρ p.name k v (width_of p.ty) here tv h in
    let a : (pre ++ (v ∷ [])) ++ vs ≡ pre ++ (v ∷ vs) = append_assoc pre (v ∷ []) vs in
    let n : k + 1 ≡ length (pre ++ (v ∷ [])) = omega (arith, length-append pre (v ∷ [])) in
    subst (λ l. ParamsHeld l (param_map (k + 1) ps (insert p.name k m)) (param_env ps vs (valued (width_of p.ty) p.name v ρ))) a
    (params_held ps (pre ++ (v ∷ [])) vs (k + 1) (insert p.name k m) (valued (width_of p.ty) p.name v ρ) n ts
    (subst (λ l. ParamsHeld l (insert p.name k m) (valued (width_of p.ty) p.name v ρ)) (sym a) h'))

module _ (s : Setup) where
  abbrev total : ℕ
  total = total_slots s.codegen s.function s.frame

  zeros : List ℕ
  zeros = replicate total 0

  -- at the first line, behind the slots, and behind the frame's entry
  abbrev pub at_start : Memory → Frame
  at_start m = record { args = s.args; slots = []; memory = m; calls = []; sp = s.base }

  abbrev with_slots : Memory → Frame
  with_slots m = record { args = s.args; slots = zeros; memory = m; calls = []; sp = s.base }

  unfoldable pub at_block : Memory → Frame
  unfolding zeros
  at_block m = record { args = s.args; slots = cond (framed s.frame) (set zeros (ctx s).bp_slot s.base) zeros; memory = m; calls = []; sp = entered s.frame s.base }

  abbrev pub at_entry : Memory → Source
  at_entry m = record { env = param_env s.function.params s.args nothing; memory = m; calls = []; sp = entered s.frame s.base }

  slots_ok : Gives (when (ltb 0 total) (line (Line.push0n total))) (λ L. (m : Memory) → Runs s L (at_start m) [] (with_slots m) [])
  unfolding does zeros
  slots_ok = G-when (ltb 0 total) _ (λ t. G-line _ λ m. run_line s refl)
      (λ t m. let z : total ≡ 0 = (let q = ltb-false 0 total t in omega arith) in rw z (runs_nil s))

  base_in : framed s.frame ≡ true → (ctx s).bp_slot < length zeros
  unfolding zeros total_slots
  base_in t = rw (length-replicate, t) (omega arith)

  enter_runs : framed s.frame ≡ true → (m : Memory)
      → Runs s (Line.thread_get ∷ Line.dup ∷ Line.set_local (ctx s).bp_slot ∷ Line.push (ctx s).frame_size ∷ Line.bin BinOp.add Work.w64 ∷ Line.thread_set ∷ []) (with_slots m) [] (at_block m) []
  unfolding does at_block entered
  enter_runs t m =
      let e₂ : Frame = set_slots (with_slots m) (set zeros (ctx s).bp_slot s.base) in
      let l : ltb (ctx s).bp_slot (length zeros) ≡ true = lt-ltb (ctx s).bp_slot (length zeros) (base_in t) in
      rw t
      (◌⊳◌ s refl (◌⊳◌ s refl
      (◌⊳◌ s {e₁ = e₂} {o₁ = s.base ∷ []} (rw l refl)
      (◌⊳◌ s refl
      (◌⊳◌ s (add_does s e₂ [] s.base (ctx s).frame_size) (run_line s refl))))))

  prologue_ok : Gives (when (framed s.frame) (prologue (ctx s))) (λ L. (m : Memory) → Runs s L (with_slots m) [] (at_block m) [])
  unfolding prologue add64 at_block entered
  prologue_ok = G-when (framed s.frame) _
      (λ t. G-put _ _ (G-put _ _ (G-put _ _ (G-put _ _ (G-put _ _ (G-line _ (enter_runs t)))))))
      (λ t m. rw t (runs_nil s))

  -- the lines of a function: what leads to its blocks, and the blocks
  pub record Begins (L : List Line) : Type 0 where
    pub head : List Line
    pub code : List Line
    pub enters : (m : Memory) → Runs s head (at_start m) [] (at_block m) []
    pub made : Made (each (gen_block (ctx s)) s.function.blocks) code
    pub parts : L ≡ head ++ (code ++ (Line.blank ∷ []))

  pub begins_ok : Gives (gen_lines (ctx s) s.function total) Begins
  unfolding gen_lines does
  begins_ok = G-put _ _ (G-put _ _ (G-unless (ltb 65535 total) 8 _ λ t. G-then _ slots_ok λ A pa. G-then _ prologue_ok λ B pb. G-then _ (G-self (each (gen_block (ctx s)) s.function.blocks)) λ C m. G-line _ (record {
    head = Line.comment s.function.name ∷ Line.fn_label s.function.name ∷ (A ++ B);
    code = C;
    enters = λ mem. ◌⊳◌ s refl (◌⊳◌ s refl (seq s (pa mem) (pb mem)));
    made = m;
    parts = ap {B = List Line} (λ r. Line.comment s.function.name ∷ Line.fn_label s.function.name ∷ r) (sym (append_assoc A B _));
  })))

  pub first_ok : (bs : List BasicBlock) (b : ℕ) → first_block bs ≡ ok b → Gives (each (gen_block (ctx s)) bs) (λ C. (j : List Line) × (C ≡ Line.block_label b ∷ j))
  unfolding first_block each gen_block
  first_ok [] b e = err_no_ok _ b e
  first_ok (k ∷ bs) b e =
      let i : k.label ≡ b = ok_same e in
      G-then {P = λ L. (j : List Line) × (L ≡ Line.block_label b ∷ j)} _ (G-put _ _ (G-map (G-self _) λ A m. (A, ap {B = List Line} (λ x. Line.block_label x ∷ A) i))) λ L (j, el). G-map (G-self _) λ B m. (j ++ B, ap (λ l. l ++ B) el)

  -- ---- the relation at the first block
  stack_start : s.base < 2 ^ 64 → (m : Memory) → Stack s (entered s.frame s.base) (at_block m).sp (at_block m).slots
  unfolding at_block entered zeros
  stack_start h m = record {
    sp_eq = refl;
    sp_fits = sp_lt (framed s.frame);
    base_fits = h;
    size = size_ok (framed s.frame);
    kept = λ t. rw t (cell_set_same zeros (ctx s).bp_slot s.base (base_in t));
    unmoved = λ t. rw t refl;
  }
    where
      sp_lt : (t : Bool) → cond t ((s.base + align_up s.frame.off 8) % 2 ^ 64) s.base < 2 ^ 64
      sp_lt true = fits_mod (s.base + align_up s.frame.off 8) 64
      sp_lt false = h

      size_ok : (t : Bool) → length (cond t (set zeros (ctx s).bp_slot s.base) zeros) ≡ total
      size_ok true = length-set zeros (ctx s).bp_slot s.base ∙ length-replicate total 0
      size_ok false = length-replicate total 0

  nothing_held : (args : List ℕ) → ParamsHeld args [] nothing
  unfolding nothing
  nothing_held args x c e = none_some c e

  args_held : (m : Memory) → args_fit s.function.params s.args ≡ true → (x : ℕ) (c : Cell) → param_env s.function.params s.args nothing x ≡ some c → Held s (at_block m) x c
  unfolding at_block read_at
  args_held m t x c e =
      let (i, w, v, ec, hl, ha, lt) = params_held s.function.params [] s.args 0 [] nothing refl t (nothing_held s.args) x c e in
      subst (λ d. Held s (at_block m) x d) (sym ec) (record { cell = rw hl ha; fits = lt })

  pub rel_start : s.base < 2 ^ 64 → (m : Memory) → args_fit s.function.params s.args ≡ true → Rel s (at_entry m) (at_block m)
  unfolding at_block
  rel_start h m t = record { args_eq = refl; memory_eq = refl; calls_eq = refl; stack = stack_start h m; held = args_held m t }

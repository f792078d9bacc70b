-- `gen_term`: the lines of a terminator land where the source goes.
use Rattle.std.specs.Prelude.{ℕ, suc, ◌%◌, ◌^◌, ◌<◌, ◌≤◌, ◌≡◌, Bool, cond, eqb}
use Rattle.std.proofs.Math.Path.{refl, sym, ap}
use Rattle.std.proofs.Common.{◌∙◌, arith}
use Rattle.std.proofs.Math.Bool.{true, false}
use Rattle.std.proofs.Math.Option.{Option, none, some}
use mathlib.Core.List.{List, [], ◌∷◌, ◌++◌, append_assoc}
use Rattle.std.proofs.Math.Nat.{mod-eq_of_lt}
use Rattle.std.proofs.Math.Pow.{pow_mono}
use Rattle.std.proofs.Math.ListN.{drop}
use Rattle.numbers.specs.Width.{width_ok, mask_to_width, mask_low}
use Rattle.book.specs.Ast.{Ty, Value, TypedVal, ICmpPred, Case, Terminator, BasicBlock}
use Rattle.book.specs.Result.{Result, ok, ok_or}
use Rattle.assembly.specs.Line.{Line, Hint}
use Rattle.assembly.specs.Text.{hinted}
use Rattle.machine.specs.Values.{word_test, flag}
use Rattle.machine.specs.State.{Frame, set_sp}
use Rattle.machine.specs.Run.{State, state, running, follow, step_at, step}
use Rattle.machine.specs.Line.{does, jump, branch}
use Rattle.lowering.specs.Operand.{work_bits, work_of, push_int, push_typed}
use Rattle.lowering.specs.Edge.{edge}
use Rattle.lowering.specs.Term.{emit_frame_leave, ret_value, gen_ret, gen_cond_br, gen_br, case_tests, case_edges, gen_switch, gen_term}
use Rattle.manual.specs.Stop.{Stop}
use Rattle.manual.specs.Values.{in_range, constant}
use Rattle.manual.specs.State.{Source}
use Rattle.manual.specs.Operand.{value}
use Rattle.manual.specs.Call.{result_width}
use Rattle.manual.specs.Term.{Stand, case_for, same_width, is_none, returns, run_br, run_term}
use Rattle.manual.specs.Term.{edge as sourceEdge}
use Rattle.agreement.specs.Holds.{ok_same, Holds, H-ok, H-err, H-bind, H-eq, H-known, H-need, H-map, H-use, H-self, H-cond, clash}
use Rattle.agreement.specs.Gives.{Gives, G-line, G-put, G-skip, G-then, G-bind, G-when, G-fresh, G-reserve, G-map}
use Rattle.agreement.specs.Lists.{drop_tail, drop_part}
use Rattle.agreement.specs.Setup.{Setup, ctx, given}
use Rattle.agreement.specs.Reach.{at_line, Reaches, stay, once, next, Runs, runs_nil, run_line, run_label, seq, ◌⊳◌, Once, jump_to, pass_by, hint_label}
use Rattle.agreement.specs.Relation.{Rel, Apart}
use Rattle.agreement.specs.Operand.{H-width, H-integer, Sound, at_most, ok_or_some, fits_mod, value_ok_lem}
use Rattle.agreement.specs.Extend.{work_width_lem, work_above}
use Rattle.agreement.specs.Instr.{H-no-integer, G-width}
use Rattle.agreement.specs.Flow.{Goes, before, Lands}
use Rattle.agreement.specs.Edge.{LabelsStand, FoundAlike, PhisSound, EdgeOk, edge_ok}
use Rattle.book.specs.Map.{lookup}
use Rattle.layout.specs.Frame.{framed}

-- a returned value's type is the book's
abbrev pub SoundRet : Option TypedVal → Type 0
SoundRet none = Unit {0}
SoundRet (some v) = Sound v.ty

abbrev pub GoodTerm : Terminator → Type 0
GoodTerm (Terminator.ret v) = SoundRet v
GoodTerm (Terminator.br v t f) = Unit {0}
GoodTerm (Terminator.switch ty v d ks) = Sound ty
GoodTerm Terminator.unreachable = Unit {0}

module _ (s : Setup) where
  -- ---- `ret`
  record Left (L : List Line) (σ : Source) (e : Frame) (o : List ℕ) : Type 0 where
    frame : Frame
    runs : Runs s L e o frame o
    memory_eq : frame.memory ≡ σ.memory
    calls_eq : frame.calls ≡ σ.calls
    sp_eq : frame.sp ≡ s.base

  -- `emit_frame_leave`: the stack pointer is the one found at entry
  leave_ok : Gives (emit_frame_leave (ctx s)) (λ L. (σ : Source) (e : Frame) (o : List ℕ) → Rel s σ e → Left L σ e o)
  unfolding emit_frame_leave does
  leave_ok = G-when (framed s.frame) _
      (λ t. G-put _ _ (G-line _ λ σ e o r. record {
        frame = set_sp e s.base;
        memory_eq = r.memory_eq;
        calls_eq = r.calls_eq;
        sp_eq = refl;
        runs = ◌⊳◌ s {e₁ = e} {o₁ = s.base ∷ o} (rw (r.stack.kept t) refl) (run_line s refl);
      }))
      (λ t σ e o r. record { frame = e; memory_eq = r.memory_eq; calls_eq = r.calls_eq; sp_eq = r.stack.sp_eq ∙ r.stack.unmoved t; runs = runs_nil s })

  value_returned : (v : Option TypedVal) → SoundRet v
      → Gives (ret_value (ctx s) v) (λ L. (σ : Source) (e : Frame) → Rel s σ e → (w : Option ℕ) → Holds (returns (given s) w v σ) (λ n. (o : List ℕ) → Runs s L e o e (n ∷ o)))
  unfolding ret_value returns push_typed does
  value_returned none sound = G-line _ λ σ e r w. H-need (is_none w) Stop.ill_formed _ λ t. H-ok _ λ o. run_line s refl
  value_returned (some v) sound = G-bind _ _ λ w hw. G-map (value_ok_lem s w v.val (at_most w (sound.width w hw))) λ A pa σ e r k.
      H-width v.ty _ hw (H-need (same_width w k) Stop.ill_formed _ λ t. H-map (pa σ e r) λ n q. q.pushes)

  ret_ok : (p : ℕ) (v : Option TypedVal) → SoundRet v → Gives (gen_ret (ctx s) v) (λ L. (σ : Source) (e : Frame) → Rel s σ e → Holds (run_term (given s) p (Terminator.ret v) σ) (Lands s L e))
  unfolding gen_ret run_term does step step_at follow
  ret_ok p v sound = G-then _ (value_returned v sound) λ A pa. G-then _ leave_ok λ B pb. G-line _ λ σ e r.
      H-eq (result_width s.function.ret_ty) _ λ w hw. H-bind _ (pa σ e r w) λ n q. H-ok _ (record {
        lands = λ i m k h.
            let l = pb σ e (n ∷ []) r in
            let c = (seq s (q []) l.runs).from i m (Line.ret ∷ k) (h ∙ append_assoc A _ k ∙ ap (λ x. A ++ x) (append_assoc B _ k) ∙ sym (append_assoc A B _)) in
            record { frame = l.frame; labels = m; within = omega arith; way = next s c.way (once s (rw (at_line s c.pos c.here) refl)); memory_eq = l.memory_eq; calls_eq = l.calls_eq; sp_eq = l.sp_eq };
      })

  -- a constant compared with what is on top
  equal_runs : (w x v : ℕ) → width_ok w ≡ true → x < 2 ^ w → (e : Frame) (o : List ℕ)
      → Runs s (Line.push (mask_to_width v w) ∷ Line.icmp ICmpPred.eq (work_of w) ∷ []) e (x ∷ o) e (flag (eqb x (v % 2 ^ w)) ∷ o)
  unfolding does word_test
  equal_runs w x v h l e o =
      let b = work_above w h in
      let k : 2 ^ w ≤ 2 ^ work_bits w = pow_mono b.0 in
      let m = fits_mod v w in
      ◌⊳◌ s {e₁ = e} {o₁ = v % 2 ^ w ∷ x ∷ o} (rw (mask_low v w (at_most w h)) refl)
      (run_line s (rw (work_width_lem w, mod-eq_of_lt {n = x} {m = 2 ^ work_bits w} (omega arith), mod-eq_of_lt {n = v % 2 ^ w} {m = 2 ^ work_bits w} (omega arith)) refl))

  module _ (ap' : Apart s) (u : Once s) (label : LabelsStand s) (sound : (b : ℕ) (k : BasicBlock) → lookup b (ctx s).blocks ≡ some k → PhisSound k.insts) (alike : FoundAlike s) where
    abbrev ToEdge : (pred succ : ℕ) → List Line → Type 0
    ToEdge p b L = EdgeOk s ap' u label sound alike p b L

    to_edge : (p b : ℕ) → Gives (edge (ctx s) p b) (ToEdge p b)
    to_edge p b = edge_ok s ap' u label sound alike p b

    abbrev pub TermOk : (pred : ℕ) → Terminator → List Line → Type 0
    TermOk p t L = (σ : Source) (e : Frame) → Rel s σ e → Holds (run_term (given s) p t σ) (Lands s L e)

    -- ---- `br`
    -- `jz F; B; F: C`, each way ending elsewhere
    lands_if : {A B C : List Line} {e : Frame} (n x : ℕ) (t : Stand) → ((o : List ℕ) → Runs s A e o e (x ∷ o)) → (eqb x 0 ≡ false → Lands s B e t) → (eqb x 0 ≡ true → Lands s C e t)
        → Lands s (A ++ (Line.jump Hint.br_false n ∷ (B ++ (Line.label Hint.br_false n ∷ C)))) e t
    unfolding does jump branch
    lands_if {A} {B} {C} {e} n x t a b c = record {
      lands = λ q m k h.
          let d = (a []).from q m _ (h ∙ append_assoc A _ k) in
          before s m t d.way (go d.pos m k d.here (eqb x 0) refl);
    }
      where
        F : Line
        F = Line.label Hint.br_false n

        go : (p i : ℕ) (k : List Line) → drop p s.lines ≡ (Line.jump Hint.br_false n ∷ (B ++ (F ∷ C))) ++ k → (y : Bool) → eqb x 0 ≡ y → Goes s (state p e (x ∷ []) i) i t
        go p i k h true y =
            let h₁ : drop (suc p) s.lines ≡ B ++ (F ∷ (C ++ k)) = drop_tail p s.lines h ∙ append_assoc B _ k in
            let (q, zq) = drop_part s.lines B (suc p) h₁ in
            let m = (run_label s Hint.br_false n).from q i (C ++ k) zq in
            before s i t (next s (jump_to s u (hinted Hint.br_false n) p q i (rw y refl) h zq (hint_label s u Hint.br_false n)) m.way) ((c y).lands m.pos i k m.here)
        go p i k h false y = before s i t (pass_by s u p i (rw y refl) h) ((b y).lands (suc p) i _ (drop_tail p s.lines h ∙ append_assoc B _ k))

    br_ok : (p : ℕ) (v : Option Value) (t : ℕ) (f : Option ℕ) → Gives (gen_br (ctx s) p v t f) (λ L. (σ : Source) (e : Frame) → Rel s σ e → Holds (run_br (given s) p v t f σ) (Lands s L e))
    unfolding gen_br gen_cond_br run_br ok_or
    br_ok p none t f = to_edge p t
    br_ok p (some v) t f = G-bind _ _ λ d hd. G-then _ (value_ok_lem s 1 v (omega arith)) λ A pa. G-fresh _ λ n. G-put _ _ (G-then _ (to_edge p t) λ B pb. G-put _ _ (G-map (to_edge p d) λ C pc σ e r.
        H-known {a = d} _ (rw (ok_or_some 19 f d hd) refl) (H-bind _ (pa σ e r) λ x q. H-cond (eqb x 0) _ _
        (λ y. H-map (pc σ e r) λ z l. lands_if {B = B} {C = C} n x z q.pushes (λ i. clash y i) (λ i. l))
        (λ y. H-map (pb σ e r) λ z l. lands_if {B = B} {C = C} n x z q.pushes (λ i. l) (λ i. clash i y)))))

    -- ---- `switch`
    -- the lines of the chosen edge are come to
    record Finds (p t : ℕ) (e : Frame) (i : ℕ) (x : State) : Type 0 where
      pos : ℕ
      code : List Line
      rest : List Line
      here : drop pos s.lines ≡ code ++ rest
      good : ToEdge p t code
      way : Reaches s x (running (state pos e [] i))

    finds_before : {p t i : ℕ} {e : Frame} {x y : State} → Reaches s x (running y) → Finds p t e i y → Finds p t e i x
    finds_before w a = record { pos = a.pos; code = a.code; rest = a.rest; here = a.here; good = a.good; way = next s w a.way }

    finds_goes : {p t i : ℕ} {e : Frame} {x : State} (z : Stand) (σ : Source) → Rel s σ e → sourceEdge (given s) p t σ ≡ ok z → Finds p t e i x → Goes s x i z
    finds_goes {i = i} z σ r h a = before s i z a.way ((H-use z h (a.good σ _ r)).lands a.pos i a.rest a.here)

    record CaseEdge (p n t : ℕ) : Type 0 where
      pos : ℕ
      code : List Line
      rest : List Line
      here : drop pos s.lines ≡ Line.label Hint.sw_case n ∷ (code ++ rest)
      good : ToEdge p t code

    abbrev CaseEdges : (p n : ℕ) → List Case → Type 0
    CaseEdges p n [] = Unit {0}
    CaseEdges p n (k ∷ ks) = CaseEdge p n k.label × CaseEdges p (suc n) ks

    edges_ok : (p n : ℕ) (ks : List Case) → Gives (case_edges (ctx s) p n ks) (λ G. (q : ℕ) (k : List Line) → drop q s.lines ≡ G ++ k → CaseEdges p n ks)
    unfolding case_edges
    edges_ok p n [] = G-skip λ q k h. tt
    edges_ok p n (c ∷ ks) = G-put _ _ (G-then _ (to_edge p c.label) λ E pe. G-map (edges_ok p (suc n) ks) λ G pg q k h.
        let h₁ : drop q s.lines ≡ Line.label Hint.sw_case n ∷ (E ++ (G ++ k)) = h ∙ ap {B = List Line} (λ r. Line.label Hint.sw_case n ∷ r) (append_assoc E G k) in
        let (q', h₂) = drop_part s.lines E (suc q) (drop_tail q s.lines h₁) in
        (record { pos = q; code = E; rest = G ++ k; here = h₁; good = pe }, pg q' k h₂))

    abbrev TestsOk : (p w : ℕ) → Value → (n : ℕ) → List Case → List Line → Type 0
    TestsOk p w v n ks T = (σ : Source) (e : Frame) → Rel s σ e → (x : ℕ) → value s.world σ.env w v ≡ ok x → (d i q : ℕ) (k : List Line) → drop q s.lines ≡ T ++ k
        → ((r : ℕ) → drop r s.lines ≡ k → Finds p d e i (state r e [] i)) → CaseEdges p n ks → Holds (case_for w x d ks) (λ b. Finds p b e i (state q e [] i))

    -- the jump behind a test
    chosen : (n : ℕ) (t : Bool) (p q : ℕ) (e : Frame) (i : ℕ) (j : List Line) (b : ℕ) (rest : Result ℕ) → drop q s.lines ≡ Line.jump Hint.sw_case n ∷ j → CaseEdge p n b
        → (drop (suc q) s.lines ≡ j → Holds rest (λ b'. Finds p b' e i (state (suc q) e [] i)))
        → Holds (cond t (ok b) rest) (λ b'. Finds p b' e i (state q e (flag t ∷ []) i))
    unfolding does jump branch flag
    chosen n true p q e i j b rest h t k =
        let l = (run_label s Hint.sw_case n).from t.pos i _ t.here in
        H-ok _ (record {
          pos = l.pos;
          code = t.code;
          rest = t.rest;
          here = l.here;
          good = t.good;
          way = next s (jump_to s u (hinted Hint.sw_case n) q t.pos i refl h t.here (hint_label s u Hint.sw_case n)) l.way;
        })
    chosen n false p q e i j b rest h t k = H-map (k (drop_tail q s.lines h)) λ b' f. finds_before (pass_by s u q i refl h) f

    tests_ok : (p w : ℕ) → width_ok w ≡ true → (v : Value) (n : ℕ) (ks : List Case) → Gives (case_tests (ctx s) w v n ks) (TestsOk p w v n ks)
    unfolding case_tests case_for constant push_int
    tests_ok p w hw v n [] = G-skip λ σ e r x hx d i q k h def ts. H-ok _ (def q h)
    tests_ok p w hw v n (c ∷ ks) = G-then _ (value_ok_lem s w v (at_most w hw)) λ A pa. G-put _ _ (G-put _ _ (G-put _ _ (G-map (tests_ok p w hw v (suc n) ks) λ T pt σ e r x hx d i q k h def ts.
        let a = H-use x hx (pa σ e r) in
        let g = (a.pushes []).from q i _ (h ∙ append_assoc A _ k) in
        let g' = (equal_runs w x c.value hw a.fits e []).from g.pos i (Line.jump Hint.sw_case n ∷ (T ++ k)) g.here in
        H-bind {P = λ y. y ≡ c.value % 2 ^ w} _ (H-need (in_range w c.value) Stop.integer_range _ λ t. H-ok _ refl) λ y ey. rw ey (
        H-map (chosen n (eqb x (c.value % 2 ^ w)) p g'.pos e i (T ++ k) c.label (case_for w x d ks) g'.here ts.0
        (λ z. pt σ e r x hx d i (suc g'.pos) k z def ts.1)) λ b f. finds_before (next s g.way g'.way) f))))

    switch_ok : (p : ℕ) (ty : Ty) (v : Value) (d : ℕ) (ks : List Case) → Sound ty → Gives (gen_switch (ctx s) p ty v d ks) (TermOk p (Terminator.switch ty v d ks))
    unfolding gen_switch run_term
    switch_ok p ty v d ks so = G-width ty so
        (λ w hw kw. G-bind _ _ λ w' hw'. let same : w' ≡ w = ok_same (sym hw' ∙ hw) in rw same (
        G-reserve _ _ λ n. G-then _ (tests_ok p w kw v n ks) λ T pt. G-then _ (to_edge p d) λ D pd. G-map (edges_ok p n ks) λ G pg σ e r.
        H-integer ty _ hw (H-eq (value s.world σ.env w v) _ λ x hx. H-eq (case_for w x d ks) _ λ b hb. H-map (H-self (sourceEdge (given s) p b σ)) λ z hz. record {
          lands = λ q i k h.
              let h₁ : drop q s.lines ≡ T ++ (D ++ (G ++ k)) = h ∙ append_assoc T _ k ∙ ap (λ l. T ++ l) (append_assoc D G k) in
              let (q₁, hD) = drop_part s.lines T q h₁ in
              let (q₂, hG) = drop_part s.lines D q₁ hD in
              finds_goes z σ r hz (H-use b hb (pt σ e r x hx d i q _ h₁ (λ j hj. record { pos = j; code = D; rest = G ++ k; here = hj; good = pd; way = stay s _ }) (pg q₂ k hG)));
        })))
        (λ n e L σ f r. H-no-integer ty n _ e)

    pub term_ok : (p : ℕ) (t : Terminator) → GoodTerm t → Gives (gen_term (ctx s) p t) (TermOk p t)
    unfolding gen_term run_term
    term_ok p (Terminator.ret v) good = ret_ok p v good
    term_ok p (Terminator.br v t f) good = br_ok p v t f
    term_ok p (Terminator.switch ty v d ks) good = switch_ok p ty v d ks good
    term_ok p Terminator.unreachable good = G-line _ λ σ e r. H-err _

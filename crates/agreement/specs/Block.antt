-- `gen_function`'s blocks: a block's lines do what the source does in a block, and stand in the program behind its label.
use Prim.Native.Nat.{ℕ, zero, suc, ◌+◌}
use Rattle.std.specs.Prelude.{◌≡◌}
use Rattle.std.proofs.Math.Path.{refl, ap, subst}
use Rattle.std.proofs.Common.{sym, ◌∙◌, add-suc, suc-add}
use Rattle.std.proofs.Math.Logic.{⊎_elim}
use Rattle.std.proofs.Math.Option.{Option, some}
use mathlib.Core.List.{List, [], ◌∷◌, ◌++◌, append_assoc}
use Rattle.std.proofs.Math.Nat.{add-zero}
use native.Mathlib.Omega.{arith}
use Rattle.std.proofs.Math.ListN.{drop}
use Rattle.book.specs.Ast.{InstKind, Inst, BasicBlock}
use Rattle.book.specs.Rule.{find}
use Rattle.book.specs.Result.{bind}
use Rattle.book.specs.Shape.{shape}
use Rattle.assembly.specs.Line.{Line}
use Rattle.machine.specs.State.{Frame, cell_at}
use Rattle.machine.specs.Labels.{block_in, label_in}
use Rattle.machine.specs.Line.{does}
use Rattle.machine.specs.Run.{State, follow, step_at, step}
use Rattle.lowering.specs.Gen.{Gen, ◌>>◌, each}
use Rattle.lowering.specs.Inst.{gen_kind, gen_inst}
use Rattle.lowering.specs.Term.{gen_term}
use Rattle.lowering.specs.Function.{gen_block}
use Rattle.manual.specs.State.{Source}
use Rattle.manual.specs.Inst.{run_insts}
use Rattle.manual.specs.Term.{Stand, body_step, body, block_named, run_term}
use Rattle.manual.specs.Run.{run_block, go, run}
use Rattle.agreement.specs.Holds.{Holds, H-ok, H-bind, H-eq, H-map}
use Rattle.agreement.specs.Gives.{Gives, G-put, G-skip, G-then, G-map, Made, G-self, G-use}
use Rattle.agreement.specs.Lists.{none_some, drop_tail, drop_part, drop_past, In, here, there}
use Rattle.agreement.specs.Names.{Stands}
use Rattle.agreement.specs.Labels.{block_found, distinct_nil, distinct_cons, labels_of, find_in, find_some}
use Rattle.agreement.specs.Setup.{Setup, ctx, given}
use Rattle.agreement.specs.Reach.{Once, at_line, same_line, next, once}
use Rattle.agreement.specs.Relation.{Rel, Apart}
use Rattle.agreement.specs.Operand.{ok_or_some}
use Rattle.agreement.specs.Instr.{StepOk}
use Rattle.agreement.specs.Inst.{Good, Goods, insts_ok}
use Rattle.agreement.specs.Flow.{Arrives, Goes, later, before, Lands, then_lands}
use Rattle.agreement.specs.Edge.{SoundPhi, PhisSound, LabelsStand, FoundAlike}
use Rattle.agreement.specs.Term.{GoodTerm, term_ok}
use Rattle.agreement.specs.Naming.{Distinct}
use Rattle.book.specs.Map.{lookup}

module _ (s : Setup) where
  -- a block's lines behind its label
  abbrev rest : BasicBlock → Gen
  rest k = each (gen_inst (ctx s)) k.insts >> gen_term (ctx s) k.label k.term

  -- where a block's lines stand
  pub record Split (k : BasicBlock) (L : List Line) : Type 0 where
    pub ahead : List Line
    pub after : List Line
    pub code : List Line
    pub made : Made (rest k) code
    pub parts : L ≡ ahead ++ (Line.block_label k.label ∷ (code ++ after))

  first_split : (x : BasicBlock) (A B : List Line) → Made (rest x) A → Split x ((Line.block_label x.label ∷ A) ++ B)
  first_split x A B m = record { ahead = []; after = B; code = A; made = m; parts = refl }

  later_split : (x : BasicBlock) (l : Line) (A B : List Line) → Split x B → Split x ((l ∷ A) ++ B)
  later_split x l A B t = record {
    ahead = l ∷ (A ++ t.ahead);
    after = t.after;
    code = t.code;
    made = t.made;
    parts = ap {B = List Line} (λ r. l ∷ r) (ap (λ r. A ++ r) t.parts ∙ sym (append_assoc A t.ahead _));
  }

  in_cases : {x k : BasicBlock} {xs : List BasicBlock} (P : BasicBlock → Type 0) → P x → ((y : BasicBlock) → In y xs → P y) → In k (x ∷ xs) → P k
  in_cases P p q here = p
  in_cases P p q (there h) = q _ h

  in_none : {k : BasicBlock} {bs : List BasicBlock} {X : Type 0} → bs ≡ [] → In k bs → X
  in_none {X = X} e h = absurd (go e h)
    where
      is_nil : List BasicBlock → Type 0
      is_nil [] = Unit {0}
      is_nil (x ∷ xs) = ⊥

      go : {k : BasicBlock} {bs : List BasicBlock} → bs ≡ [] → In k bs → ⊥
      go e here = subst is_nil (sym e) tt
      go e (there h) = subst is_nil (sym e) tt

  pub split_ok : (bs : List BasicBlock) → Gives (each (gen_block (ctx s)) bs) (λ L. (k : BasicBlock) → In k bs → Split k L)
  unfolding each gen_block
  split_ok [] = G-skip λ k h. in_none refl h
  split_ok (x ∷ xs) = G-then {P = λ L. (A : List Line) × (L ≡ Line.block_label x.label ∷ A) × Made (rest x) A} _ (G-put _ _ (G-map (G-self (rest x)) λ A m. (A, refl, m))) λ L (A, e, m).
      G-map (split_ok xs) λ B ih k h. rw e (in_cases (λ y. Split y ((Line.block_label x.label ∷ A) ++ B)) (first_split x A B m) (λ y q. later_split y (Line.block_label x.label) A B (ih y q)) h)

  -- a name that stands among the labels is a block's
  label_block : (b : ℕ) (bs : List BasicBlock) (L : List Line) → ((k : BasicBlock) → In k bs → Split k L) → Stands b (labels_of bs) → (a r : List Line) × (L ≡ a ++ (Line.block_label b ∷ r))
  unfolding labels_of cell_at
  label_block b [] L h t = none_some b t.stands
  label_block b (x ∷ bs) L h t = go (label_block b bs L (λ k q. h k (there q))) t.place t.stands
    where
      go : (Stands b (labels_of bs) → (a r : List Line) × (L ≡ a ++ (Line.block_label b ∷ r))) → (i : ℕ) → cell_at (x.label ∷ labels_of bs) i ≡ some b → (a r : List Line) × (L ≡ a ++ (Line.block_label b ∷ r))
      go ih zero e = let i : x.label ≡ b = cc in let q = h x here in (q.ahead, q.code ++ q.after, subst (λ y. L ≡ q.ahead ++ (Line.block_label y ∷ (q.code ++ q.after))) i q.parts)
      go ih (suc i) e = ih (record { place = i; stands = e })

  -- no label line occurs twice, so no two blocks have one label
  pub labels_distinct : Once s → (bs : List BasicBlock) → Gives (each (gen_block (ctx s)) bs) (λ C. (q : ℕ) (k : List Line) → drop q s.lines ≡ C ++ k → Distinct (labels_of bs))
  unfolding each gen_block labels_of block_in label_in
  labels_distinct u [] = G-skip λ q k h. distinct_nil
  labels_distinct u (x ∷ xs) = G-then {P = λ L. (A : List Line) × (L ≡ Line.block_label x.label ∷ A)} _ (G-put _ _ (G-map (G-self (rest x)) λ A m. (A, refl))) λ L (A, e).
      G-map (G-self (each (gen_block (ctx s)) xs)) λ B m q k h.
      let h₀ : drop q s.lines ≡ Line.block_label x.label ∷ (A ++ (B ++ k)) = h ∙ ap (λ l. (l ++ B) ++ k) e ∙ ap {B = List Line} (λ l. Line.block_label x.label ∷ l) (append_assoc A B k) in
      let h₁ = drop_tail q s.lines h₀ in
      let (q₁, hB, l₁) = drop_past s.lines A (suc q) h₁ in
      distinct_cons x.label (labels_of xs) (G-use B m (labels_distinct u xs) q₁ k hB) λ t.
      let (a, r, eB) = label_block x.label xs B (G-use B m (split_ok xs)) t in
      let hb : drop q₁ s.lines ≡ a ++ (Line.block_label x.label ∷ (r ++ k)) = hB ∙ ap (λ l. l ++ k) eB ∙ append_assoc a _ k in
      let (q₂, hL, l₂) = drop_past s.lines a q₁ hb in
      let same : q ≡ q₂ = same_line s u q q₂ h₀ hL refl refl in
      omega arith

  module _ (u : Once s) (ap' : Apart s) (goods : (k : BasicBlock) → In k s.function.blocks → Goods s u ap' k.insts) (terms : (k : BasicBlock) → In k s.function.blocks → GoodTerm k.term)
      (splits : (k : BasicBlock) → In k s.function.blocks → Split k s.lines) (distinct : Distinct (labels_of s.function.blocks)) where
    -- ---- instructions behind the leading phis
    abbrev whole : Option ℕ → InstKind → List Inst → List Inst
    whole d k is = record { dest = d; kind = k } ∷ is

    body_case : (d : Option ℕ) (k : InstKind) (is : List Inst) → Goods s u ap' (whole d k is) → Gives (each (gen_inst (ctx s)) is) (StepOk s (run_insts (given s) (body is)))
        → Gives (each (gen_inst (ctx s)) (whole d k is)) (StepOk s (run_insts (given s) (body_step (shape k) (whole d k is) (body is))))
    unfolding each gen_inst gen_kind body_step shape
    body_case d (InstKind.phi ty l) is good ih = G-then {P = λ L. L ≡ []} _ (G-skip refl) λ L e. rw e ih
    body_case d (InstKind.bin op ty a b) is good ih = insts_ok s u ap' (whole d (InstKind.bin op ty a b) is) good
    body_case d (InstKind.conv op t v v') is good ih = insts_ok s u ap' (whole d (InstKind.conv op t v v') is) good
    body_case d (InstKind.icmp p ty a b) is good ih = insts_ok s u ap' (whole d (InstKind.icmp p ty a b) is) good
    body_case d (InstKind.select c ty a b) is good ih = insts_ok s u ap' (whole d (InstKind.select c ty a b) is) good
    body_case d (InstKind.load ty p a) is good ih = insts_ok s u ap' (whole d (InstKind.load ty p a) is) good
    body_case d (InstKind.store ty v p a) is good ih = insts_ok s u ap' (whole d (InstKind.store ty v p a) is) good
    body_case d (InstKind.alloca ty n a) is good ih = insts_ok s u ap' (whole d (InstKind.alloca ty n a) is) good
    body_case d (InstKind.get_element_ptr ty p l) is good ih = insts_ok s u ap' (whole d (InstKind.get_element_ptr ty p l) is) good
    body_case d (InstKind.call ty v l) is good ih = insts_ok s u ap' (whole d (InstKind.call ty v l) is) good
    body_case d (InstKind.freeze ty v) is good ih = insts_ok s u ap' (whole d (InstKind.freeze ty v) is) good
    body_case d (InstKind.atomic_load ty p) is good ih = insts_ok s u ap' (whole d (InstKind.atomic_load ty p) is) good
    body_case d (InstKind.atomic_store ty v p) is good ih = insts_ok s u ap' (whole d (InstKind.atomic_store ty v p) is) good
    body_case d (InstKind.cmpxchg ty p c n) is good ih = insts_ok s u ap' (whole d (InstKind.cmpxchg ty p c n) is) good
    body_case d (InstKind.extract_value v n) is good ih = insts_ok s u ap' (whole d (InstKind.extract_value v n) is) good
    body_case d InstKind.fence is good ih = insts_ok s u ap' (whole d InstKind.fence is) good

    body_ok : (is : List Inst) → Goods s u ap' is → Gives (each (gen_inst (ctx s)) is) (StepOk s (run_insts (given s) (body is)))
    unfolding body
    body_ok [] good = insts_ok s u ap' [] good
    body_ok (i ∷ is) good = body_case i.dest i.kind is good (body_ok is (λ j h. good j (there h)))

    -- ---- blocks by name
    named : (b : ℕ) (k : BasicBlock) → lookup b (ctx s).blocks ≡ some k → In k s.function.blocks × (k.label ≡ b)
    unfolding lookup
    named b k h = ⊎_elim (λ q. q) (λ e. none_some k e) (block_found b k s.function.blocks [] h)

    alike : FoundAlike s
    alike b k h = let (i, e) = named b k h in subst (λ x. find (λ (y : BasicBlock). y.label) x s.function.blocks ≡ some k) e (find_in s.function.blocks distinct i)

    labels : LabelsStand s
    labels b k h =
        let (i, e) = named b k h in
        let t = splits k i in
        let (q, z) = drop_part s.lines t.ahead 0 t.parts in
        (q, t.code ++ t.after, subst (λ x. drop q s.lines ≡ Line.block_label x ∷ (t.code ++ t.after)) e z)

    phi_sound : (d : Option ℕ) (k : InstKind) → Good s d k → SoundPhi (shape k)
    unfolding shape
    phi_sound d (InstKind.phi ty l) g = g
    phi_sound d (InstKind.bin op ty a b) g = tt
    phi_sound d (InstKind.conv op t v v') g = tt
    phi_sound d (InstKind.icmp p ty a b) g = tt
    phi_sound d (InstKind.select c ty a b) g = tt
    phi_sound d (InstKind.load ty p a) g = tt
    phi_sound d (InstKind.store ty v p a) g = tt
    phi_sound d (InstKind.alloca ty n a) g = tt
    phi_sound d (InstKind.get_element_ptr ty p l) g = tt
    phi_sound d (InstKind.call ty v l) g = tt
    phi_sound d (InstKind.freeze ty v) g = tt
    phi_sound d (InstKind.atomic_load ty p) g = tt
    phi_sound d (InstKind.atomic_store ty v p) g = tt
    phi_sound d (InstKind.cmpxchg ty p c n) g = tt
    phi_sound d (InstKind.extract_value v n) g = tt
    phi_sound d InstKind.fence g = tt

    phis : (b : ℕ) (k : BasicBlock) → lookup b (ctx s).blocks ≡ some k → PhisSound k.insts
    phis b k h i q = phi_sound i.dest i.kind (goods k (named b k h).0 i q)

    -- ---- a block
    rest_ok : (k : BasicBlock) → In k s.function.blocks → Gives (rest k) (λ L. (σ : Source) (e : Frame) → Rel s σ e
        → Holds (bind (run_insts (given s) (body k.insts) σ) (λ τ. run_term (given s) k.label k.term τ)) (Lands s L e))
    rest_ok k h = G-then _ (body_ok k.insts (goods k h)) λ A pa. G-map (term_ok s ap' u labels phis alike k.label k.term (terms k h)) λ B pb σ e r.
        H-bind _ (pa σ e [] r) λ τ a. H-map (pb τ a.frame a.rel) λ t l. then_lands s a.runs l

    block_step : (x : State) (n b : ℕ) (σ : Source) → Arrives s x n b σ → Holds (run_block (given s) b σ) (Goes s x (suc n))
    unfolding run_block step step_at follow does block_in label_in
    block_step x n b σ a = H-eq (block_named (given s) b) _ λ k hk.
        let (i, e) = find_some b k s.function.blocks (ok_or_some _ (find (λ (y : BasicBlock). y.label) b s.function.blocks) k hk) in
        let t = splits k i in
        let (q, z) = drop_part s.lines t.ahead 0 t.parts in
        let z' : drop q s.lines ≡ Line.block_label b ∷ (t.code ++ t.after) = subst (λ y. drop q s.lines ≡ Line.block_label y ∷ (t.code ++ t.after)) e z in
        let same : q ≡ a.pos = same_line s u q a.pos z' a.here refl refl in
        let here' : drop a.pos s.lines ≡ Line.block_label b ∷ (t.code ++ t.after) = subst (λ p. drop p s.lines ≡ Line.block_label b ∷ (t.code ++ t.after)) same z' in
        H-map (G-use t.code t.made (rest_ok k i) σ a.frame a.rel) λ y l.
        before s (suc n) y (next s a.way (once s (rw (at_line s a.pos here') refl))) (l.lands (suc a.pos) (suc n) t.after (drop_tail a.pos s.lines here'))

    go_ok : (x : State) (m : ℕ) (t : Stand) → Goes s x m t → Holds (go (given s) t) (Goes s x (suc m))
    unfolding go
    go_ok x m (Stand.at b σ) g = block_step x m b σ g
    go_ok x m (Stand.gave v σ) g = H-ok _ (later s g)

    -- any number of blocks
    pub blocks_run : (n m : ℕ) (x : State) (t : Stand) → Goes s x m t → Holds (run (given s) n t) (Goes s x (m + n))
    unfolding run
    blocks_run zero m x t g = H-ok _ (rw add-zero g)
    blocks_run (suc n) m x t g = H-bind _ (go_ok x m t g) λ y i. rw (add-suc, ← suc-add) (blocks_run n (suc m) x y i)

-- `emit_edge_copies`: every incoming value is pushed, then the slots are set backwards; the source sets its names at once.
use Rattle.std.specs.Prelude.{ℕ, ◌≡◌, Bool, true, false, cond, eqb, drop}
use Rattle.std.proofs.Math.Path.{refl, ap, subst}
use Rattle.std.proofs.Common.{sym, ◌∙◌}
use Rattle.std.proofs.Math.Option.{Option, some}
use mathlib.Core.List.{List, [], ◌∷◌, ◌++◌, reverse, reverse-cons}
use Rattle.book.specs.Ast.{Ty, Value, Incoming, Inst, BasicBlock}
use Rattle.book.specs.Rule.{find, pick}
use Rattle.book.specs.Result.{Result, ok, ok_or}
use Rattle.book.specs.Shape.{Shape, shape}
use Rattle.assembly.specs.Line.{Line}
use Rattle.assembly.specs.Text.{block_text}
use Rattle.machine.specs.State.{Frame}
use Rattle.machine.specs.Labels.{block_in, label_in}
use Rattle.machine.specs.Line.{does}
use Rattle.lowering.specs.Gen.{each}
use Rattle.lowering.specs.Context.{slot_of}
use Rattle.lowering.specs.Operand.{int_width, push_typed}
use Rattle.lowering.specs.Edge.{Copy, incoming_from, copy_of, copy_step, copies, push_copy, set_copy, emit_edge_copies, edge}
use Rattle.manual.specs.State.{Source, set_env}
use Rattle.manual.specs.Term.{Phi, lead_step, leading, incoming_for, take_phis}
use Rattle.manual.specs.Term.{edge as sourceEdge}
use Rattle.agreement.specs.Holds.{Holds, H-ok, H-bind, H-eq, H-known, H-map, H-use}
use Rattle.agreement.specs.Gives.{Gives, G-line, G-put, G-skip, G-then, G-bind, G-map}
use Rattle.agreement.specs.Lists.{none_some, In, here, there}
use Rattle.agreement.specs.Setup.{Setup, ctx, given}
use Rattle.agreement.specs.Reach.{Runs, runs_nil, seq, Once, jump_to}
use Rattle.agreement.specs.Relation.{Rel, Apart}
use Rattle.agreement.specs.Operand.{H-width, Sound, at_most, ok_or_some, ValueOk, value_ok_lem, Ends, then_ends, DestOk, set_ok, slot_known}
use Rattle.agreement.specs.Call.{onto}
use Rattle.agreement.specs.Flow.{Lands, then_lands}
use Rattle.book.specs.Map.{lookup}

-- the first value for a predecessor, by both
incoming_alike : (p : ℕ) (is : List Incoming) (v : Value) → incoming_from p is ≡ some v → incoming_for p is ≡ ok v
unfolding incoming_from incoming_for
incoming_alike p [] v h = none_some v h
incoming_alike p (i ∷ is) v h = go (eqb i.label p) (incoming_alike p is v) h
  where
    go : (t : Bool) → (incoming_from p is ≡ some v → incoming_for p is ≡ ok v) → pick t (some i.val) (incoming_from p is) ≡ some v → cond t (ok i.val) (incoming_for p is) ≡ ok v
    go true ih h = let z : i.val ≡ v = cc in ap {B = Result Value} ok z
    go false ih h = ih h

-- the lines that set the copies' slots, the last one first
abbrev sets : List Copy → List Line
sets [] = []
sets (c ∷ cs) = sets cs ++ (Line.set_local c.slot ∷ [])

-- every phi's type is the book's
abbrev pub SoundPhi : Shape → Type 0
SoundPhi (Shape.phi ty is) = Sound ty
SoundPhi (Shape.alloca ty n) = Unit {0}
SoundPhi (Shape.call v) = Unit {0}
SoundPhi Shape.cmpxchg = Unit {0}
SoundPhi Shape.plain = Unit {0}

abbrev pub PhisSound : List Inst → Type 0
PhisSound is = (i : Inst) → In i is → SoundPhi (shape i.kind)

module _ (s : Setup) where
  abbrev mapped : List Copy → List Line
  mapped [] = []
  mapped (c ∷ cs) = Line.set_local c.slot ∷ mapped cs

  mapped_append : (a b : List Copy) → mapped (a ++ b) ≡ mapped a ++ mapped b
  mapped_append [] b = refl
  mapped_append (c ∷ a) b = ap {B = List Line} (λ r. Line.set_local c.slot ∷ r) (mapped_append a b)

  mapped_reverse : (cs : List Copy) → mapped (reverse cs) ≡ sets cs
  mapped_reverse [] = refl
  mapped_reverse (c ∷ cs) = ap mapped (reverse-cons c cs) ∙ mapped_append (reverse cs) (c ∷ []) ∙ ap (λ r. r ++ (Line.set_local c.slot ∷ [])) (mapped_reverse cs)

  sets_are : (cs : List Copy) → Gives (each (set_copy (ctx s)) cs) (λ L. L ≡ mapped cs)
  unfolding each set_copy
  sets_are [] = G-skip refl
  sets_are (c ∷ cs) = G-put _ _ (G-map (sets_are cs) λ L e. ap {B = List Line} (λ r. Line.set_local c.slot ∷ r) e)

  -- what an edge's pushes and sets come to
  record Copied (cps : List Copy) (L : List Line) (e : Frame) (τ : Source) : Type 0 where
    values : List ℕ
    pushes : (o : List ℕ) → Runs s L e o e (onto values o)
    ends : (o : List ℕ) → Ends s (sets cps) e (onto values o) τ o

  abbrev CopiesOk : (pred : ℕ) → List Phi → List Copy → List Line → Type 0
  CopiesOk p qs cps L = (σ : Source) (e : Frame) → Rel s σ e → Holds (take_phis s.world p qs σ.env) (λ ρ. Copied cps L e (set_env σ ρ))

  -- where a block's label stands
  abbrev pub LabelsStand : Type 0
  LabelsStand = (b : ℕ) (k : BasicBlock) → lookup b (ctx s).blocks ≡ some k → (q : ℕ) × (j : List Line) × (drop q s.lines ≡ Line.block_label b ∷ j)

  -- the block that the generator finds is the one that the source finds
  abbrev pub FoundAlike : Type 0
  FoundAlike = (b : ℕ) (k : BasicBlock) → lookup b (ctx s).blocks ≡ some k → find (λ (x : BasicBlock). x.label) b s.function.blocks ≡ some k

  module _ (ap' : Apart s) where
    no_copies : (p : ℕ) → Gives (each (push_copy (ctx s)) []) (CopiesOk p [] [])
    unfolding each take_phis
    no_copies p = G-skip λ σ e r. H-ok _ (record { values = []; pushes = λ o. runs_nil s; ends = λ o. record { frame = e; runs = runs_nil s; rel = r } })

    one_more_lem : (p : ℕ) (dest : Option ℕ) (ty : Ty) (is : List Incoming) (slot : ℕ) (v : Value) → Sound ty → slot_of (ctx s) dest ≡ ok slot → incoming_from p is ≡ some v
        → (qs : List Phi) (cps : List Copy) → Gives (each (push_copy (ctx s)) cps) (CopiesOk p qs cps)
        → Gives (each (push_copy (ctx s)) (record { slot = slot; val = v; ty = ty } ∷ cps)) (CopiesOk p (record { dest = dest; ty = ty; incoming = is } ∷ qs) (record { slot = slot; val = v; ty = ty } ∷ cps))
    unfolding each push_copy push_typed take_phis ok_or
    one_more_lem p dest ty is slot v sound hs hv qs cps rest =
        let (x, ex, kx) = slot_known s ap' dest slot hs in
        let d : DestOk s dest (Line.set_local slot ∷ []) = subst (λ z. DestOk s z (Line.set_local slot ∷ [])) (sym ex) (set_ok s ap' x slot kx) in
        G-then _ (G-bind (int_width ty) _ λ w hw. G-map (value_ok_lem s w v (at_most w (sound.width w hw))) λ A pa. mark A w hw pa) λ A (w, hw, pa). G-map rest λ B pb σ e r.
        H-known _ (incoming_alike p is v hv) (H-width ty _ hw (H-bind _ (pa σ e r) λ n q. H-bind _ (pb σ e r) λ ρ c. H-ok _ (record {
          values = n ∷ c.values;
          pushes = λ o. seq s (q.pushes o) (c.pushes (n ∷ o));
          ends = λ o. let m = c.ends (n ∷ o) in then_ends s m.runs (d _ m.frame m.rel w n o q.fits);
        })))
      where
        mark : (A : List Line) (w : ℕ) → int_width ty ≡ ok w → ValueOk s w v A → (w : ℕ) × (int_width ty ≡ ok w) × ValueOk s w v A
        mark A w hw pa = (w, hw, pa)

    step_ok : (p : ℕ) (dest : Option ℕ) (sh : Shape) → SoundPhi sh → (rest : Result (List Copy)) (qs : List Phi) → Holds rest (λ cps. Gives (each (push_copy (ctx s)) cps) (CopiesOk p qs cps))
        → Holds (copy_step (ctx s) p dest sh rest) (λ cps. Gives (each (push_copy (ctx s)) cps) (CopiesOk p (lead_step dest sh qs) cps))
    unfolding copy_step lead_step copy_of
    step_ok p dest (Shape.phi ty is) sound rest qs h =
        H-bind {P = λ cp. (slot : ℕ) × (v : Value) × (slot_of (ctx s) dest ≡ ok slot) × (incoming_from p is ≡ some v) × (cp ≡ record { slot = slot; val = v; ty = ty })} _
        (H-eq (slot_of (ctx s) dest) _ λ slot hs. H-eq (ok_or 18 (incoming_from p is)) _ λ v hv. H-ok _ (slot, v, hs, ok_or_some 18 (incoming_from p is) v hv, refl))
        λ cp (slot, v, hs, hv, e). H-bind _ h λ cps g. H-ok _ (rw e (one_more_lem p dest ty is slot v sound hs hv qs cps g))
    step_ok p dest (Shape.alloca ty n) sound rest qs h = H-ok _ (no_copies p)
    step_ok p dest (Shape.call v) sound rest qs h = H-ok _ (no_copies p)
    step_ok p dest Shape.cmpxchg sound rest qs h = H-ok _ (no_copies p)
    step_ok p dest Shape.plain sound rest qs h = H-ok _ (no_copies p)

    copies_ok : (p : ℕ) (is : List Inst) → PhisSound is → Holds (copies (ctx s) p is) (λ cps. Gives (each (push_copy (ctx s)) cps) (CopiesOk p (leading is) cps))
    unfolding copies leading
    copies_ok p [] sound = H-ok _ (no_copies p)
    copies_ok p (i ∷ is) sound = step_ok p i.dest (shape i.kind) (sound i here) (copies (ctx s) p is) (leading is) (copies_ok p is (λ j h. sound j (there h)))

    module _ (u : Once s) (label : LabelsStand) (sound : (b : ℕ) (k : BasicBlock) → lookup b (ctx s).blocks ≡ some k → PhisSound k.insts) (alike : FoundAlike) where
      abbrev pub EdgeOk : (pred succ : ℕ) → List Line → Type 0
      EdgeOk p b L = (σ : Source) (e : Frame) → Rel s σ e → Holds (sourceEdge (given s) p b σ) (Lands s L e)

      pub edge_ok : (p b : ℕ) → Gives (edge (ctx s) p b) (EdgeOk p b)
      unfolding edge emit_edge_copies sourceEdge does block_in label_in ok_or
      edge_ok p b = G-then {P = λ L. (σ : Source) (e : Frame) → Rel s σ e → (k : BasicBlock) × (lookup b (ctx s).blocks ≡ some k) × Holds (take_phis s.world p (leading k.insts) σ.env) (λ ρ. Ends s L e [] (set_env σ ρ) [])} _
          (G-bind _ _ λ k hk. let hb = ok_or_some 17 (lookup b (ctx s).blocks) k hk in G-bind _ _ λ cps hc. G-then _ (H-use cps hc (copies_ok p k.insts (sound b k hb))) λ A pa. G-map (sets_are (reverse cps)) λ B eb σ e r.
          (k, hb, H-map (pa σ e r) λ ρ c. then_ends s (c.pushes []) (subst (λ M. Ends s M e (onto c.values []) (set_env σ ρ) []) (sym (eb ∙ mapped_reverse cps)) (c.ends []))))
          λ A pa. G-line _ λ σ e r. let (k, hb, h) = pa σ e r in
          H-known {a = k} _ (rw (alike b k hb) refl) (H-bind _ h λ ρ m. H-ok _ (then_lands s m.runs (record {
            lands = λ q n j z.
                let (t, i, y) = label b k hb in
                record {
                  pos = t;
                  rest = i;
                  frame = m.frame;
                  here = y;
                  rel = m.rel;
                  way = jump_to s u (block_text s.codegen.names s.function.name b) q t n refl z y refl;
                };
          })))

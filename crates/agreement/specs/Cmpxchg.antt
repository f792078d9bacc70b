-- `gen_cmpxchg` and `gen_extractvalue`: a compare-and-swap's two results, and their parts.
use Prim.Native.Nat.{ℕ, zero, suc, ◌+◌, ◌^◌, ◌<◌}
use Rattle.std.specs.Prelude.{◌≡◌, Bool, List, [], ◌∷◌, ◌++◌, length, set}
use Rattle.std.proofs.Math.Path.{refl, ap, subst}
use Rattle.std.proofs.Common.{sym, ◌∙◌, arith, add-zero, add-one}
use Rattle.std.proofs.Math.Bool.{true, false, cond}
use Rattle.std.proofs.Math.Option.{Option, none, some}
use Rattle.std.proofs.Math.Nat.{mod-eq_of_lt}
use Rattle.std.proofs.Math.Dec.{eqb, ltb}
use borrow.Author.Tests.{eqb-true, lt-ltb}
use Rattle.book.specs.Ast.{Ty, Value, ICmpPred}
use Rattle.book.specs.Result.{Result, ok, bind, ok_or}
use Rattle.layout.specs.Layout.{size_of}
use Rattle.assembly.specs.Line.{Line, Work}
use Rattle.machine.specs.Memory.{Memory, peek, poke, peek_lt}
use Rattle.machine.specs.State.{World, Frame, set_slots, set_memory, cell_at}
use Rattle.machine.specs.Values.{word_test, flag}
use Rattle.machine.specs.Line.{does, swapped}
use Rattle.lowering.specs.Gen.{◌>>◌}
use Rattle.lowering.specs.Operand.{int_width}
use Rattle.lowering.specs.Memory.{require_atomic_width, gen_cmpxchg, agg_slot, gen_extract_value}
use Rattle.manual.specs.Stop.{Stop, stop_number}
use Rattle.manual.specs.State.{Cell, Env, Source, set_env, set_world, without, assign}
use Rattle.manual.specs.Operand.{scalar, value}
use Rattle.manual.specs.Inst.{part, run_cmpxchg, run_extract}
use Rattle.agreement.specs.Holds.{Holds, H-ok, H-err, H-bind, H-eq, H-known, H-use}
use Rattle.agreement.specs.Gives.{Gives, G-line, G-put, G-then, G-bind, G-unless, G-map}
use Rattle.agreement.specs.Setup.{Setup, ctx, given}
use Rattle.agreement.specs.Reach.{run_line, seq, ◌⊳◌}
use Rattle.agreement.specs.Relation.{Held, Rel, Apart, own, slot_of_name, slot_owner, owned_in, stack_set, rel_first, rel_second}
use Rattle.agreement.specs.Operand.{H-width, Sound, ok_or_some, ValueOk, value_ok_lem, Ends, then_ends, DestOk, dest_ok, slot_known}
use Rattle.agreement.specs.Arith.{flag_lt}
use Rattle.agreement.specs.Instr.{H-no-width, G-width, StepOk}
use Rattle.agreement.specs.Memory.{eight, atomic_ok}
use Rattle.agreement.specs.Lists.{some_same}

module _ (s : Setup) where
  -- an operand that is not the name hidden
  value_without : (world : World) (ρ : Env) (x w : ℕ) (c : Value) → ¬ (c ≡ Value.local x) → value world (without x ρ) w c ≡ value world ρ w c
  unfolding value without
  value_without world ρ x w (Value.local y) h = go (eqb y x) refl
    where
      go : (t : Bool) → eqb y x ≡ t → bind (ok_or (stop_number Stop.unset) (cond t none (ρ y))) (λ c. scalar w c) ≡ bind (ok_or (stop_number Stop.unset) (ρ y)) (λ c. scalar w c)
      go true t = absurd (h (ap Value.local (eqb-true y x t)))
      go false t = refl
  value_without world ρ x w (Value.int v) h = refl
  value_without world ρ x w (Value.zero z) h = refl
  value_without world ρ x w (Value.global y) h = refl
  value_without world ρ x w Value.other h = refl

  -- a name with two slots
  abbrev pub TwoSlots : ℕ → Type 0
  TwoSlots x = (j : ℕ) → slot_of_name s x ≡ some j → cell_at (own s) (suc j) ≡ some x

  cas_runs : (x i : ℕ) (p c n : Value) → slot_of_name s x ≡ some i → TwoSlots x → ¬ (c ≡ Value.local x)
      → (A B C D : List Line) → ValueOk s 64 p A → ValueOk s 64 c B → ValueOk s 64 n C → ValueOk s 64 c D
      → (σ : Source) (e : Frame) (o : List ℕ) → Rel s σ e → (a u v : ℕ) → value s.world σ.env 64 p ≡ ok a → value s.world σ.env 64 c ≡ ok u → value s.world σ.env 64 n ≡ ok v
      → Ends s (A ++ (B ++ (C ++ (Line.atomic_cas ∷ Line.dup ∷ Line.set_local i ∷ (D ++ (Line.icmp ICmpPred.eq Work.w64 ∷ Line.set_local (i + 1) ∷ [])))))) e o
      (set_env (set_world σ (cond (eqb (peek 8 σ.memory a) u) (poke 8 σ.memory a v) σ.memory) σ.calls)
      (assign (some x) (Cell.two 64 (peek 8 σ.memory a) (cond (eqb (peek 8 σ.memory a) u) 1 0)) σ.env)) o
  unfolding does swapped word_test flag
  cas_runs x i p c n hi two own' A B C D pa pb pc pd σ e o r a u v ha hu hv =
      let qa = H-use a ha (pa σ e r) in
      let qb = H-use u hu (pb σ e r) in
      let qc = H-use v hv (pc σ e r) in
      let old : ℕ = peek 8 e.memory a in
      let old_eq : old ≡ peek 8 σ.memory a = ap (λ m. peek 8 m a) r.memory_eq in
      let m : Memory = swapped e.memory a u v in
      let m' : Memory = cond (eqb (peek 8 σ.memory a) u) (poke 8 σ.memory a v) σ.memory in
      let m_eq : m ≡ m' = rw r.memory_eq refl in
      let b : ℕ = cond (eqb old u) 1 0 in
      let e₂ : Frame = set_slots (set_memory e m) (set e.slots i old) in
      let o₁ = slot_owner s x i hi in
      let qd = H-use u (value_without s.world σ.env x 64 c own' ∙ hu) (pd _ e₂ (rel_first s x i old m m' m_eq r o₁)) in
      let l : ltb i (length e.slots) ≡ true = lt-ltb i (length e.slots) (owned_in s x i r.stack o₁) in
      let l₂ : ltb (suc i) (length (set e.slots i old)) ≡ true =
      lt-ltb (suc i) (length (set e.slots i old)) (owned_in s x (suc i) (stack_set s x i old r.stack o₁) (two i hi)) in
      let r₂ = rel_second s x i old b 64 m m' m_eq r hi (two i hi) (peek_lt 8 e.memory a) (flag_lt (eqb old u)) in
      record {
        frame = set_slots e₂ (set e₂.slots (suc i) b);
        runs = seq s (qa.pushes o) (seq s (qb.pushes _) (seq s (qc.pushes _) (◌⊳◌ s refl (◌⊳◌ s refl (◌⊳◌ s {e₁ = e₂} {o₁ = old ∷ o} (rw l refl) (
            seq s (qd.pushes _) (◌⊳◌ s {e₁ = e₂} {o₁ = b ∷ o} (rw (mod-eq_of_lt (peek_lt 8 e.memory a), mod-eq_of_lt qb.fits) refl) (run_line s (rw (add-one, l₂) refl)))))))));
        rel = subst (λ k. Rel s (set_env (set_world σ m' σ.calls) (assign (some x) (Cell.two 64 k (cond (eqb k u) 1 0)) σ.env)) (set_slots e₂ (set e₂.slots (suc i) b))) old_eq r₂;
      }

  -- `gen_cmpxchg`
  pub cmpxchg_ok : Apart s → (dest : Option ℕ) (ty : Ty) (p c n : Value) → Sound ty → ((x : ℕ) → dest ≡ some x → TwoSlots x × ¬ (c ≡ Value.local x))
      → Gives (require_atomic_width (ctx s) ty >> gen_cmpxchg (ctx s) p c n dest) (StepOk s (run_cmpxchg (given s) dest ty p c n))
  unfolding gen_cmpxchg run_cmpxchg
  cmpxchg_ok ap' dest ty p c n sound good = G-width ty sound
      (λ w hw k. G-then _ (atomic_ok s ty) λ E (e₀, h8). rw e₀ (G-bind _ _ λ i hi.
      let (x, ex, kx) = slot_known s ap' dest i hi in
      let wide : int_width ty ≡ ok 64 = hw ∙ ap {B = Result ℕ} ok (eight s.codegen.structs ty w h8 hw k) in
      G-then _ (value_ok_lem s 64 p (omega arith)) λ A pa. G-then _ (value_ok_lem s 64 c (omega arith)) λ B pb. G-then _ (value_ok_lem s 64 n (omega arith)) λ C pc.
      G-put _ _ (G-put _ _ (G-put _ _ (G-then _ (value_ok_lem s 64 c (omega arith)) λ D pd. G-put _ _ (G-line _ λ σ e o r.
      H-known _ h8 (H-width ty _ wide (H-eq (value s.world σ.env 64 p) _ λ a ha. H-eq (value s.world σ.env 64 c) _ λ u hu. H-eq (value s.world σ.env 64 n) _ λ v hv.
      H-ok _ (rw ex (cas_runs x i p c n kx (good x ex).0 (good x ex).1 A B C D pa pb pc pd σ e o r a u v ha hu hv))))))))))
      (λ n e L σ f o r. H-eq (size_of s.codegen.structs ty) _ λ k hk. H-no-width ty n _ e)

  -- ---- `gen_extractvalue`
  part_ok : (k i a : ℕ) (c : Cell) (e : Frame) → ltb 1 k ≡ false → slot_of_name s a ≡ some i → Held s e a c
      → Holds (part k c) (λ d. (w n : ℕ) × (d ≡ Cell.one w n) × (cell_at e.slots (i + k) ≡ some n) × (n < 2 ^ w))
  unfolding part
  part_ok k i a (Cell.one w n) e t h q = H-err _
  part_ok zero i a (Cell.two w v b) e t h q = H-ok _ (w, v, refl, (let z : q.base ≡ i = some_same (sym q.slot_eq ∙ h) in rw (add-zero, ← z) q.cell₀), q.fits₀)
  part_ok (suc zero) i a (Cell.two w v b) e t h q = H-ok _ (1, b, refl, (let z : q.base ≡ i = some_same (sym q.slot_eq ∙ h) in rw (add-one, ← z) q.cell₁), q.fits₁)
  part_ok (suc (suc k)) i a (Cell.two w v b) e t h q = H-err _

  extract_local : Apart s → (dest : Option ℕ) (a k i : ℕ) → slot_of_name s a ≡ some i → ltb 1 k ≡ false → (B : List Line) → DestOk s dest B
      → StepOk s (run_extract (given s) dest (Value.local a) k) (Line.get_local (i + k) ∷ B)
  unfolding run_extract does
  extract_local ap' dest a k i h t B d σ e o r = H-eq (ok_or _ (σ.env a)) _ λ c hc. H-bind _ (part_ok k i a c e t h (r.held a c (ok_or_some _ (σ.env a) c hc))) λ m (w, n, em, en, lt).
      rw em (H-ok _ (then_ends s {L = Line.get_local (i + k) ∷ []} (run_line s {e' = e} {o' = n ∷ o} (rw en refl)) (d σ e r w n o lt)))

  agg_ok : Apart s → (dest : Option ℕ) (v : Value) (k i : ℕ) → agg_slot (ctx s) v ≡ some i → ltb 1 k ≡ false → (B : List Line) → DestOk s dest B
      → StepOk s (run_extract (given s) dest v k) (Line.get_local (i + k) ∷ B)
  unfolding agg_slot run_extract
  agg_ok ap' dest (Value.local a) k i h t B d = extract_local ap' dest a k i h t B d
  agg_ok ap' dest (Value.global x) k i h t B d = λ σ e o r. H-err _
  agg_ok ap' dest (Value.int v) k i h t B d = λ σ e o r. H-err _
  agg_ok ap' dest (Value.zero z) k i h t B d = λ σ e o r. H-err _
  agg_ok ap' dest Value.other k i h t B d = λ σ e o r. H-err _

  pub extract_ok : Apart s → (dest : Option ℕ) (v : Value) (k : ℕ) → Gives (gen_extract_value (ctx s) v k dest) (StepOk s (run_extract (given s) dest v k))
  unfolding gen_extract_value
  extract_ok ap' dest v k = G-bind _ _ λ i hi. G-unless (ltb 1 k) 16 _ λ t. G-put _ _ (G-map (dest_ok s ap' dest) λ B d. agg_ok ap' dest v k i (ok_or_some 16 (agg_slot (ctx s) v) i hi) t B d)

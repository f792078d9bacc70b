-- An edge and a terminator go on exactly where `GoesOn` says so.
use Rattle.std.specs.Prelude.{ℕ, zero, suc, ◌%◌, ◌^◌, ◌<◌, ◌≡◌, Bool}
use Rattle.std.proofs.Math.Path.{refl}
use Rattle.std.proofs.Common.{ap, subst, sym, arith, eqb-true, eq-eqb, ne_eqb}
use Rattle.std.proofs.Math.Bool.{true, false, cond}
use Rattle.std.proofs.lemmas.Bool.{false≢true, eqb-false}
use Rattle.std.proofs.Math.Option.{Option, none, some}
use mathlib.Core.List.{List, [], ◌∷◌}
use Rattle.std.proofs.Math.Dec.{eqb}
use Rattle.book.specs.Ast.{Value, TypedVal, Incoming, Case, Inst, Terminator, BasicBlock}
use Rattle.book.specs.Result.{Result, ok, bind, ok_or, err_no_ok, bind_ok, bind_step}
use Rattle.book.specs.Rule.{find}
use Rattle.book.specs.Shape.{Shape, shape}
use Rattle.manual.specs.Stop.{Stop}
use Rattle.manual.specs.Values.{constant}
use Rattle.manual.specs.State.{Env, Given, Source}
use Rattle.manual.specs.Operand.{width_of, integer_width, value}
use Rattle.manual.specs.Call.{result_width}
use Rattle.manual.specs.Term.{Stand, Phi, lead_step, leading, incoming_for, take_phis, case_for, block_named, edge, same_width, is_none, returns, run_br, run_term}
use Rattle.manual.specs.Goes.{Answers, InRange, Reads}
use Rattle.manual.specs.GoesOn.{From, Other, Enters, Edge, Chooses, GoesTerm}
use Rattle.manual.specs.Going.{ok_same, Going, onward, need_ok, ok_or_ok, ok_or_some}
use Rattle.manual.specs.Exact.{scalar_width, width_scalar, integer_width_lem, width_integer, range_constant, constant_range, untested, reads_value, value_reads}
use Rattle.manual.specs.ExactCall.{answers_width, width_answers}

-- ---- phis
from_incoming : {p : ℕ} {is : List Incoming} {v : Value} → From p is v → incoming_for p is ≡ ok v
unfolding incoming_for
from_incoming {p} (From.here {i = i} h) = rw (eq-eqb i.label p h) refl
from_incoming {p} (From.later {i = i} h r) = rw (ne_eqb i.label p h) (from_incoming r)

incoming_from_lem : (p : ℕ) (is : List Incoming) (v : Value) → incoming_for p is ≡ ok v → From p is v
unfolding incoming_for
incoming_from_lem p [] v e = err_no_ok _ v e
incoming_from_lem p (i ∷ is) v e = go (eqb i.label p) refl e (λ h. incoming_from_lem p is v h)
  where
    go : (b : Bool) → eqb i.label p ≡ b → cond b (ok i.val) (incoming_for p is) ≡ ok v → (incoming_for p is ≡ ok v → From p is v) → From p (i ∷ is) v
    go true h e rest = subst (λ z. From p (i ∷ is) z) (ok_same e) (From.here (eqb-true i.label p h))
    go false h e rest = From.later (eqb-false i.label p h) (rest e)

-- what stands in front of an instruction that is no phi
other_leads : {s : Shape} (dest : Option ℕ) (rest : List Phi) → Other s → lead_step dest s rest ≡ []
unfolding lead_step
other_leads dest rest Other.alloca = refl
other_leads dest rest Other.call = refl
other_leads dest rest Other.cmpxchg = refl
other_leads dest rest Other.plain = refl

module _ (g : Given) (σ : Source) (p : ℕ) where
  abbrev Takes : List Phi → Result Env
  Takes qs = take_phis g.world p qs σ.env

  enters_go : {is : List Inst} → Enters g σ p is → Going (Takes (leading is))
  unfolding leading lead_step take_phis
  enters_go Enters.end = (σ.env, refl)
  enters_go (Enters.other {i = i} {is = is} h) = rw (other_leads i.dest (leading is) h) (σ.env, refl)
  enters_go (Enters.phi h f s r rest) = rw h (onward _ (from_incoming f) (onward _ (scalar_width s) (onward _ (reads_value g σ r) (onward _ (enters_go rest).1 (_, refl)))))

  gone_enters : (is : List Inst) (ρ : Env) → Takes (leading is) ≡ ok ρ → Enters g σ p is
  unfolding leading lead_step take_phis
  gone_enters [] ρ e = Enters.end
  gone_enters (i ∷ is) ρ e = go (shape i.kind) refl e (λ τ h. gone_enters is τ h)
    where
      other : {s : Shape} → shape i.kind ≡ s → Other s → Enters g σ p (i ∷ is)
      other h o = let k : Other (shape i.kind) = rw h o in Enters.other k

      go : (s : Shape) → shape i.kind ≡ s → Takes (lead_step i.dest s (leading is)) ≡ ok ρ → ((τ : Env) → Takes (leading is) ≡ ok τ → Enters g σ p is) → Enters g σ p (i ∷ is)
      go (Shape.phi ty incoming) h e rest =
          let (v, a, e₁) = bind_ok (incoming_for p incoming) _ ρ e in
          let (w, b, e₂) = bind_ok (width_of ty) _ ρ e₁ in
          let (x, c, e₃) = bind_ok (value g.world σ.env w v) _ ρ e₂ in
          let (τ, d, e₄) = bind_ok (Takes (leading is)) _ ρ e₃ in
          Enters.phi h (incoming_from_lem p incoming v a) (width_scalar ty w b) (value_reads g σ w v x c) (rest τ d)
      go (Shape.alloca ty count) h e rest = other h Other.alloca
      go (Shape.call callee) h e rest = other h Other.call
      go Shape.cmpxchg h e rest = other h Other.cmpxchg
      go Shape.plain h e rest = other h Other.plain

  -- ---- edges
  edge_go : (b : ℕ) → Edge g σ p b → Going (edge g p b σ)
  unfolding edge
  edge_go b (bb, h, r) = onward _ (ok_or_ok _ h) (onward _ (enters_go r).1 (_, refl))

  gone_edge : (b : ℕ) (t : Stand) → edge g p b σ ≡ ok t → Edge g σ p b
  unfolding edge
  gone_edge b t e =
      let (bb, h, e₁) = bind_ok (block_named g b) _ t e in
      let (ρ, k, e₂) = bind_ok (Takes (leading bb.insts)) _ t e₁ in
      (bb, ok_or_some _ (find (λ (k : BasicBlock). k.label) b g.function.blocks) bb h, gone_enters bb.insts ρ k)

-- ---- switches
chooses_case : {w x d b : ℕ} {ks : List Case} → Chooses w x d ks b → case_for w x d ks ≡ ok b
unfolding case_for
chooses_case Chooses.default = refl
chooses_case {w} {x} (Chooses.this {k = k} r h) = bind_step _ _ (range_constant w k.value r) (rw (eq-eqb x (k.value % 2 ^ w) h) refl)
chooses_case {w} {x} (Chooses.later {k = k} r h rest) = bind_step _ _ (range_constant w k.value r) (rw (ne_eqb x (k.value % 2 ^ w) h) (chooses_case rest))

case_chooses : (w x d b : ℕ) (ks : List Case) → case_for w x d ks ≡ ok b → Chooses w x d ks b
unfolding case_for
case_chooses w x d b [] e = subst (λ z. Chooses w x d [] z) (ok_same e) Chooses.default
case_chooses w x d b (k ∷ ks) e =
    let (y, h, e₁) = bind_ok (constant w k.value) _ b e in
    let (r, v) = constant_range w k.value y h in
    go r (eqb x (k.value % 2 ^ w)) refl (rw (← v) at e₁) (λ i. case_chooses w x d b ks i)
  where
    go : InRange w k.value → (t : Bool) → eqb x (k.value % 2 ^ w) ≡ t → cond t (ok k.label) (case_for w x d ks) ≡ ok b → (case_for w x d ks ≡ ok b → Chooses w x d ks b) → Chooses w x d (k ∷ ks) b
    go r true h e rest = subst (λ z. Chooses w x d (k ∷ ks) z) (ok_same e) (Chooses.this r (eqb-true x (k.value % 2 ^ w) h))
    go r false h e rest = Chooses.later r (eqb-false x (k.value % 2 ^ w) h) (rest e)

-- ---- terminators
none_is : (r : Option ℕ) → is_none r ≡ true → r ≡ none
unfolding is_none
none_is none e = refl
none_is (some w) e = absurd (false≢true e)

width_is : (w : ℕ) (r : Option ℕ) → same_width w r ≡ true → r ≡ some w
unfolding same_width
width_is w none e = absurd (false≢true e)
width_is w (some v) e = ap {B = Option ℕ} some (sym (eqb-true w v e))

positive : (t : ℕ) → (t ≡ 0 → ⊥) → 0 < t
positive zero n = absurd (n refl)
positive (suc t) n = omega arith

module _ (g : Given) (σ : Source) (p : ℕ) where
  abbrev Reading : (w : ℕ) → Value → Result ℕ
  Reading w v = value g.world σ.env w v

  pub term_goes : {t : Terminator} → GoesTerm g σ p t → Going (run_term g p t σ)
  unfolding run_term run_br returns is_none same_width
  term_goes (GoesTerm.ret_void a) = onward _ (answers_width a) (onward _ (bind_step _ _ (need_ok Stop.ill_formed refl) refl) (_, refl))
  term_goes (GoesTerm.ret {w = w} a s r) = onward _ (answers_width a) (onward _ (bind_step _ _ (scalar_width s) (bind_step _ _ (need_ok Stop.ill_formed (eq-eqb w w refl)) (reads_value g σ r))) (_, refl))
  term_goes (GoesTerm.jump {t = t} e) = edge_go g σ p t e
  term_goes (GoesTerm.br_true {t = t} {f = f} {n = n} r h e) = onward _ (ok_or_ok _ refl) (onward _ (reads_value g σ r) (rw (ne_eqb n 0 (λ z. absurd (omega arith))) (edge_go g σ p t e)))
  term_goes (GoesTerm.br_false {t = t} {f = f} r e) = onward _ (ok_or_ok _ refl) (onward _ (reads_value g σ r) (edge_go g σ p f e))
  term_goes (GoesTerm.switch {b = b} s r c e) = onward _ (integer_width_lem s) (onward _ (reads_value g σ r) (onward _ (chooses_case c) (edge_go g σ p b e)))

  gone_ret : (r : Option ℕ) (v : Option TypedVal) (n : ℕ) → Answers g.function.ret_ty r → returns g r v σ ≡ ok n → GoesTerm g σ p (Terminator.ret v)
  unfolding returns
  gone_ret r none n a e = let h = (untested _ _ _ n e).0 in GoesTerm.ret_void (rw (none_is r h) at a)
  gone_ret r (some v) n a e =
      let (w, h, e₁) = bind_ok (width_of v.ty) _ n e in
      let (k, e₂) = untested _ _ _ n e₁ in
      GoesTerm.ret (rw (width_is w r k) at a) (width_scalar v.ty w h) (value_reads g σ w v.val n e₂)

  gone_br : (c : Option Value) (t : ℕ) (f : Option ℕ) (s : Stand) → run_br g p c t f σ ≡ ok s → GoesTerm g σ p (Terminator.br c t f)
  unfolding run_br ok_or bind
  gone_br none t f s e = GoesTerm.jump (gone_edge g σ p t s e)
  gone_br (some c) t none s e = err_no_ok _ s e
  gone_br (some c) t (some f) s e = let (n, k, e₁) = bind_ok (Reading 1 c) _ s e in go n (eqb n 0) refl (value_reads g σ 1 c n k) e₁
    where
      go : (n : ℕ) (z : Bool) → eqb n 0 ≡ z → Reads g σ 1 c n → cond z (edge g p f σ) (edge g p t σ) ≡ ok s → GoesTerm g σ p (Terminator.br (some c) t (some f))
      go n true z r e = GoesTerm.br_false (rw (eqb-true n 0 z) at r) (gone_edge g σ p f s e)
      go n false z r e = GoesTerm.br_true r (positive n (eqb-false n 0 z)) (gone_edge g σ p t s e)

  pub gone_term : (t : Terminator) (s : Stand) → run_term g p t σ ≡ ok s → GoesTerm g σ p t
  unfolding run_term
  gone_term (Terminator.ret v) s e =
      let (r, h, e₁) = bind_ok (result_width g.function.ret_ty) _ s e in
      let (n, k, e₂) = bind_ok (returns g r v σ) _ s e₁ in
      gone_ret r v n (width_answers g.function.ret_ty r h) k
  gone_term (Terminator.br c t f) s e = gone_br c t f s e
  gone_term (Terminator.switch ty c d ks) s e =
      let (w, h, e₁) = bind_ok (integer_width ty) _ s e in
      let (n, i, e₂) = bind_ok (Reading w c) _ s e₁ in
      let (b, j, e₃) = bind_ok (case_for w n d ks) _ s e₂ in
      GoesTerm.switch (width_integer ty w h) (value_reads g σ w c n i) (case_chooses w n d b ks j) (gone_edge g σ p b s e₃)
  gone_term Terminator.unreachable s e = err_no_ok _ s e

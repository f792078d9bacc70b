-- A call goes on exactly where its arguments and its callee can be read, its shape fits, and its reply can be received.
use Rattle.std.specs.Prelude.{ℕ, ◌^◌, ◌<◌, ◌≡◌, Bool, true, false, cond, ◌||◌, eqb, ltb, length}
use Rattle.std.proofs.Math.Path.{refl, subst}
use Rattle.std.proofs.Common.{inl, inr, ltb-true, eqb-true, lt-ltb, eq-eqb}
use Rattle.std.proofs.lemmas.Bool.{false≢true}
use Rattle.std.proofs.Math.Option.{Option, none, some}
use mathlib.Core.List.{List, [], ◌∷◌}
use Rattle.names.specs.Name.{name_at}
use Rattle.names.specs.Spelling.{is_syscall, is_bcmp, is_memcmp}
use Rattle.names.specs.Tests.{both, or_right}
use Rattle.book.specs.Ast.{Ty, Value, TypedVal}
use Rattle.book.specs.Limits.{Each}
use Rattle.book.specs.Result.{ok, err_no_ok, bind_ok, bind_step}
use Rattle.machine.specs.State.{Target, Shape, World, memcmp, shape_of, printed_name}
use Rattle.manual.specs.Stop.{Stop}
use Rattle.manual.specs.State.{Given, Source, put}
use Rattle.manual.specs.Operand.{value, typed, typeds}
use Rattle.manual.specs.Call.{result_width, listed_as, has_width, same_test, shaped, fits_shape, fitting, receive, target_of, reply_to, run_call}
use Rattle.manual.specs.Goes.{Scalar, Answers, Typed, Callee, Replies, Shaped, Receives}
use Rattle.manual.specs.Going.{ok_same, Going, onward, need_ok}
use Rattle.manual.specs.Exact.{untested, reads_value, value_reads, typed_value, value_typed}

-- ---- results
pub answers_width : {ty : Ty} {r : Option ℕ} → Answers ty r → result_width ty ≡ ok r
unfolding result_width
answers_width Answers.void = refl
answers_width (Answers.value Scalar.int) = refl
answers_width (Answers.value Scalar.ptr) = refl

pub width_answers : (ty : Ty) (r : Option ℕ) → result_width ty ≡ ok r → Answers ty r
unfolding result_width
width_answers Ty.void r e = rw (← ok_same e) Answers.void
width_answers (Ty.int w) r e = rw (← ok_same e) (Answers.value Scalar.int)
width_answers Ty.ptr r e = rw (← ok_same e) (Answers.value Scalar.ptr)
width_answers (Ty.sizeless s) r e = err_no_ok _ r e
width_answers (Ty.array p n t) r e = err_no_ok _ r e
width_answers (Ty.named_struct x) r e = err_no_ok _ r e
width_answers (Ty.struct p ts) r e = err_no_ok _ r e

-- ---- shapes
replies_test : {b : Bool} {r : Option ℕ} → Replies b r → same_test b (has_width r) ≡ true
unfolding same_test has_width
replies_test Replies.with = refl
replies_test Replies.without = refl

test_replies : (b : Bool) (r : Option ℕ) → same_test b (has_width r) ≡ true → Replies b r
unfolding same_test has_width
test_replies true (some w) e = Replies.with
test_replies false none e = Replies.without
test_replies true none e = absurd (false≢true e)
test_replies false (some w) e = absurd (false≢true e)

shaped_test : {world : World} {t : Target} {n : ℕ} {r : Option ℕ} → Shaped world t n r → fits_shape world t n r ≡ true
unfolding fits_shape shaped
shaped_test (Shaped.syscall {s = s} {n = n} h a b) = rw (h, eq-eqb n s.args a) (replies_test b)
shaped_test Shaped.function = refl
shaped_test Shaped.address = refl

test_shaped : (world : World) (t : Target) (n : ℕ) (r : Option ℕ) → fits_shape world t n r ≡ true → Shaped world t n r
unfolding fits_shape shaped
test_shaped world (Target.syscall t) n r e = go (shape_of world t) refl e
  where
    go : (s : Option Shape) → shape_of world t ≡ s → shaped s n r ≡ true → Shaped world (Target.syscall t) n r
    go none h e = absurd (false≢true e)
    go (some s) h e = let (a, b) = both (eqb n s.args) (same_test s.replies (has_width r)) e in Shaped.syscall h (eqb-true n s.args a) (test_replies s.replies r b)
test_shaped world (Target.function x) n r e = Shaped.function
test_shaped world (Target.address a) n r e = Shaped.address

-- ---- replies
receives_go : {r dest : Option ℕ} {c : ℕ} (σ : Source) → Receives r dest c → Going (receive r dest c σ)
unfolding receive fitting
receives_go σ Receives.nothing = (σ, refl)
receives_go σ (Receives.value {w = w} {c = c} {dest = dest} h) = (put dest w c σ, rw (lt-ltb c (2 ^ w) h) refl)

gone_receives : (r dest : Option ℕ) (c : ℕ) (σ τ : Source) → receive r dest c σ ≡ ok τ → Receives r dest c
unfolding receive fitting
gone_receives none none c σ τ e = Receives.nothing
gone_receives none (some x) c σ τ e = err_no_ok _ τ e
gone_receives (some w) dest c σ τ e = Receives.value (fits (ltb c (2 ^ w)) (put dest w c σ) refl e)
  where
    fits : (b : Bool) (υ : Source) → ltb c (2 ^ w) ≡ b → fitting b υ ≡ ok τ → c < 2 ^ w
    fits true υ h e = ltb-true c (2 ^ w) h
    fits false υ h e = err_no_ok _ τ e

module _ (g : Given) (σ : Source) where
  -- ---- callees
  callee_target : {v : Value} {t : Target} → Callee g σ v t → target_of g σ.env v ≡ ok t
  unfolding target_of listed_as
  callee_target (Callee.syscall h) = rw h refl
  callee_target (Callee.compare {x = x} h (inl k)) = rw (h, k) refl
  callee_target (Callee.compare {x = x} h (inr k)) = rw (h, or_right (is_bcmp (name_at g.names x)) (is_memcmp (name_at g.names x)) k) refl
  callee_target (Callee.function h k l) = rw (h, k, l) refl
  callee_target (Callee.address r) = bind_step _ _ (reads_value g σ r) refl

  listed_callee : (x : ℕ) (a b c : Bool) → is_syscall (name_at g.names x) ≡ a → is_bcmp (name_at g.names x) ≡ b → is_memcmp (name_at g.names x) ≡ c
      → Callee g σ (Value.global x) (cond a (Target.syscall (printed_name (name_at g.names x))) (cond (b || c) (Target.syscall memcmp) (Target.function x)))
  listed_callee x true b c h k l = Callee.syscall h
  listed_callee x false true c h k l = Callee.compare h (inl k)
  listed_callee x false false true h k l = Callee.compare h (inr l)
  listed_callee x false false false h k l = Callee.function h k l

  target_callee : (v : Value) (t : Target) → target_of g σ.env v ≡ ok t → Callee g σ v t
  unfolding target_of listed_as
  target_callee (Value.global x) t e = subst (λ k. Callee g σ (Value.global x) k) (ok_same e) (listed_callee x _ _ _ refl refl refl)
  target_callee (Value.local x) t e =
      let (a, h, k) = bind_ok (value g.world σ.env 64 (Value.local x)) _ t e in
      subst (λ k. Callee g σ (Value.local x) k) (ok_same k) (Callee.address (value_reads g σ 64 (Value.local x) a h))
  target_callee (Value.int v) t e = err_no_ok _ t e
  target_callee (Value.zero z) t e = err_no_ok _ t e
  target_callee Value.other t e = err_no_ok _ t e

  -- ---- arguments
  args_go : (vs : List TypedVal) → Each (Typed g σ) vs → Going (typeds g.world σ.env vs)
  unfolding typeds
  args_go [] h = ([], refl)
  args_go (v ∷ vs) (h, hs) = onward _ (typed_value g σ {v = v} h).1 (onward _ (args_go vs hs).1 (_, refl))

  gone_args : (vs : List TypedVal) (xs : List ℕ) → typeds g.world σ.env vs ≡ ok xs → Each (Typed g σ) vs
  unfolding typeds
  gone_args [] xs e = tt
  gone_args (v ∷ vs) xs e =
      let (y, h, e₁) = bind_ok (typed g.world σ.env v.ty v.val) _ xs e in
      let (ys, k, e₂) = bind_ok (typeds g.world σ.env vs) _ xs e₁ in
      (value_typed g σ v y h, gone_args vs ys k)

  -- ---- a call
  pub call_go : {dest : Option ℕ} {ty : Ty} {callee : Value} (args : List TypedVal) {t : Target} {r : Option ℕ} → Each (Typed g σ) args → Callee g σ callee t → Answers ty r
      → Shaped g.world t (length args) r → Receives r dest (reply_to g σ.calls).cell → Going (run_call g dest ty callee args σ)
  unfolding run_call
  call_go args a c w s r =
      onward _ (args_go args a).1 (onward _ (callee_target c) (onward _ (answers_width w) (onward _ (need_ok Stop.syscall_shape (shaped_test s)) (receives_go _ r))))

  pub record Called (dest : Option ℕ) (ty : Ty) (callee : Value) (args : List TypedVal) : Type 0 where
    pub typed : Each (Typed g σ) args
    pub target : Target
    pub result : Option ℕ
    pub calls : Callee g σ callee target
    pub answers : Answers ty result
    pub shape : Shaped g.world target (length args) result
    pub receives : Receives result dest (reply_to g σ.calls).cell

  pub gone_call : (dest : Option ℕ) (ty : Ty) (callee : Value) (args : List TypedVal) (τ : Source) → run_call g dest ty callee args σ ≡ ok τ → Called dest ty callee args
  unfolding run_call
  gone_call dest ty callee args τ e =
      let (xs, a, e₁) = bind_ok (typeds g.world σ.env args) _ τ e in
      let (t, b, e₂) = bind_ok (target_of g σ.env callee) _ τ e₁ in
      let (r, c, e₃) = bind_ok (result_width ty) _ τ e₂ in
      let (d, e₄) = untested _ _ _ τ e₃ in
      record {
        typed = gone_args args xs a;
        target = t;
        result = r;
        calls = target_callee callee t b;
        answers = width_answers ty r c;
        shape = test_shaped g.world t (length args) r d;
        receives = gone_receives r dest _ _ τ e₄;
      }

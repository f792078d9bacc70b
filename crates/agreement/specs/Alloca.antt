-- `alloca`: a fixed place is the frame's base and an offset, a varying one moves the stack pointer.
use Prim.Native.Nat.{ℕ, zero, ◌+◌, ◌-◌, ◌*◌, ◌%◌, ◌^◌, ◌<◌, ◌≤◌, max}
use Rattle.std.specs.Prelude.{◌≡◌, true, not, List, [], ◌∷◌, ◌++◌, eqb}
use Rattle.std.proofs.Math.Path.{refl, sym, ap, subst}
use Rattle.std.proofs.Common.{◌∙◌, mul-one}
use Rattle.std.proofs.Math.Option.{Option, none, some}
use native.Mathlib.Omega.{arith}
use Rattle.std.proofs.Math.Nat.{mod-eq_of_lt, add-zero, add-mod, mod-mod}
use Rattle.std.specs.Int.Bits.{bit_and, and_le_l}
use borrow.Author.Tests.{eqb-true, not-false}
use Rattle.numbers.specs.Width.{mask_to_width, mask_low}
use Rattle.numbers.specs.Wrap.{wrap_add_right, wrap_mul_left, wrap_mul_right}
use Rattle.book.specs.Ast.{Ty, Value, TypedVal, BinOp}
use Rattle.book.specs.Result.{ok, bind, ok_or, err_no_ok}
use Rattle.layout.specs.Layout.{size_of}
use Rattle.layout.specs.Step.{const_int}
use Rattle.assembly.specs.Line.{Line, Work}
use Rattle.machine.specs.State.{Frame, set_sp}
use Rattle.machine.specs.Values.{word_op}
use Rattle.machine.specs.Line.{goes, does}
use Rattle.lowering.specs.Gen.{◌>>=◌, ◌>>◌, when}
use Rattle.lowering.specs.Operand.{push_int, push_value, add64, mul64, store_dest}
use Rattle.lowering.specs.Memory.{align_or, push_count, gen_dynamic_alloca, fixed_place, place_of, gen_alloca}
use Rattle.manual.specs.Stop.{Stop}
use Rattle.manual.specs.State.{Source, is_set}
use Rattle.manual.specs.Operand.{value, typed}
use Rattle.manual.specs.Inst.{place_above, run_fixed, stated, count_in, run_varying, run_place, run_alloca}
use Rattle.agreement.specs.Holds.{ok_same, Holds, H-ok, H-err, H-bind, H-eq, H-known, H-need, H-map}
use Rattle.agreement.specs.Gives.{Gives, G-line, G-put, G-refuse, G-then, G-bind, G-when, G-map, G-all, G-self}
use Rattle.agreement.specs.Lists.{none_some}
use Rattle.agreement.specs.Setup.{Setup, ctx, given}
use Rattle.agreement.specs.Reach.{Runs, runs_nil, run_line, seq, ◌⊳◌, doing}
use Rattle.agreement.specs.Relation.{Rel, Apart, rel_stack}
use Rattle.agreement.specs.Operand.{Sound, fits_mod, Pushes, ValueOk, value_ok_lem, then_ends, dest_ok}
use Rattle.agreement.specs.Extend.{Leaves}
use Rattle.agreement.specs.Instr.{H-typed, StepOk}
use Rattle.book.specs.Map.{lookup}
use Rattle.layout.specs.Frame.{count_of, framed}

-- a count's type is one of the book
abbrev pub SoundCount : Option TypedVal → Type 0
SoundCount none = Unit {0}
SoundCount (some tv) = Sound tv.ty

module _ (s : Setup) where
  -- ---- sums and products of 64 bits
  pub add_does : (e : Frame) (o : List ℕ) (a b : ℕ) → doing s (Line.bin BinOp.add Work.w64) e (b ∷ a ∷ o) ≡ goes e ((a + b) % 2 ^ 64 ∷ o)
  unfolding does word_op
  add_does e o a b = rw (← add-mod a b (2 ^ 64)) refl

  pub mul_does : (e : Frame) (o : List ℕ) (a b : ℕ) → doing s (Line.bin BinOp.mul Work.w64) e (b ∷ a ∷ o) ≡ goes e (a * b % 2 ^ 64 ∷ o)
  unfolding does word_op
  mul_does e o a b = rw (wrap_mul_left 64 a (b % 2 ^ 64), wrap_mul_right 64 a b) refl

  -- `push_int` at 64
  pub push_does : (e : Frame) (o : List ℕ) (n : ℕ) → doing s (Line.push (mask_to_width n 64)) e o ≡ goes e (n % 2 ^ 64 ∷ o)
  unfolding does
  push_does e o n = rw (mask_low n 64 (omega arith)) refl

  -- ---- fixed places
  fixed_lines : (off : ℕ) → Gives (fixed_place (ctx s) off) (λ L. (σ : Source) (e : Frame) (o : List ℕ) → Rel s σ e → framed s.frame ≡ true → Runs s L e o e ((s.base + off) % 2 ^ 64 ∷ o))
  unfolding fixed_place push_int add64 does
  fixed_lines off = G-put _ _ (G-when (not (eqb off 0)) _
      (λ t. G-put _ _ (G-line _ λ σ e o r f. ◌⊳◌ s {e₁ = e} {o₁ = s.base ∷ o} (rw (r.stack.kept f) refl) (◌⊳◌ s (push_does e _ off) (run_line s (add_does e o s.base (off % 2 ^ 64) ∙ rw (wrap_add_right 64 s.base off) refl)))))
      (λ t σ e o r f. let z : off ≡ 0 = eqb-true off 0 (not-false (eqb off 0) t) in
      rw (z, add-zero, mod-eq_of_lt r.stack.base_fits) (run_line s {e' = e} {o' = s.base ∷ o} (rw (r.stack.kept f) refl))))

  -- ---- varying places
  place_lt : (sp a : ℕ) → place_above sp a < 2 ^ 64
  unfolding place_above
  place_lt sp a = let h = and_le_l ((sp + (max a 8 - 1)) % 2 ^ 64) (2 ^ 64 - max a 8) in let k = fits_mod (sp + (max a 8 - 1)) 64 in omega arith

  and_does : (e : Frame) (o : List ℕ) (a b : ℕ) → a < 2 ^ 64 → b < 2 ^ 64 → doing s (Line.bin BinOp.and Work.w64) e (b ∷ a ∷ o) ≡ goes e (bit_and a b ∷ o)
  unfolding does word_op
  and_does e o a b h k = rw (mod-eq_of_lt {n = a} {m = 2 ^ 64} h, mod-eq_of_lt {n = b} {m = 2 ^ 64} k) refl

  align_same : (align : Option ℕ) (ty : Ty) → align_or (ctx s) align ty ≡ stated (given s) align ty
  unfolding align_or stated
  align_same none ty = refl
  align_same (some a) ty = refl

  -- a count that varies is pushed at any width alike
  varying_value : (v : Value) → const_int v ≡ none → Gives (push_value (ctx s) v 64) (λ L. (w : ℕ) → w ≤ 64 → ValueOk s w v L)
  unfolding push_value const_int
  varying_value (Value.local x) h = G-all λ w. G-all λ l. value_ok_lem s w (Value.local x) l
  varying_value (Value.zero z) h = G-all λ w. G-all λ l. value_ok_lem s w (Value.zero z) l
  varying_value (Value.global x) h = G-all λ w. G-all λ l. value_ok_lem s w (Value.global x) l
  varying_value Value.other h = G-refuse 3
  varying_value (Value.int v) h = none_some v (sym h)

  -- the count, times the size
  scaled : (size : ℕ) → Gives (when (not (eqb size 1)) (push_int size 64 >> mul64)) (λ L. (n : ℕ) → (k : ℕ) × Leaves s n k L × (k % 2 ^ 64 ≡ n * size % 2 ^ 64))
  unfolding push_int mul64
  scaled size = G-when (not (eqb size 1)) _
      (λ t. G-put _ _ (G-line _ λ n. (
        n * (size % 2 ^ 64) % 2 ^ 64,
        (λ e o. ◌⊳◌ s (push_does e _ size) (run_line s (mul_does e o n (size % 2 ^ 64)))),
        mod-mod (n * (size % 2 ^ 64)) (2 ^ 64) ∙ wrap_mul_right 64 n size,
      )))
      (λ t n. let z : size ≡ 1 = eqb-true size 1 (not-false (eqb size 1) t) in (n, (λ e o. runs_nil s), rw (z, mul-one) refl))

  rounded : (sp a : ℕ) → sp < 2 ^ 64 → (e : Frame) (o : List ℕ) → e.sp ≡ sp
      → Runs s (Line.thread_get ∷ Line.push (mask_to_width (max a 8 - 1) 64) ∷ Line.bin BinOp.add Work.w64 ∷ Line.push (mask_to_width (2 ^ 64 - max a 8) 64) ∷ Line.bin BinOp.and Work.w64 ∷ Line.dup ∷ []) e o
      e (place_above sp a ∷ place_above sp a ∷ o)
  unfolding does place_above
  rounded sp a l e o h =
      let m : ℕ = 2 ^ 64 - max a 8 in
      let k : m < 2 ^ 64 = omega arith in
      let t : ℕ = (sp + (max a 8 - 1)) % 2 ^ 64 in
      ◌⊳◌ s {e₁ = e} {o₁ = sp ∷ o} (rw h refl) (◌⊳◌ s (push_does e _ (max a 8 - 1)) (
      ◌⊳◌ s {e₁ = e} {o₁ = t ∷ o} (add_does e o sp ((max a 8 - 1) % 2 ^ 64) ∙ rw (wrap_add_right 64 sp (max a 8 - 1)) refl) (
      ◌⊳◌ s {e₁ = e} {o₁ = m ∷ t ∷ o} (push_does e _ m ∙ rw (mod-eq_of_lt {n = m} {m = 2 ^ 64} k) refl) (
      ◌⊳◌ s (and_does e o t m (fits_mod (sp + (max a 8 - 1)) 64) k) (run_line s refl)))))

  -- the lines of a varying place push its address and move the stack pointer behind it
  abbrev PlaceOk : Ty → TypedVal → Option ℕ → List Line → Type 0
  PlaceOk ty tv align L =
      (size a : ℕ) → size_of s.codegen.structs ty ≡ ok size → stated (given s) align ty ≡ ok a → (w : ℕ) → w ≤ 64 → (σ : Source) (e : Frame) (o : List ℕ) → Rel s σ e
      → Holds (value s.world σ.env w tv.val) (λ n. Runs s L e o (set_sp e ((place_above σ.sp a + n * size) % 2 ^ 64)) (place_above σ.sp a ∷ o))

  place_runs : (σ : Source) (e : Frame) (o : List ℕ) → Rel s σ e → (a size n w : ℕ) (A B : List Line) → Pushes s A e w n
      → (k : ℕ) × Leaves s n k B × (k % 2 ^ 64 ≡ n * size % 2 ^ 64)
      → Runs s (Line.thread_get ∷ Line.push (mask_to_width (max a 8 - 1) 64) ∷ Line.bin BinOp.add Work.w64 ∷ Line.push (mask_to_width (2 ^ 64 - max a 8) 64) ∷ Line.bin BinOp.and Work.w64 ∷ Line.dup
      ∷ (A ++ (B ++ (Line.bin BinOp.add Work.w64 ∷ Line.thread_set ∷ [])))) e o (set_sp e ((place_above σ.sp a + n * size) % 2 ^ 64)) (place_above σ.sp a ∷ o)
  unfolding does
  place_runs σ e o r a size n w A B q (k, leaves, ek) =
      let p : ℕ = place_above σ.sp a in
      let sum : (p + k) % 2 ^ 64 ≡ (p + n * size) % 2 ^ 64 = sym (wrap_add_right 64 p k) ∙ ap (λ (x : ℕ). (p + x) % 2 ^ 64) ek ∙ wrap_add_right 64 p (n * size) in
      seq s (rounded σ.sp a r.stack.sp_fits e o r.stack.sp_eq) (seq s (q.pushes _) (seq s (leaves e _)
      (◌⊳◌ s {e₁ = e} {o₁ = (p + n * size) % 2 ^ 64 ∷ p ∷ o} (add_does e (p ∷ o) p k ∙ rw sum refl) (run_line s refl))))

  varying_lines : (ty : Ty) (tv : TypedVal) (align : Option ℕ) → const_int tv.val ≡ none → Gives (gen_dynamic_alloca (ctx s) ty (some tv) align) (PlaceOk ty tv align)
  unfolding gen_dynamic_alloca push_int add64 push_count
  varying_lines ty tv align hv = G-bind _ _ λ size hs. G-bind _ _ λ a ha. G-put _ _ (G-put _ _ (G-put _ _ (G-put _ _ (G-put _ _ (G-put _ _ (
      G-then _ (varying_value tv.val hv) λ A pa. G-then _ (scaled size) λ B pb. G-put _ _ (G-line _ λ size' a' hs' ha' w hw σ e o r.
      let es : size ≡ size' = ok_same (sym hs ∙ hs') in
      let ea : a ≡ a' = ok_same (sym ha ∙ (align_same align ty ∙ ha')) in
      rw (← es, ← ea) (H-map (pa w hw σ e r) λ n q. place_runs σ e o r a size n w A B q (pb n)))))))))

  -- a varying place has no offset, and there is a frame
  abbrev pub Varies : ℕ → Option TypedVal → Type 0
  Varies x count = count_of count ≡ none → (lookup x (ctx s).alloca_offsets ≡ none) × (framed s.frame ≡ true)

  module _ (ap' : Apart s) where
    -- `gen_dynamic_alloca`
    varying_ok : (x : ℕ) (ty : Ty) (tv : TypedVal) (align : Option ℕ) → Sound tv.ty → const_int tv.val ≡ none → framed s.frame ≡ true
        → Gives (gen_dynamic_alloca (ctx s) ty (some tv) align >> store_dest (ctx s) (some x)) (StepOk s (run_varying (given s) x ty (some tv) align))
    unfolding run_varying count_in typed
    varying_ok x ty tv align sound hv hf = G-then _ (varying_lines ty tv align hv) λ L pl. G-map (dest_ok s ap' (some x)) λ B d σ e o r.
        H-eq (size_of s.codegen.structs ty) _ λ size hs. H-eq (stated (given s) align ty) _ λ a ha.
        H-bind {P = λ n. Runs s L e o (set_sp e ((place_above σ.sp a + n * size) % 2 ^ 64)) (place_above σ.sp a ∷ o)} _
        (H-typed tv.ty sound _ (λ w hw. pl size a hs ha w hw σ e o r)) λ n q.
        H-ok _ (then_ends s q (d _ _ (rel_stack s r _ (fits_mod _ 64) hf) 64 (place_above σ.sp a) o (place_lt σ.sp a)))

    fixed_ok : (x : ℕ) (off : ℕ) → lookup x (ctx s).alloca_offsets ≡ some off
        → Gives (fixed_place (ctx s) off >> store_dest (ctx s) (some x)) (StepOk s (run_fixed (given s) x))
    unfolding run_fixed ok_or
    fixed_ok x off h = G-then _ (fixed_lines off) λ L pl. G-map (dest_ok s ap' (some x)) λ B d σ e o r.
        H-need (framed s.frame) Stop.place_empty _ λ f. H-need (not (is_set (σ.env x))) Stop.place_twice _ λ t.
        H-known _ (rw h refl) (H-ok _ (then_ends s (pl σ e o r f) (d σ e r 64 ((s.base + off) % 2 ^ 64) o (fits_mod (s.base + off) 64))))

    fixed_none : (x : ℕ) → lookup x (ctx s).alloca_offsets ≡ none → (L : List Line) → StepOk s (run_fixed (given s) x) L
    unfolding run_fixed ok_or bind
    fixed_none x h L σ e o r = H-need (framed s.frame) Stop.place_empty _ λ f. H-need (not (is_set (σ.env x))) Stop.place_twice _ λ t. rw h (H-err _)

    -- the cases: the offset that the generator finds, the count that the source sees
    place_case : (x : ℕ) (ty : Ty) (count : Option TypedVal) (align : Option ℕ) → SoundCount count → Varies x count
        → (l : Option ℕ) → lookup x (ctx s).alloca_offsets ≡ l → (n : Option ℕ) → count_of count ≡ n
        → Gives (place_of (ctx s) l ty count align >> store_dest (ctx s) (some x)) (StepOk s (run_place (given s) n x ty count align))
    unfolding place_of run_place count_of
    place_case x ty count align sound vary (some off) hl (some n) hn = fixed_ok x off hl
    place_case x ty count align sound vary none hl (some n) hn = G-map (G-self _) λ L m. fixed_none x hl L
    place_case x ty count align sound vary (some off) hl none hn = none_some off (sym (vary hn).0 ∙ hl)
    place_case x ty none align sound vary none hl none hn = none_some 1 (sym hn)
    place_case x ty (some tv) align sound vary none hl none hn = varying_ok x ty tv align sound hn (vary hn).1

    -- `alloca`
    pub alloca_ok : (dest : Option ℕ) (ty : Ty) (count : Option TypedVal) (align : Option ℕ) → SoundCount count → ((x : ℕ) → dest ≡ some x → Varies x count)
        → Gives (gen_alloca (ctx s) dest ty count align) (StepOk s (run_alloca (given s) dest ty count align))
    unfolding gen_alloca run_alloca ok_or
    alloca_ok none ty count align sound vary = G-bind _ _ λ x e. err_no_ok 5 x e
    alloca_ok (some x) ty count align sound vary = G-bind _ _ λ y e. let i : x ≡ y = ok_same e in
        subst (λ z. Gives (place_of (ctx s) (lookup z (ctx s).alloca_offsets) ty count align >> store_dest (ctx s) (some z)) (StepOk s (run_place (given s) (count_of count) x ty count align))) i
        (place_case x ty count align sound (vary x refl) (lookup x (ctx s).alloca_offsets) refl (count_of count) refl)

-- `gen_gep`: the constants add up to one push, the varying indices follow one by one; the sum is the source's offset modulo 2^64.
use Prim.Native.Nat.{ℕ, ◌+◌, ◌*◌, ◌%◌, ◌^◌, ◌<◌}
use Rattle.std.specs.Prelude.{◌≡◌, true, not, eqb, ltb}
use Rattle.std.proofs.Math.Path.{refl, sym, ap, subst}
use Rattle.std.proofs.Common.{◌∙◌, zero-add, add_assoc}
use Rattle.std.proofs.Math.Option.{Option, none, some}
use mathlib.Core.List.{List, [], ◌∷◌, ◌++◌, append_assoc, append-nil}
use native.Mathlib.Omega.{arith}
use Rattle.std.proofs.Math.Nat.{mod-eq_of_lt, add-zero, add-mod, mod-mod, mod-add-mod, add-mod-mod}
use borrow.Author.Tests.{eqb-true, ltb-false, not-false}
use Rattle.numbers.specs.Width.{width_ok}
use Rattle.numbers.specs.Wrap.{wrap_add_right, wrap_mul_right}
use Rattle.book.specs.Ast.{Ty, Value, TypedVal, StructBody, StructType}
use Rattle.book.specs.Result.{ok, bind, ok_or, bind_ok}
use Rattle.layout.specs.Layout.{resolve, size_of, field_offset}
use Rattle.layout.specs.Step.{Step, const_int, field_at, stride, struct_step, gep_step}
use Rattle.machine.specs.Signed.{signed, unsigned}
use Rattle.machine.specs.State.{Frame}
use Rattle.lowering.specs.Gen.{◌>>◌, when, each}
use Rattle.lowering.specs.Operand.{int_width, emit_sext, push_int, add64, mul64}
use Rattle.lowering.specs.Gep.{VarTerm, Walk, start, var_term, took, first_step, walk_rest, walk, gen_var_term, gen_gep}
use Rattle.manual.specs.Stop.{Stop}
use Rattle.manual.specs.Values.{in_signed_range}
use Rattle.manual.specs.State.{Env, Source}
use Rattle.manual.specs.Operand.{width_of, value}
use Rattle.manual.specs.Inst.{eval_gep}
use Rattle.manual.specs.Gep.{index_at, index, over_elements, over_fields, into, offset_in, offset}
use Rattle.agreement.specs.Holds.{ok_same, Holds, H-ok, H-err, H-bind, H-eq, H-known, H-need, H-use}
use Rattle.agreement.specs.Gives.{Gives, G-line, G-put, G-skip, G-then, G-bind, G-when, G-map, G-all}
use Rattle.agreement.specs.Setup.{Setup, ctx, given}
use Rattle.agreement.specs.Reach.{Runs, runs_nil, run_line, seq, ◌⊳◌}
use Rattle.agreement.specs.Relation.{Rel}
use Rattle.agreement.specs.Signed.{same_width}
use Rattle.agreement.specs.Operand.{H-width, Sound, at_most, fits_mod, value_ok_lem, ok_or_any}
use Rattle.agreement.specs.Extend.{Leaves, sext_ok}
use Rattle.agreement.specs.Arith.{Computes}
use Rattle.agreement.specs.Alloca.{add_does, mul_does, push_does}

-- every index has a type of the book
abbrev pub SoundIndices : List TypedVal → Type 0
SoundIndices [] = Unit {0}
SoundIndices (i ∷ is) = Sound i.ty × SoundIndices is

module _ (s : Setup) where
  abbrev structs_of : List StructType
  structs_of = s.codegen.structs

  module _ (ρ : Env) where
    -- the sum that varying terms come to
    abbrev pub Terms : List VarTerm → ℕ → Type 0
    Terms [] k = k ≡ 0
    Terms (t ∷ ts) k =
        (x r : ℕ) × (width_ok t.width ≡ true) × (value s.world ρ t.width t.val ≡ ok x) × Terms ts r × (k ≡ unsigned 64 (signed t.width x) * t.stride + r)

    terms_append : (ts us : List VarTerm) (j k : ℕ) → Terms ts j → Terms us k → Terms (ts ++ us) (j + k)
    terms_append [] us j k e h = rw (e, zero-add) h
    terms_append (t ∷ ts) us j k (x, r, w, v, h, e) g =
        (x, r + k, w, v, terms_append ts us r k h g, (rw e (add_assoc (unsigned 64 (signed t.width x) * t.stride) r k)))

    -- a part of the walk adds a constant and terms that come to the source's offset
    pub record Walked (w w' : Walk) (off : ℕ) : Type 0 where
      more : List VarTerm
      const : ℕ
      sum : ℕ
      terms_eq : w'.var_terms ≡ w.var_terms ++ more
      terms : Terms more sum
      const_eq : w'.const_off % 2 ^ 64 ≡ (w.const_off + const) % 2 ^ 64
      off_eq : off % 2 ^ 64 ≡ (const + sum) % 2 ^ 64

    no_walk : (w : Walk) → Walked w w 0
    no_walk w = record { more = []; const = 0; sum = 0; terms_eq = sym (append-nil w.var_terms); terms = refl; const_eq = rw add-zero refl; off_eq = refl }

    four : (a b c d : ℕ) → a + b + (c + d) ≡ a + c + (b + d)
    four a b c d = omega arith

    walked_then : {w w₁ w₂ : Walk} {a b : ℕ} → Walked w w₁ a → Walked w₁ w₂ b → Walked w w₂ ((a + b) % 2 ^ 64)
    walked_then {w} {w₁} {w₂} {a} {b} p q = record {
      more = p.more ++ q.more;
      const = p.const + q.const;
      sum = p.sum + q.sum;
      terms_eq = q.terms_eq ∙ ap (λ l. l ++ q.more) p.terms_eq ∙ append_assoc w.var_terms p.more q.more;
      terms = terms_append p.more q.more p.sum q.sum p.terms q.terms;
      const_eq = q.const_eq ∙ sym (mod-add-mod w₁.const_off (2 ^ 64) q.const) ∙ ap (λ (x : ℕ). (x + q.const) % 2 ^ 64) p.const_eq
          ∙ mod-add-mod (w.const_off + p.const) (2 ^ 64) q.const ∙ ap (λ (x : ℕ). x % 2 ^ 64) (add_assoc w.const_off p.const q.const);
      off_eq = mod-mod (a + b) (2 ^ 64) ∙ add-mod a b (2 ^ 64) ∙ ap (λ (x : ℕ). (x + b % 2 ^ 64) % 2 ^ 64) p.off_eq ∙ ap (λ (x : ℕ). ((p.const + p.sum) % 2 ^ 64 + x) % 2 ^ 64) q.off_eq
          ∙ sym (add-mod (p.const + p.sum) (q.const + q.sum) (2 ^ 64)) ∙ ap (λ (x : ℕ). x % 2 ^ 64) (four p.const p.sum q.const q.sum);
    }

    -- a constant step
    const_step : (w w' : Walk) (off : ℕ) (next : Ty) (i : TypedVal) → took (Step.const off next) i w ≡ ok w' → Walked w w' off × (next ≡ w'.cur_ty)
    unfolding took
    const_step w w' off next i h =
        subst (λ v. Walked w v off × (next ≡ v.cur_ty)) (ok_same h)
        (record { more = []; const = off; sum = 0; terms_eq = sym (append-nil w.var_terms); terms = refl; const_eq = mod-mod (w.const_off + off) (2 ^ 64); off_eq = rw add-zero refl }, refl)

    -- a step over elements
    element_case : (w w' : Walk) (size : ℕ) (next : Ty) (i : TypedVal) → Sound i.ty → (c : Option ℕ) → took (stride size next c) i w ≡ ok w'
        → Holds (bind (bind (width_of i.ty) (λ v. index_at s.world structs_of ρ v i.val c)) (λ n. ok (n * size % 2 ^ 64))) (λ off. Walked w w' off × (next ≡ w'.cur_ty))
    unfolding stride index_at took var_term
    element_case w w' size next i sound (some c) h =
        H-bind {P = λ n. n ≡ c} _ (H-eq (width_of i.ty) _ λ v hv. H-need (in_signed_range v c) Stop.index_range _ λ t. H-ok _ refl) λ n e.
        rw e (H-ok _ (const_step w w' (c * size % 2 ^ 64) next i h))
    element_case w w' size next i sound none h =
        let (iw, hw, hk) = bind_ok (int_width i.ty) _ w' h in
        H-bind {P = λ n. (x : ℕ) × (value s.world ρ iw i.val ≡ ok x) × (n ≡ unsigned 64 (signed iw x))} _
        (H-width i.ty _ hw (H-eq (value s.world ρ iw i.val) _ λ x hx. H-ok _ (x, hx, refl))) λ n (x, hx, e).
        H-ok _ (subst (λ v. Walked w v (n * size % 2 ^ 64) × (next ≡ v.cur_ty)) (ok_same hk) (
          record {
            more = var_term i iw size ∷ [];
            const = 0;
            sum = n * size + 0;
            terms_eq = refl;
            terms = (x, 0, sound.width iw hw, hx, refl, (rw e refl));
            const_eq = rw add-zero refl;
            off_eq = rw (zero-add, add-zero) (mod-mod (n * size) (2 ^ 64));
          },
          refl,
        ))

    elements_ok : (w w' : Walk) (size : ℕ) (ty next : Ty) (i : TypedVal) → Sound i.ty → size_of structs_of ty ≡ ok size → took (stride size next (const_int i.val)) i w ≡ ok w'
        → Holds (over_elements s.world structs_of ρ ty i) (λ off. Walked w w' off × (next ≡ w'.cur_ty))
    unfolding over_elements index
    elements_ok w w' size ty next i sound hs h = H-known _ hs (element_case w w' size next i sound (const_int i.val) h)

    fields_ok : (w w' : Walk) (body : StructBody) (i : TypedVal) (st : Step) → struct_step structs_of body i.val ≡ ok st → took st i w ≡ ok w'
        → Holds (over_fields s.world structs_of ρ body i) (λ p. Walked w w' p.0 × (p.1 ≡ w'.cur_ty))
    unfolding over_fields struct_step ok_or
    fields_ok w w' body i st h k =
        let (f, hf, h₁) = bind_ok (ok_or 14 (const_int i.val)) _ st h in
        let (next, hn, h₂) = bind_ok (ok_or 14 (field_at body.fields f)) _ st h₁ in
        let (off, ho, h₃) = bind_ok (field_offset structs_of body f) _ st h₂ in
        let e : Step.const off next ≡ st = ok_same h₃ in
        H-eq (index s.world structs_of ρ i) _ λ n hi. H-known _ (ok_or_any 14 _ (const_int i.val) f hf) (H-known _ (ok_or_any 14 _ (field_at body.fields f) next hn) (H-known _ ho (
        H-ok _ (const_step w w' off next i (rw e k)))))

    pub into_ok : (ty : Ty) (i : TypedVal) (w w' : Walk) (st : Step) → Sound i.ty → gep_step structs_of ty i.val ≡ ok st → took st i w ≡ ok w'
        → Holds (into s.world structs_of ρ ty i) (λ p. Walked w w' p.0 × (p.1 ≡ w'.cur_ty))
    unfolding into gep_step
    into_ok (Ty.struct p ts) i w w' st sound h k = fields_ok w w' (record { packed = p; fields = ts }) i st h k
    into_ok (Ty.named_struct x) i w w' st sound h k =
        let (body, hb, h₁) = bind_ok (resolve structs_of x) _ st h in
        H-known _ hb (fields_ok w w' body i st h₁ k)
    into_ok (Ty.array p n elem) i w w' st sound h k =
        let (size, hs, h₁) = bind_ok (size_of structs_of elem) _ st h in
        let e : stride size elem (const_int i.val) ≡ st = ok_same h₁ in
        H-bind _ (elements_ok w w' size elem elem i sound hs (rw e k)) λ off q. H-ok _ q
    into_ok Ty.void i w w' st sound h k = H-err _
    into_ok Ty.ptr i w w' st sound h k = H-err _
    into_ok (Ty.int v) i w w' st sound h k = H-err _
    into_ok (Ty.sizeless z) i w w' st sound h k = H-err _

    rest_ok : (is : List TypedVal) (w w' : Walk) → SoundIndices is → walk_rest structs_of is w ≡ ok w' → Holds (offset_in s.world structs_of ρ w.cur_ty is) (Walked w w')
    unfolding walk_rest offset_in
    rest_ok [] w w' sound h = H-ok _ (subst (λ v. Walked w v 0) (ok_same h) (no_walk w))
    rest_ok (i ∷ is) w w' (so, sound) h =
        let (st, hs, h₁) = bind_ok (gep_step structs_of w.cur_ty i.val) _ w' h in
        let (w₁, ht, h₂) = bind_ok (took st i w) _ w' h₁ in
        H-bind _ (into_ok w.cur_ty i w w₁ st so hs ht) λ p q. rw q.1 (H-bind _ (rest_ok is w₁ w' sound h₂) λ r k. H-ok _ (walked_then q.0 k))

    pub walk_ok : (ty : Ty) (is : List TypedVal) (w : Walk) → SoundIndices is → walk structs_of ty is ≡ ok w → Holds (offset s.world structs_of ρ ty is) (λ off. (k : ℕ) × Terms w.var_terms k × (off % 2 ^ 64 ≡ (w.const_off + k) % 2 ^ 64))
    unfolding walk offset first_step start
    walk_ok ty [] w sound h = H-ok _ (subst (λ (v : Walk). (k : ℕ) × Terms v.var_terms k × (0 ≡ (v.const_off + k) % 2 ^ 64)) (ok_same h) (0, refl, refl))
    walk_ok ty (i ∷ is) w (so, sound) h =
        let (st, hs, h₁) = bind_ok (bind (size_of structs_of ty) (λ size. ok (stride size ty (const_int i.val)))) _ w h in
        let (size, hz, hs') = bind_ok (size_of structs_of ty) _ st hs in
        let (w₁, ht, h₂) = bind_ok (took st i (start ty)) _ w h₁ in
        let e : stride size ty (const_int i.val) ≡ st = ok_same hs' in
        H-bind _ (elements_ok (start ty) w₁ size ty ty i so hz (rw e ht)) λ a q. rw q.1 (
        H-bind _ (rest_ok is w₁ w sound h₂) λ b r.
        let p = walked_then q.0 r in
        H-ok _ (
          p.sum,
          subst (λ l. Terms l p.sum) (sym p.terms_eq) p.terms,
          (p.off_eq ∙ sym (mod-add-mod p.const (2 ^ 64) p.sum) ∙ ap (λ (x : ℕ). (x + p.sum) % 2 ^ 64) (ap (λ (x : ℕ). x % 2 ^ 64) (sym (zero-add p.const)) ∙ sym p.const_eq) ∙ mod-add-mod w.const_off (2 ^ 64) p.sum),
        ))

  -- ---- the lines
  sign_ok : (w : ℕ) → width_ok w ≡ true → (x : ℕ) → x < 2 ^ w → Gives (when (ltb w 64) (emit_sext w 64)) (Leaves s x (unsigned 64 (signed w x)))
  unfolding width_ok
  sign_ok w h x l = G-when (ltb w 64) _ (λ t. sext_ok s x w 64 refl l)
      (λ t e o. let z : w ≡ 64 = (let a = at_most w h in let b = ltb-false w 64 t in omega arith) in
      rw z (rw (same_width 64 x (omega arith) (rw z at l)) (runs_nil s)))

  term_ok : (t : VarTerm) → Gives (gen_var_term (ctx s) t) (λ L. (h : width_ok t.width ≡ true) (σ : Source) (e : Frame) → Rel s σ e → (x : ℕ) → value s.world σ.env t.width t.val ≡ ok x
      → (a : ℕ) (o : List ℕ) → Runs s L e (a ∷ o) e ((a + unsigned 64 (signed t.width x) * t.stride) % 2 ^ 64 ∷ o))
  unfolding gen_var_term push_int add64 mul64
  term_ok t = G-all λ h.
      G-then _ (value_ok_lem s t.width t.val (at_most t.width h)) λ A pa. G-then _ (G-all λ x. G-all λ l. sign_ok t.width h x l) λ B pb. G-put _ _ (G-put _ _ (G-line _ λ σ e r x hx a o.
      let q = H-use x hx (pa σ e r) in
      let z : ℕ = unsigned 64 (signed t.width x) in
      seq s (q.pushes _) (seq s (pb x q.fits e _) (◌⊳◌ s (push_does s e _ t.stride) (◌⊳◌ s {e₁ = e} {o₁ = z * t.stride % 2 ^ 64 ∷ a ∷ o} (mul_does s e _ z (t.stride % 2 ^ 64) ∙ rw (wrap_mul_right 64 z t.stride) refl)
      (run_line s (add_does s e o a (z * t.stride % 2 ^ 64) ∙ rw (wrap_add_right 64 a (z * t.stride)) refl)))))))

  terms_ok : (ts : List VarTerm) → Gives (each (gen_var_term (ctx s)) ts) (λ L. (σ : Source) (e : Frame) → Rel s σ e → (k : ℕ) → Terms σ.env ts k
      → (a : ℕ) (o : List ℕ) → a < 2 ^ 64 → Runs s L e (a ∷ o) e ((a + k) % 2 ^ 64 ∷ o))
  unfolding each
  terms_ok [] = G-skip λ σ e r k h a o l. rw (h, add-zero, mod-eq_of_lt {n = a} {m = 2 ^ 64} l) (runs_nil s)
  terms_ok (t ∷ ts) = G-then _ (term_ok t) λ A pa. G-map (terms_ok ts) λ B pb σ e r k (x, j, w, hx, h, ek) a o l.
      let z : ℕ = unsigned 64 (signed t.width x) * t.stride in
      let sum : ((a + z) % 2 ^ 64 + j) % 2 ^ 64 ≡ (a + k) % 2 ^ 64 = mod-add-mod (a + z) (2 ^ 64) j ∙ ap (λ (y : ℕ). y % 2 ^ 64) (add_assoc a z j ∙ ap (λ (y : ℕ). a + y) (sym ek)) in
      seq s (pa w σ e r x hx a o) (subst (λ y. Runs s B e ((a + z) % 2 ^ 64 ∷ o) e (y ∷ o)) sum (pb σ e r j h ((a + z) % 2 ^ 64) o (fits_mod (a + z) 64)))

  const_ok : (c : ℕ) → Gives (when (not (eqb c 0)) (push_int c 64 >> add64)) (λ L. (e : Frame) (o : List ℕ) (a : ℕ) → a < 2 ^ 64 → Runs s L e (a ∷ o) e ((a + c) % 2 ^ 64 ∷ o))
  unfolding push_int add64
  const_ok c = G-when (not (eqb c 0)) _
      (λ t. G-put _ _ (G-line _ λ e o a l. ◌⊳◌ s (push_does s e _ c) (run_line s (add_does s e o a (c % 2 ^ 64) ∙ rw (wrap_add_right 64 a c) refl))))
      (λ t e o a l. let z : c ≡ 0 = eqb-true c 0 (not-false (eqb c 0) t) in rw (z, add-zero, mod-eq_of_lt {n = a} {m = 2 ^ 64} l) (runs_nil s))

  -- `gen_gep`
  pub gep_ok : (ty : Ty) (p : Value) (is : List TypedVal) → SoundIndices is
      → Gives (gen_gep (ctx s) ty p is) (Computes s 64 (λ σ. eval_gep (given s) σ ty p is))
  unfolding gen_gep eval_gep
  gep_ok ty p is sound = G-bind _ _ λ w hw. G-then _ (value_ok_lem s 64 p (omega arith)) λ A pa. G-then _ (terms_ok w.var_terms) λ B pb. G-map (const_ok w.const_off) λ C pc σ e r.
      H-bind _ (pa σ e r) λ a q. H-bind _ (walk_ok σ.env ty is w sound hw) λ off (k, h, eo).
      let sum : ((a + k) % 2 ^ 64 + w.const_off) % 2 ^ 64 ≡ (a + off) % 2 ^ 64 =
      mod-add-mod (a + k) (2 ^ 64) w.const_off ∙ ap (λ (y : ℕ). y % 2 ^ 64) (turn a k w.const_off) ∙ sym (add-mod-mod a (w.const_off + k) (2 ^ 64)) ∙ ap (λ (y : ℕ). (a + y) % 2 ^ 64) (sym eo) ∙ add-mod-mod a off (2 ^ 64) in
      H-ok _ (record {
        pushes = λ o. seq s (q.pushes o) (seq s (pb σ e r k h a o q.fits) (subst (λ y. Runs s C e ((a + k) % 2 ^ 64 ∷ o) e (y ∷ o)) sum (pc e o ((a + k) % 2 ^ 64) (fits_mod (a + k) 64))));
        fits = fits_mod (a + off) 64;
      })
    where
      turn : (a k c : ℕ) → a + k + c ≡ a + (c + k)
      turn a k c = omega arith

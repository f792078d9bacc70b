-- `gen_bin`, `gen_icmp`, `gen_conv`, `gen_select` and `freeze` push the source's value.
use Prim.Native.Nat.{ℕ, ◌+◌, ◌-◌, ◌%◌, ◌^◌, ◌<◌, ◌≤◌}
use Rattle.std.specs.Prelude.{◌≡◌, refl, Bool, cond, List, ◌∷◌, ◌++◌, eqb}
use Rattle.std.proofs.Math.Path.{sym, subst}
use Rattle.std.proofs.Common.{◌∙◌, mod-eq_of_lt}
use Rattle.std.proofs.Math.Bool.{true, false}
use Rattle.std.proofs.lemmas.Bool.{false≢true}
use Rattle.std.proofs.Math.Option.{some}
use native.Mathlib.Omega.{arith}
use Rattle.std.proofs.Math.Dec.{ltb}
use Rattle.std.proofs.Math.Pow.{pow_mono}
use borrow.Author.Tests.{ltb-true, ltb-false, eqb-true}
use Rattle.numbers.specs.Width.{width_ok, width_each}
use Rattle.book.specs.Ast.{Ty, Value, BinOp, ConvOp, ICmpPred}
use Rattle.book.specs.Result.{Result, ok}
use Rattle.assembly.specs.Line.{Line}
use Rattle.machine.specs.Signed.{signed}
use Rattle.machine.specs.Values.{word_op, word_test, flag}
use Rattle.machine.specs.State.{Frame}
use Rattle.machine.specs.Line.{does, work_width, word}
use Rattle.lowering.specs.Gen.{◌>>=◌, when}
use Rattle.lowering.specs.Operand.{int_width, work_bits, work_of, emit_trunc_to, push_typed}
use Rattle.lowering.specs.Arith.{signed_left, signed_right, signed_pred, emit_conv_op, width_or, gen_bin, gen_icmp, gen_widths, gen_conv, gen_select, gen_freeze}
use Rattle.manual.specs.Stop.{Stop}
use Rattle.manual.specs.Values.{bin_value, icmp_value, conv_value, conv_widths}
use Rattle.manual.specs.State.{Source}
use Rattle.manual.specs.Inst.{eval_bin, eval_icmp, eval_conv, eval_select}
use Rattle.agreement.specs.Holds.{ok_same, Holds, H-ok, H-bind, H-need, H-map, H-cond, clash}
use Rattle.agreement.specs.Gives.{Gives, G-lines, G-line, G-put, G-skip, G-then, G-bind, G-when, G-fresh, G-map, G-all}
use Rattle.agreement.specs.Setup.{Setup, ctx, given}
use Rattle.agreement.specs.Reach.{runs_nil, run_line, seq, ◌⊳◌, Once, run_if}
use Rattle.agreement.specs.Relation.{Rel}
use Rattle.agreement.specs.Signed.{unsigned_fits}
use Rattle.agreement.specs.Widen.{widen, word_lt, pred_widen}
use Rattle.agreement.specs.Operand.{at_most, fits_mod, Pushes, ValueOk, value_ok_lem}
use Rattle.agreement.specs.Extend.{work_width_lem, work_above, Leaves, Worked, trunc_ok, sext_ok, worked_ok}

pub flag_lt : (t : Bool) → cond t 1 0 < 2 ^ 1
flag_lt true = omega arith
flag_lt false = omega arith

module _ (s : Setup) where
  -- lines that push what the source computes at a width
  abbrev pub Computes : (w : ℕ) → (Source → Result ℕ) → List Line → Type 0
  Computes w f L = (σ : Source) (e : Frame) → Rel s σ e → Holds (f σ) (Pushes s L e w)

  -- ---- `gen_bin`
  -- the result of a working width, cut to w
  cut_ok : (w : ℕ) → width_ok w ≡ true → (r : ℕ) → r < 2 ^ work_bits w → Gives (when (ltb w 32) (emit_trunc_to w)) (Leaves s r (r % 2 ^ w))
  unfolding emit_trunc_to work_bits
  cut_ok w h r l =
      let b = work_above w h in
      let k : 2 ^ work_bits w ≤ 2 ^ 64 = pow_mono b.1 in
      G-when (ltb w 32) _
      (λ t. G-lines _ (trunc_ok s r w h (omega arith)))
      (λ t e o. rw (mod-eq_of_lt {n = r} {m = 2 ^ w} (whole w h r t l)) (runs_nil s))
    where
      whole : (w : ℕ) → width_ok w ≡ true → (r : ℕ) → ltb w 32 ≡ false → r < 2 ^ work_bits w → r < 2 ^ w
      whole w h r t l = width_each (λ w. ltb w 32 ≡ false → r < 2 ^ work_bits w → r < 2 ^ w)
          (λ t l. absurd (false≢true (sym t))) (λ t l. absurd (false≢true (sym t))) (λ t l. absurd (false≢true (sym t)))
          (λ t l. l) (λ t l. l) w h t l

  bin_does : (op : BinOp) (w : ℕ) → width_ok w ≡ true → (e : Frame) (x y : ℕ) {A B C D E : List Line} → Pushes s A e w x → Pushes s C e w y → Worked s (signed_left op) w x B → Worked s (signed_right op) w y D
      → ((r : ℕ) → r < 2 ^ work_bits w → Leaves s r (r % 2 ^ w) E)
      → Holds (bin_value op w x y) (Pushes s (A ++ (B ++ (C ++ (D ++ (Line.bin op (work_of w) ∷ E))))) e w)
  unfolding does
  bin_does op w h e x y p q x' y' cut = H-map (widen op (work_bits w - w) w x y _ _ p.fits q.fits x'.same y'.same) λ r (r', d, md).
      let b = work_above w h in
      let j : work_bits w - w + w ≡ work_bits w = omega arith in
      let W : ℕ = work_width (work_of w) in
      let d' : word_op op W (word (work_of w) x'.cell) (word (work_of w) y'.cell) ≡ some r' = subst (λ n. word_op op n (word (work_of w) x'.cell) (word (work_of w) y'.cell) ≡ some r') (j ∙ sym (work_width_lem w)) d in
      let lt : r' < 2 ^ W = word_lt op W _ _ r' (fits_mod x'.cell W) (fits_mod y'.cell W) d' in
      record {
        pushes = λ o. seq s (p.pushes o) (seq s (x'.runs e o) (seq s (q.pushes _) (seq s (y'.runs e _)
            (◌⊳◌ s {e₁ = e} {o₁ = r' ∷ o} (rw d' refl) (rw md at (cut r' (rw (work_width_lem w) at lt) e o))))));
        fits = rw (← md) (fits_mod r' w);
      }

  pub bin_ok : (op : BinOp) (ty : Ty) (w : ℕ) (a b : Value) → int_width ty ≡ ok w → width_ok w ≡ true → Gives (gen_bin (ctx s) op ty a b) (Computes w (λ σ. eval_bin (given s) σ op w a b))
  unfolding gen_bin eval_bin
  bin_ok op ty w a b hw h = G-bind _ _ λ w' hw'.
      let same : w' ≡ w = ok_same (sym hw' ∙ hw) in rw same (
      G-then _ (value_ok_lem s w a (at_most w h)) λ A pa. G-then _ (worked_ok s (signed_left op) w h) λ B pb.
      G-then _ (value_ok_lem s w b (at_most w h)) λ C pc. G-then _ (worked_ok s (signed_right op) w h) λ D pd.
      G-put _ _ (G-map (G-all λ r. G-all λ l. cut_ok w h r l) λ E pe σ e r.
      H-bind _ (pa σ e r) λ x p. H-bind _ (pc σ e r) λ y q. bin_does op w h e x y p q (pb x p.fits) (pd y q.fits) pe))

  -- ---- `gen_icmp`
  pub icmp_ok : (c : ICmpPred) (ty : Ty) (w : ℕ) (a b : Value) → int_width ty ≡ ok w → width_ok w ≡ true → Gives (gen_icmp (ctx s) c ty a b) (Computes 1 (λ σ. eval_icmp (given s) σ c w a b))
  unfolding gen_icmp eval_icmp does flag
  icmp_ok c ty w a b hw h = G-bind _ _ λ w' hw'.
      let same : w' ≡ w = ok_same (sym hw' ∙ hw) in rw same (
      G-then _ (value_ok_lem s w a (at_most w h)) λ A pa. G-then _ (worked_ok s (signed_pred c) w h) λ B pb.
      G-then _ (value_ok_lem s w b (at_most w h)) λ C pc. G-then _ (worked_ok s (signed_pred c) w h) λ D pd. G-line _ λ σ e r.
      H-bind _ (pa σ e r) λ x p. H-bind _ (pc σ e r) λ y q.
      let x' = pb x p.fits in
      let y' = pd y q.fits in
      let k = work_above w h in
      let j : work_bits w - w + w ≡ work_bits w = omega arith in
      let t : word_test c (work_width (work_of w)) (word (work_of w) x'.cell) (word (work_of w) y'.cell) ≡ icmp_value c w x y =
      subst (λ n. word_test c n (word (work_of w) x'.cell) (word (work_of w) y'.cell) ≡ icmp_value c w x y) (j ∙ sym (work_width_lem w))
      (pred_widen c (work_bits w - w) w x y _ _ x'.same y'.same) in
      H-ok _ (record {
        pushes = λ o. seq s (p.pushes o) (seq s (x'.runs e o) (seq s (q.pushes _) (seq s (y'.runs e _) (run_line s (rw t refl)))));
        fits = flag_lt (icmp_value c w x y);
      }))

  -- ---- `gen_conv`
  same_low : (x fw tw : ℕ) → x < 2 ^ fw → fw ≤ tw → x % 2 ^ tw ≡ x
  same_low x fw tw l h = mod-eq_of_lt (let k : 2 ^ fw ≤ 2 ^ tw = pow_mono h in omega arith)

  low_lt : (x w : ℕ) → x < 2 ^ w → w ≤ 64 → x < 2 ^ 64
  low_lt x w l h = let k : 2 ^ w ≤ 2 ^ 64 = pow_mono h in omega arith

  -- the lines behind the operand
  abbrev ConvOk : ConvOp → (fw tw : ℕ) → List Line → Type 0
  ConvOk op fw tw L = (x : ℕ) → x < 2 ^ fw → conv_widths op fw tw ≡ true → Leaves s x (conv_value op fw tw x) L × (conv_value op fw tw x < 2 ^ tw)

  conv_op_ok : (op : ConvOp) (fw tw : ℕ) → width_ok fw ≡ true → width_ok tw ≡ true → Gives (emit_conv_op op fw tw) (ConvOk op fw tw)
  unfolding emit_conv_op conv_value conv_widths emit_trunc_to
  conv_op_ok ConvOp.trunc fw tw hf ht = G-lines _ λ x l c. (trunc_ok s x tw ht (low_lt x fw l (at_most fw hf)), fits_mod x tw)
  conv_op_ok ConvOp.zext fw tw hf ht = G-skip λ x l c.
      let k : 2 ^ fw ≤ 2 ^ tw = pow_mono (let q = ltb-true fw tw c in omega arith) in ((λ e o. runs_nil s), omega arith)
  conv_op_ok ConvOp.sext fw tw hf ht = G-all λ x. G-all λ l. G-map (sext_ok s x fw tw ht l) λ L r c. (r, unsigned_fits tw (signed fw x))
  conv_op_ok ConvOp.ptr_to_int fw tw hf ht = G-when (ltb tw 64) _
      (λ t. G-lines _ λ x l c. (trunc_ok s x tw ht (low_lt x fw l (at_most fw hf)), fits_mod x tw))
      (λ t x l c. let q : fw ≤ tw = (let a = at_most fw hf in let b = ltb-false tw 64 t in omega arith) in
      ((λ e o. rw (same_low x fw tw l q) (runs_nil s)), fits_mod x tw))
  conv_op_ok ConvOp.int_to_ptr fw tw hf ht = G-skip λ x l c.
      let q : fw ≤ tw = (let a = at_most fw hf in let b = eqb-true tw 64 c in omega arith) in
      ((λ e o. rw (same_low x fw tw l q) (runs_nil s)), fits_mod x tw)
  conv_op_ok ConvOp.bit_cast fw tw hf ht = G-skip λ x l c. ((λ e o. runs_nil s), rw (← eqb-true fw tw c) l)

  widths_ok : (op : ConvOp) (from to : Ty) (fw tw : ℕ) (v : Value) → int_width from ≡ ok fw → int_width to ≡ ok tw → width_ok fw ≡ true → width_ok tw ≡ true
      → Gives (gen_widths (ctx s) op from v to) (Computes tw (λ σ. eval_conv (given s) σ op fw tw v))
  unfolding gen_widths eval_conv
  widths_ok op from to fw tw v ef et hf ht = G-bind _ _ λ fw' ef'. G-bind _ _ λ tw' et'.
      let sf : fw' ≡ fw = ok_same (sym ef' ∙ ef) in
      let st : tw' ≡ tw = ok_same (sym et' ∙ et) in rw (sf, st) (
      G-then _ (value_ok_lem s fw v (at_most fw hf)) λ A pa. G-map (conv_op_ok op fw tw hf ht) λ B pb σ e r.
      H-bind _ (pa σ e r) λ x p. H-need (conv_widths op fw tw) Stop.ill_formed _ λ c.
      let q = pb x p.fits c in
      H-ok _ (record { pushes = λ o. seq s (p.pushes o) (q.0 e o); fits = q.1 }))

  cast_ok : (from : Ty) (fw tw : ℕ) (v : Value) → int_width from ≡ ok fw → width_ok fw ≡ true → Gives (push_typed (ctx s) from v) (Computes tw (λ σ. eval_conv (given s) σ ConvOp.bit_cast fw tw v))
  unfolding push_typed eval_conv conv_widths conv_value
  cast_ok from fw tw v ef hf = G-bind _ _ λ fw' ef'.
      let sf : fw' ≡ fw = ok_same (sym ef' ∙ ef) in rw sf (
      G-map (value_ok_lem s fw v (at_most fw hf)) λ A pa σ e r. H-bind _ (pa σ e r) λ x p. H-need (eqb fw tw) Stop.ill_formed _ λ c.
      H-ok _ (record { pushes = p.pushes; fits = rw (← eqb-true fw tw c) p.fits }))

  pub conv_ok : (op : ConvOp) (from to : Ty) (fw tw : ℕ) (v : Value) → int_width from ≡ ok fw → int_width to ≡ ok tw → width_ok fw ≡ true → width_ok tw ≡ true
      → Gives (gen_conv (ctx s) op from v to) (Computes tw (λ σ. eval_conv (given s) σ op fw tw v))
  unfolding gen_conv
  conv_ok ConvOp.trunc from to fw tw v ef et hf ht = widths_ok ConvOp.trunc from to fw tw v ef et hf ht
  conv_ok ConvOp.zext from to fw tw v ef et hf ht = widths_ok ConvOp.zext from to fw tw v ef et hf ht
  conv_ok ConvOp.sext from to fw tw v ef et hf ht = widths_ok ConvOp.sext from to fw tw v ef et hf ht
  conv_ok ConvOp.ptr_to_int from to fw tw v ef et hf ht = widths_ok ConvOp.ptr_to_int from to fw tw v ef et hf ht
  conv_ok ConvOp.int_to_ptr from to fw tw v ef et hf ht = widths_ok ConvOp.int_to_ptr from to fw tw v ef et hf ht
  conv_ok ConvOp.bit_cast from to fw tw v ef et hf ht = cast_ok from fw tw v ef hf

  -- ---- `gen_select`
  pub select_ok : Once s → (c : Value) (ty : Ty) (w : ℕ) (a b : Value) → int_width ty ≡ ok w → width_ok w ≡ true → Gives (gen_select (ctx s) c ty a b) (Computes w (λ σ. eval_select (given s) σ w c a b))
  unfolding gen_select eval_select
  select_ok u c ty w a b hw h = G-bind _ _ λ w' hw'.
      let same : w' ≡ w = ok_same (sym hw' ∙ hw) in rw same (
      G-fresh _ λ n. G-fresh _ λ m.
      G-then _ (value_ok_lem s 1 c (omega arith)) λ A pa. G-put _ _ (
      G-then _ (value_ok_lem s w a (at_most w h)) λ B pb. G-put _ _ (G-put _ _ (
      G-then _ (value_ok_lem s w b (at_most w h)) λ C pc. G-line _ λ σ e r.
      H-bind _ (pa σ e r) λ t p. H-cond (eqb t 0) _ _
      (λ z. H-map (pc σ e r) λ y q. record { pushes = λ o. seq s (p.pushes o) (run_if s u {B = B} {C = C} n m t (λ y. clash z y) (λ y. q.pushes o)); fits = q.fits })
      (λ z. H-map (pb σ e r) λ y q. record { pushes = λ o. seq s (p.pushes o) (run_if s u {B = B} {C = C} n m t (λ y. q.pushes o) (λ y. clash y z)); fits = q.fits })))))

  -- ---- `freeze`
  pub freeze_ok : (ty : Ty) (w : ℕ) (v : Value) → int_width ty ≡ ok w → width_ok w ≡ true → Gives (gen_freeze (ctx s) ty v) (ValueOk s w v)
  unfolding gen_freeze width_or
  freeze_ok ty w v hw h = G-bind _ _ λ n hn. rw hw (value_ok_lem s w v (at_most w h))

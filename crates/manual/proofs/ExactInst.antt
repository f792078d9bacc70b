-- An instruction goes on exactly where `Goes` and `Measured` say so.
use Prim.Native.Nat.{ℕ, zero, suc, ◌*◌, ◌^◌, ◌<◌}
use Rattle.std.specs.Prelude.{◌≡◌, ◌⊎◌, ◌↔◌, Bool, not, List, ltb}
use Rattle.std.proofs.Math.Path.{refl, subst}
use Rattle.std.proofs.Common.{ap, sym, ◌∙◌, inl, inr}
use Rattle.std.proofs.Math.Bool.{true, false, cond}
use Rattle.std.proofs.lemmas.Bool.{false≢true}
use Rattle.std.proofs.Math.Option.{Option, none, some}
use native.Mathlib.Omega.{arith}
use Rattle.std.proofs.Math.Dec.{eqb}
use borrow.Author.Tests.{ltb-true, eqb-true, eqb-false, lt-ltb, ne_eqb}
use Rattle.numbers.specs.Align.{align_up, align_le}
use Rattle.numbers.specs.Width.{int_bytes, width_ok, width_each}
use Rattle.names.specs.Tests.{either, or_right}
use Rattle.book.specs.Ast.{Ty, Value, TypedVal, InstKind, Inst, StructType}
use Rattle.book.specs.Map.{lookup}
use Rattle.book.specs.Result.{Result, ok, err, ok_or, err_no_ok, bind_ok, bind_step, given_ok}
use Rattle.layout.specs.Layout.{size_of, size_at, int_size}
use Rattle.layout.specs.Frame.{Places, count_of, framed}
use Rattle.machine.specs.Memory.{Memory, peek, peek_lt}
use Rattle.manual.specs.Stop.{Stop, stop_number}
use Rattle.manual.specs.State.{Cell, Given, Source, is_set}
use Rattle.manual.specs.Operand.{width_of, integer_width, value, typed}
use Rattle.manual.specs.Gep.{offset}
use Rattle.manual.specs.Inst.{part, eval_bin, eval_icmp, eval_conv, eval_select, eval_gep, eval_load, run_load, run_store, run_cmpxchg, run_extract, run_fixed, stated, count_in, run_varying, run_place, run_alloca, run_kind, run_inst}
use Rattle.manual.specs.Goes.{Scalar, Reads, Typed, Framed, Goes}
use Rattle.manual.specs.Measured.{Sized, Aligned, MeasuredPlace, Measured}
use Rattle.machine.specs.Cells.{some_same, none_some}
use Rattle.manual.specs.Going.{ok_same, Going, onward, need_ok, ok_or_ok, ok_or_some}
use Rattle.manual.specs.Exact.{scalar_width, width_scalar, integer_width_lem, width_integer, untested, reads_value, value_reads, typed_value, value_typed, defined_value, value_defined, converts_widths, widths_convert}
use Rattle.manual.proofs.ExactGep.{indices_go, gone_indices}
use Rattle.manual.specs.ExactCall.{call_go, gone_call}

-- ---- loads: only an i1 has fewer bits than its bytes
bits : (w : ℕ) → width_ok w ≡ true → ((w ≡ 1) × (int_bytes w ≡ 1)) ⊎ (8 * int_bytes w ≡ w)
bits = width_each (λ w. ((w ≡ 1) × (int_bytes w ≡ 1)) ⊎ (8 * int_bytes w ≡ w)) (inl (refl, refl)) (inr refl) (inr refl) (inr refl) (inr refl)

scalar_bytes : (structs : List StructType) {ty : Ty} {w : ℕ} (n : ℕ) → Scalar ty w → size_of structs ty ≡ ok n → ((w ≡ 1) × (n ≡ 1)) ⊎ (8 * n ≡ w)
unfolding size_of size_at int_size
scalar_bytes structs n (Scalar.int {w = w}) e = let (h, k) = given_ok (width_ok w) 6 (int_bytes w) n e in subst (λ b. ((w ≡ 1) × (b ≡ 1)) ⊎ (8 * b ≡ w)) k (bits w h)
scalar_bytes structs n Scalar.ptr e = inr (ap (λ b. 8 * b) (sym (ok_same e)))

module _ (n w : ℕ) (m : Memory) (a : ℕ) where
  load_fits : ((w ≡ 1) × (n ≡ 1)) ⊎ (8 * n ≡ w) → (w ≡ 1 → peek 1 m a < 2) → peek n m a < 2 ^ w
  load_fits (inl (h, k)) b = rw (k, h) (b h)
  load_fits (inr h) b = rw (← h) (peek_lt n m a)

  fits_load : ((w ≡ 1) × (n ≡ 1)) ⊎ (8 * n ≡ w) → peek n m a < 2 ^ w → w ≡ 1 → peek 1 m a < 2
  fits_load (inl (h, k)) b e = rw (k, h) at b
  fits_load (inr h) b e = absurd (omega arith)

-- ---- frames
framed_test : (fr : Places) → Framed fr → framed fr ≡ true
unfolding framed
framed_test fr (inl h) = let k = align_le fr.off 8 in rw (lt-ltb 0 (align_up fr.off 8) (omega arith)) refl
framed_test fr (inr h) = or_right (ltb 0 (align_up fr.off 8)) fr.dynamic h

test_framed : (fr : Places) → framed fr ≡ true → Framed fr
unfolding framed align_up
test_framed fr e = go (either (ltb 0 (align_up fr.off 8)) fr.dynamic e)
  where
    some_bytes : (n : ℕ) → ltb 0 (align_up n 8) ≡ true → 0 < n
    some_bytes zero h = absurd (false≢true h)
    some_bytes (suc n) h = omega arith

    go : (ltb 0 (align_up fr.off 8) ≡ true) ⊎ (fr.dynamic ≡ true) → Framed fr
    go (inl h) = inl (some_bytes fr.off h)
    go (inr h) = inr h

unset : (o : Option Cell) → not (is_set o) ≡ true → o ≡ none
unfolding is_set
unset none e = refl
unset (some c) e = absurd (false≢true e)

-- ---- a stated align
module _ (g : Given) where
  pub stated_go : (align : Option ℕ) (ty : Ty) → Aligned g.structs align ty → Going (stated g align ty)
  unfolding stated
  stated_go (some a) ty h = (a, refl)
  stated_go none ty h = h

  gone_stated : (align : Option ℕ) (ty : Ty) (a : ℕ) → stated g align ty ≡ ok a → Aligned g.structs align ty
  unfolding stated
  gone_stated (some b) ty a h = tt
  gone_stated none ty a h = (a, h)

module _ (g : Given) (σ : Source) where
  abbrev Reading : (w : ℕ) → Value → Result ℕ
  Reading w v = value g.world σ.env w v

  reading : {w : ℕ} {v : Value} {n : ℕ} → Reads g σ w v n → Reading w v ≡ ok n
  reading r = reads_value g σ r

  -- ---- memory
  load_go : (dest : Option ℕ) {ty : Ty} {p : Value} {w a : ℕ} → Sized g.structs ty → Scalar ty w → Reads g σ 64 p a → (w ≡ 1 → peek 1 σ.memory a < 2) → Going (run_load g dest ty p σ)
  unfolding run_load eval_load
  load_go dest {w = w} {a = a} (n, h) s r b =
      onward _ h (onward _ (scalar_width s) (onward _ (bind_step _ _ (reading r) (bind_step _ _
      (need_ok Stop.load_range (lt-ltb _ _ (load_fits n w σ.memory a (scalar_bytes g.structs n s h) b))) refl)) (_, refl)))

  abbrev Loads : Ty → Value → Type 0
  Loads ty p = (w : ℕ) × (a : ℕ) × Scalar ty w × Reads g σ 64 p a × (w ≡ 1 → peek 1 σ.memory a < 2)

  gone_load : (dest : Option ℕ) (ty : Ty) (p : Value) (τ : Source) → run_load g dest ty p σ ≡ ok τ → Sized g.structs ty × Loads ty p
  unfolding run_load eval_load
  gone_load dest ty p τ e =
      let (n, a, e₁) = bind_ok (size_of g.structs ty) _ τ e in
      let (w, b, e₂) = bind_ok (width_of ty) _ τ e₁ in
      let (v, c, e₃) = bind_ok (eval_load g σ n w p) _ τ e₂ in
      let (q, d, c₁) = bind_ok (Reading 64 p) _ v c in
      let t = ltb-true _ _ (untested (ltb (peek n σ.memory q) (2 ^ w)) _ _ v c₁).0 in
      let s = width_scalar ty w b in
      ((n, a), (w, q, s, value_reads g σ 64 p q d, fits_load n w σ.memory q (scalar_bytes g.structs n s a) t))

  store_go : {ty : Ty} {v p : Value} {w x a : ℕ} → Sized g.structs ty → Scalar ty w → Reads g σ w v x → Reads g σ 64 p a → Going (run_store g ty v p σ)
  unfolding run_store
  store_go (n, h) s r q = onward _ h (onward _ (scalar_width s) (onward _ (reading q) (onward _ (reading r) (_, refl))))

  abbrev Stores : Ty → (v p : Value) → Type 0
  Stores ty v p = (w : ℕ) × (x : ℕ) × (a : ℕ) × Scalar ty w × Reads g σ w v x × Reads g σ 64 p a

  gone_store : (ty : Ty) (v p : Value) (τ : Source) → run_store g ty v p σ ≡ ok τ → Sized g.structs ty × Stores ty v p
  unfolding run_store
  gone_store ty v p τ e =
      let (n, h, e₁) = bind_ok (size_of g.structs ty) _ τ e in
      let (w, b, e₂) = bind_ok (width_of ty) _ τ e₁ in
      let (a, c, e₃) = bind_ok (Reading 64 p) _ τ e₂ in
      let (x, d, e₄) = bind_ok (Reading w v) _ τ e₃ in
      ((n, h), (w, x, a, width_scalar ty w b, value_reads g σ w v x d, value_reads g σ 64 p a c))

  -- ---- places
  fixed_go : (x : ℕ) (ty : Ty) (count : Option TypedVal) (align : Option ℕ) {n : ℕ} → count_of count ≡ some n → Framed g.frame → σ.env x ≡ none
      → MeasuredPlace g x ty (count_of count) align → Going (run_place g (count_of count) x ty count align σ)
  unfolding run_place run_fixed is_set
  fixed_go x ty count align c f u m =
      let (off, h) = subst (λ k. MeasuredPlace g x ty k align) c m in
      rw c (onward _ (need_ok Stop.place_empty (framed_test g.frame f)) (onward _ (need_ok Stop.place_twice (rw u refl)) (onward _ (ok_or_ok _ h) (_, refl))))

  varying_go : (x : ℕ) (ty : Ty) (count : TypedVal) (align : Option ℕ) → count_of (some count) ≡ none → Typed g σ count
      → MeasuredPlace g x ty (count_of (some count)) align → Going (run_place g (count_of (some count)) x ty (some count) align σ)
  unfolding run_place run_varying count_in
  varying_go x ty count align c t m =
      let (s, a) = subst (λ k. MeasuredPlace g x ty k align) c m in
      rw c (onward _ s.1 (onward _ (stated_go g align ty a).1 (onward _ (typed_value g σ {v = count} t).1 (_, refl))))

  -- a place with its name
  named : {dest : Option ℕ} (x : ℕ) (ty : Ty) (count : Option TypedVal) (align : Option ℕ) → dest ≡ some x → Going (run_place g (count_of count) x ty count align σ) → Going (run_alloca g dest ty count align σ)
  unfolding run_alloca
  named x ty count align d h = rw d h

  gone_alloca : (dest : Option ℕ) (ty : Ty) (count : Option TypedVal) (align : Option ℕ) (τ : Source) → run_alloca g dest ty count align σ ≡ ok τ
      → Measured g dest (InstKind.alloca ty count align) × Goes g σ dest (InstKind.alloca ty count align)
  unfolding run_alloca run_place run_fixed run_varying count_in count_of
  gone_alloca none ty count align τ e = err_no_ok _ τ e
  gone_alloca (some x) ty count align τ e = let (m, h) = go (count_of count) refl e in ((x, refl, m), h)
    where
      vary : (n : Option TypedVal) → count_of n ≡ none → run_varying g x ty n align σ ≡ ok τ → MeasuredPlace g x ty none align × Goes g σ (some x) (InstKind.alloca ty n align)
      vary none h e = none_some 1 (sym h)
      vary (some v) h e =
          let (s, a, e₁) = bind_ok (size_of g.structs ty) _ τ e in
          let (b, c, e₂) = bind_ok (stated g align ty) _ τ e₁ in
          let (n, d, e₃) = bind_ok (typed g.world σ.env v.ty v.val) _ τ e₂ in
          (((s, a), gone_stated g align ty b c), Goes.varying h (value_typed g σ v n d))

      go : (k : Option ℕ) → count_of count ≡ k → run_place g k x ty count align σ ≡ ok τ → MeasuredPlace g x ty k align × Goes g σ (some x) (InstKind.alloca ty count align)
      go (some n) h e =
          let (f, e₁) = untested _ _ _ τ e in
          let (u, e₂) = untested _ _ _ τ e₁ in
          let (off, l, e₃) = bind_ok (ok_or (stop_number Stop.ill_formed) (lookup x g.frame.offsets)) _ τ e₂ in
          let new = unset (σ.env x) u in
          ((off, ok_or_some _ (lookup x g.frame.offsets) off l), Goes.fixed h (test_framed g.frame f) (λ y d. subst (λ z. σ.env z ≡ none) (some_same d) new))
      go none h e = vary count h e

  -- ---- the others
  select_first_lem : {c a : Value} (b : Value) {w t x : ℕ} → Reads g σ 1 c t → 0 < t → Reads g σ w a x → eval_select g σ w c a b ≡ ok x
  unfolding eval_select
  select_first_lem b {t = t} r h s = bind_step _ _ (reading r) (rw (ne_eqb t 0 (λ e. absurd (omega arith))) (reading s))

  extract_go : (dest : Option ℕ) {x w a b : ℕ} (k : ℕ) → σ.env x ≡ some (Cell.two w a b) → k < 2 → Going (run_extract g dest (Value.local x) k σ)
  unfolding run_extract part
  extract_go dest zero h k = onward _ (ok_or_ok _ h) (onward _ refl (_, refl))
  extract_go dest (suc zero) h k = onward _ (ok_or_ok _ h) (onward _ refl (_, refl))
  extract_go dest (suc (suc j)) h k = absurd (omega arith)

  gone_extract : (dest : Option ℕ) (v : Value) (k : ℕ) (τ : Source) → run_extract g dest v k σ ≡ ok τ → Goes g σ dest (InstKind.extract_value v k)
  unfolding run_extract part
  gone_extract dest (Value.local x) k τ e =
      let (c, h, e₁) = bind_ok (ok_or (stop_number Stop.unset) (σ.env x)) _ τ e in
      let (d, i, e₂) = bind_ok (part k c) _ τ e₁ in
      go k c d (ok_or_some _ (σ.env x) c h) i
    where
      go : (k : ℕ) (c d : Cell) → σ.env x ≡ some c → part k c ≡ ok d → Goes g σ dest (InstKind.extract_value (Value.local x) k)
      go k (Cell.one w n) d h i = err_no_ok _ d i
      go zero (Cell.two w a b) d h i = Goes.extract_value {k = 0} h (omega arith)
      go (suc zero) (Cell.two w a b) d h i = Goes.extract_value {k = 1} h (omega arith)
      go (suc (suc j)) (Cell.two w a b) d h i = err_no_ok _ d i
  gone_extract dest (Value.global x) k τ e = err_no_ok _ τ e
  gone_extract dest (Value.int v) k τ e = err_no_ok _ τ e
  gone_extract dest (Value.zero z) k τ e = err_no_ok _ τ e
  gone_extract dest Value.other k τ e = err_no_ok _ τ e

  -- ---- an instruction
  pub kind_goes : {dest : Option ℕ} {k : InstKind} → Measured g dest k → Goes g σ dest k → Going (run_kind g dest k σ)
  unfolding run_kind eval_bin eval_icmp eval_conv eval_select eval_gep run_cmpxchg
  kind_goes m (Goes.bin {op = op} {w = w} {x = x} {y = y} s a b d) = onward _ (integer_width_lem s) (onward _ (bind_step _ _ (reading a) (bind_step _ _ (reading b) (defined_value w x y op d).1)) (_, refl))
  kind_goes m (Goes.conv {op = op} {fw = fw} {tw = tw} s t r c) = onward _ (scalar_width s) (onward _ (scalar_width t) (onward _ (bind_step _ _ (reading r) (bind_step _ _ (need_ok Stop.ill_formed (converts_widths fw tw op c)) refl)) (_, refl)))
  kind_goes m (Goes.icmp s a b) = onward _ (scalar_width s) (onward _ (bind_step _ _ (reading a) (bind_step _ _ (reading b) refl)) (_, refl))
  kind_goes m (Goes.select_first s c h r) = onward _ (scalar_width s) (onward _ (select_first_lem _ c h r) (_, refl))
  kind_goes m (Goes.select_second s c r) = onward _ (scalar_width s) (onward _ (bind_step _ _ (reading c) (reading r)) (_, refl))
  kind_goes m (Goes.load s r b) = load_go _ m s r b
  kind_goes m (Goes.atomic_load s r b) = load_go _ m s r b
  kind_goes m (Goes.store s r q) = store_go m s r q
  kind_goes m (Goes.atomic_store s r q) = store_go m s r q
  kind_goes m (Goes.cmpxchg s p a b) = onward _ m.1 (onward _ (scalar_width s) (onward _ (reading p) (onward _ (reading a) (onward _ (reading b) (_, refl)))))
  kind_goes m (Goes.fixed {ty = ty} {count = count} {align = align} c f u) = named m.0 ty count align m.1 (fixed_go m.0 ty count align c f (u m.0 m.1) m.2)
  kind_goes m (Goes.varying {ty = ty} {count = count} {align = align} c t) = named m.0 ty (some count) align m.1 (varying_go m.0 ty count align c t m.2)
  kind_goes m (Goes.get_element_ptr {ty = ty} {is = is} r i) = onward _ (bind_step _ _ (reading r) (bind_step _ _ (indices_go g σ ty is m i).1 refl)) (_, refl)
  kind_goes m (Goes.call {args = args} a c w s r) = call_go g σ args a c w s r
  kind_goes m (Goes.freeze s r) = onward _ (scalar_width s) (onward _ (reading r) (_, refl))
  kind_goes m (Goes.extract_value {k = k} h l) = extract_go _ k h l
  kind_goes m Goes.fence = (σ, refl)

  gone_select : (dest : Option ℕ) (c : Value) (ty : Ty) (a b : Value) (w v : ℕ) → Scalar ty w → eval_select g σ w c a b ≡ ok v → Goes g σ dest (InstKind.select c ty a b)
  unfolding eval_select
  gone_select dest c ty a b w v s e = let (t, h, k) = bind_ok (Reading 1 c) _ v e in go t (eqb t 0) refl (value_reads g σ 1 c t h) k
    where
      go : (t : ℕ) (z : Bool) → eqb t 0 ≡ z → Reads g σ 1 c t → cond z (Reading w b) (Reading w a) ≡ ok v → Goes g σ dest (InstKind.select c ty a b)
      go t true z r k = Goes.select_second s (rw (eqb-true t 0 z) at r) (value_reads g σ w b v k)
      go t false z r k = let n = eqb-false t 0 z in let p : 0 < t = positive t n in Goes.select_first s r p (value_reads g σ w a v k)
        where
          positive : (t : ℕ) → (t ≡ 0 → ⊥) → 0 < t
          positive zero n = absurd (n refl)
          positive (suc t) n = omega arith

  gone_cmpxchg : (dest : Option ℕ) (ty : Ty) (p c x : Value) (τ : Source) → run_cmpxchg g dest ty p c x σ ≡ ok τ → Sized g.structs ty × Goes g σ dest (InstKind.cmpxchg ty p c x)
  unfolding run_cmpxchg
  gone_cmpxchg dest ty p c x τ e =
      let (n, h, e₁) = bind_ok (size_of g.structs ty) _ τ e in
      let (w, b, e₂) = bind_ok (width_of ty) _ τ e₁ in
      let (a, i, e₃) = bind_ok (Reading 64 p) _ τ e₂ in
      let (u, j, e₄) = bind_ok (Reading w c) _ τ e₃ in
      let (v, k, e₅) = bind_ok (Reading w x) _ τ e₄ in
      ((n, h), Goes.cmpxchg (width_scalar ty w b) (value_reads g σ 64 p a i) (value_reads g σ w c u j) (value_reads g σ w x v k))

  -- the other way round: where it has gone on, the conditions were met
  pub gone_kind : (dest : Option ℕ) (k : InstKind) (τ : Source) → run_kind g dest k σ ≡ ok τ → Measured g dest k × Goes g σ dest k
  unfolding run_kind eval_bin eval_icmp eval_conv eval_gep
  gone_kind dest (InstKind.bin op ty a b) τ e =
      let (w, h, e₁) = bind_ok (integer_width ty) _ τ e in
      let (v, i, e₂) = bind_ok (eval_bin g σ op w a b) _ τ e₁ in
      let (x, j, i₁) = bind_ok (Reading w a) _ v i in
      let (y, k, i₂) = bind_ok (Reading w b) _ v i₁ in
      (tt, Goes.bin (width_integer ty w h) (value_reads g σ w a x j) (value_reads g σ w b y k) (value_defined w x y op v i₂))
  gone_kind dest (InstKind.conv op from v to) τ e =
      let (fw, h, e₁) = bind_ok (width_of from) _ τ e in
      let (tw, i, e₂) = bind_ok (width_of to) _ τ e₁ in
      let (y, j, e₃) = bind_ok (eval_conv g σ op fw tw v) _ τ e₂ in
      let (x, k, j₁) = bind_ok (Reading fw v) _ y j in
      (tt, Goes.conv (width_scalar from fw h) (width_scalar to tw i) (value_reads g σ fw v x k) (widths_convert fw tw op (untested _ _ _ y j₁).0))
  gone_kind dest (InstKind.icmp p ty a b) τ e =
      let (w, h, e₁) = bind_ok (width_of ty) _ τ e in
      let (v, i, e₂) = bind_ok (eval_icmp g σ p w a b) _ τ e₁ in
      let (x, j, i₁) = bind_ok (Reading w a) _ v i in
      let (y, k, i₂) = bind_ok (Reading w b) _ v i₁ in
      (tt, Goes.icmp (width_scalar ty w h) (value_reads g σ w a x j) (value_reads g σ w b y k))
  gone_kind dest (InstKind.select c ty a b) τ e =
      let (w, h, e₁) = bind_ok (width_of ty) _ τ e in
      let (v, i, e₂) = bind_ok (eval_select g σ w c a b) _ τ e₁ in
      (tt, gone_select dest c ty a b w v (width_scalar ty w h) i)
  gone_kind dest (InstKind.load ty p align) τ e = let (m, (w, a, s, r, b)) = gone_load dest ty p τ e in (m, Goes.load s r b)
  gone_kind dest (InstKind.store ty v p align) τ e = let (m, (w, x, a, s, r, q)) = gone_store ty v p τ e in (m, Goes.store s r q)
  gone_kind dest (InstKind.alloca ty count align) τ e = gone_alloca dest ty count align τ e
  gone_kind dest (InstKind.get_element_ptr ty p is) τ e =
      let (z, h, e₁) = bind_ok (eval_gep g σ ty p is) _ τ e in
      let (a, i, h₁) = bind_ok (Reading 64 p) _ z h in
      let (off, j, h₂) = bind_ok (offset g.world g.structs σ.env ty is) _ z h₁ in
      let (m, s) = gone_indices g σ ty is off j in
      (m, Goes.get_element_ptr (value_reads g σ 64 p a i) s)
  gone_kind dest (InstKind.call ty callee args) τ e =
      let c = gone_call g σ dest ty callee args τ e in
      (tt, Goes.call c.typed c.calls c.answers c.shape c.receives)
  gone_kind dest (InstKind.phi ty incoming) τ e = err_no_ok _ τ e
  gone_kind dest (InstKind.freeze ty v) τ e =
      let (w, h, e₁) = bind_ok (width_of ty) _ τ e in
      let (x, i, e₂) = bind_ok (Reading w v) _ τ e₁ in
      (tt, Goes.freeze (width_scalar ty w h) (value_reads g σ w v x i))
  gone_kind dest (InstKind.atomic_load ty p) τ e = let (m, (w, a, s, r, b)) = gone_load dest ty p τ e in (m, Goes.atomic_load s r b)
  gone_kind dest (InstKind.atomic_store ty v p) τ e = let (m, (w, x, a, s, r, q)) = gone_store ty v p τ e in (m, Goes.atomic_store s r q)
  gone_kind dest (InstKind.cmpxchg ty p c n) τ e = gone_cmpxchg dest ty p c n τ e
  gone_kind dest (InstKind.extract_value v k) τ e = (tt, gone_extract dest v k τ e)
  gone_kind dest InstKind.fence τ e = (tt, Goes.fence)

  -- an instruction has a next state exactly where it can be measured and goes on
  pub inst_goes : (i : Inst) → Going (run_inst g i σ) ↔ (Measured g i.dest i.kind × Goes g σ i.dest i.kind)
  unfolding run_inst
  inst_goes i = ((λ (τ, e). gone_kind i.dest i.kind τ e), (λ (m, h). kind_goes m h))

  -- and where it can be measured, it stops exactly where it does not go on
  pub inst_stops : (i : Inst) → Measured g i.dest i.kind → ((e : ℕ) × (run_inst g i σ ≡ err e)) ↔ ¬ Goes g σ i.dest i.kind
  inst_stops i m = ((λ (e, h) k. let (τ, r) = (inst_goes i).1 (m, k) in err_no_ok e τ (sym h ∙ r)), λ k. go k (run_inst g i σ) refl)
    where
      go : ¬ Goes g σ i.dest i.kind → (r : Result Source) → run_inst g i σ ≡ r → (e : ℕ) × (run_inst g i σ ≡ err e)
      go k (ok τ) h = absurd (k ((inst_goes i).0 (τ, h)).1)
      go k (err e) h = (e, h)

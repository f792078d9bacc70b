-- A function that the translator accepts can be measured: what its run measures, its generator has measured.
use Rattle.std.specs.Prelude.{ℕ, ◌≡◌}
use Rattle.std.proofs.Math.Path.{refl, ap, subst, sym}
use Rattle.std.proofs.Common.{◌∙◌}
use Rattle.std.proofs.Math.Option.{Option, none, some}
use mathlib.Core.List.{List, [], ◌∷◌}
use Rattle.book.specs.Ast.{Ty, Value, TypedVal, InstKind, Inst, BasicBlock, StructBody, StructType}
use Rattle.book.specs.Limits.{Each}
use Rattle.book.specs.Map.{lookup}
use Rattle.book.specs.Result.{ok, bind, ok_or, bind_ok, err_no_ok}
use Rattle.book.specs.Shape.{Shape, shape}
use Rattle.layout.specs.Layout.{resolve, size_of, field_offset}
use Rattle.layout.specs.Step.{Step, const_int, field_at, stride, struct_step, gep_step}
use Rattle.layout.specs.Frame.{count_of}
use Rattle.lowering.specs.Gen.{Gen, ◌>>=◌, ◌>>◌, each}
use Rattle.lowering.specs.Operand.{int_width}
use Rattle.lowering.specs.Gep.{Walk, start, took, first_step, walk_rest, walk, gen_gep}
use Rattle.lowering.specs.Memory.{gen_load, gen_store, align_or, gen_dynamic_alloca, place_of, gen_alloca, require_atomic_width, gen_atomic_load, gen_atomic_store}
use Rattle.lowering.specs.Inst.{gen_kind, gen_inst}
use Rattle.lowering.specs.Function.{gen_block}
use Rattle.manual.specs.Goes.{Leads}
use Rattle.manual.specs.Measured.{Sized, Aligned, MeasuredStep, MeasuredWay, MeasuredIndices, MeasuredPlace, Measured}
use Rattle.manual.proofs.Progress.{Sizes}
use Rattle.agreement.specs.Holds.{ok_same}
use Rattle.agreement.specs.Gives.{Gives, G-put, G-skip, G-then, G-bind, G-map, G-self}
use Rattle.agreement.specs.Lists.{none_some, some_same, In, here, there}
use Rattle.agreement.specs.Setup.{Setup, ctx, given}
use Rattle.agreement.specs.Operand.{ok_or_some}
use Rattle.agreement.specs.Memory.{atomic_ok}
use Rattle.agreement.specs.Alloca.{Varies}
use Rattle.agreement.specs.Inst.{Good}

-- ---- getelementptr
-- the type that a step leads to
unfoldable next_of : Step → Ty
next_of (Step.const off next) = next
next_of (Step.var size next) = next

took_next : (st : Step) (i : TypedVal) (w w' : Walk) → took st i w ≡ ok w' → next_of st ≡ w'.cur_ty
unfolding took next_of
took_next (Step.const off next) i w w' h = ap (λ (v : Walk). v.cur_ty) (ok_same h)
took_next (Step.var size next) i w w' h = let (iw, hw, hk) = bind_ok (int_width i.ty) _ w' h in ap (λ (v : Walk). v.cur_ty) (ok_same hk)

stride_next : (size : ℕ) (next : Ty) (c : Option ℕ) → next_of (stride size next c) ≡ next
unfolding stride next_of
stride_next size next (some c) = refl
stride_next size next none = refl

module _ (structs : List StructType) where
  field_step : (body : StructBody) (k : ℕ) (st : Step) → struct_step structs body (Value.int k) ≡ ok st → ((off : ℕ) × (field_offset structs body k ≡ ok off)) × ((next : Ty) → field_at body.fields k ≡ some next → next ≡ next_of st)
  unfolding struct_step const_int ok_or bind next_of
  field_step body k st h =
      let (next, hn, h₁) = bind_ok (ok_or 14 (field_at body.fields k)) _ st h in
      let (off, ho, h₂) = bind_ok (field_offset structs body k) _ st h₁ in
      ((off, ho), λ t e. some_same (sym e ∙ ok_or_some 14 (field_at body.fields k) next hn) ∙ ap next_of (ok_same h₂))

  step_measured : (ty : Ty) (v : Value) (st : Step) → gep_step structs ty v ≡ ok st → MeasuredStep structs ty v
  unfolding gep_step
  step_measured (Ty.struct p ts) v st h = λ k e. (field_step (record { packed = p; fields = ts }) k st (rw e at h)).0
  step_measured (Ty.named_struct x) v st h =
      let (body, hb, h₁) = bind_ok (resolve structs x) _ st h in
      (body, hb, λ k e. (field_step body k st (subst (λ z. struct_step structs body z ≡ ok st) e h₁)).0)
  step_measured (Ty.array p n elem) v st h = let (size, hs, h₁) = bind_ok (size_of structs elem) _ st h in (size, hs)
  step_measured Ty.void v st h = tt
  step_measured Ty.ptr v st h = tt
  step_measured (Ty.int w) v st h = tt
  step_measured (Ty.sizeless z) v st h = tt

  step_next : {ty : Ty} {v : Value} {next : Ty} (st : Step) → Leads structs ty v next → gep_step structs ty v ≡ ok st → next ≡ next_of st
  unfolding gep_step
  step_next st (Leads.element {elem = elem} {v = v}) h =
      let (size, hs, h₁) = bind_ok (size_of structs elem) _ st h in
      sym (stride_next size elem (const_int v)) ∙ ap next_of (ok_same h₁)
  step_next st (Leads.field {p = p} {ts = ts} {k = k} {next = next} e) h = (field_step (record { packed = p; fields = ts }) k st h).1 next e
  step_next st (Leads.named {x = x} {body = body} {k = k} {next = next} r e) h =
      let (b, hb, h₁) = bind_ok (resolve structs x) _ st h in
      (field_step body k st (subst (λ z. struct_step structs z (Value.int k) ≡ ok st) (ok_same (sym hb ∙ r)) h₁)).1 next e

  rest_measured : (is : List TypedVal) (w w' : Walk) → walk_rest structs is w ≡ ok w' → MeasuredWay structs w.cur_ty is
  unfolding walk_rest
  rest_measured [] w w' h = tt
  rest_measured (i ∷ is) w w' h =
      let (st, hs, h₁) = bind_ok (gep_step structs w.cur_ty i.val) _ w' h in
      let (w₁, ht, h₂) = bind_ok (took st i w) _ w' h₁ in
      (step_measured w.cur_ty i.val st hs, λ next l. subst (λ t. MeasuredWay structs t is) (sym (step_next st l hs ∙ took_next st i w w₁ ht)) (rest_measured is w₁ w' h₂))

  walk_measured : (ty : Ty) (is : List TypedVal) (w : Walk) → walk structs ty is ≡ ok w → MeasuredIndices structs ty is
  unfolding walk first_step start
  walk_measured ty [] w h = tt
  walk_measured ty (i ∷ is) w h =
      let (st, hs, h₁) = bind_ok (bind (size_of structs ty) (λ size. ok (stride size ty (const_int i.val)))) _ w h in
      let (size, hz, hs') = bind_ok (size_of structs ty) _ st hs in
      let (w₁, ht, h₂) = bind_ok (took st i (start ty)) _ w h₁ in
      let next : ty ≡ w₁.cur_ty = sym (stride_next size ty (const_int i.val)) ∙ ap next_of (ok_same hs') ∙ took_next st i (start ty) w₁ ht in
      ((size, hz), rw next (rest_measured is w₁ w h₂))

module _ (s : Setup) where
  -- nothing is measured
  always : {g : Gen} {P : Type 0} → P → Gives g (λ L. P)
  always {g} h = G-map (G-self g) (λ L m. h)

  -- ---- memory
  load_sized : (ty : Ty) (p : Value) → Gives (gen_load (ctx s) ty p) (λ L. Sized s.codegen.structs ty)
  unfolding gen_load
  load_sized ty p = G-bind _ _ λ n h. always (n, h)

  store_sized : (ty : Ty) (v p : Value) → Gives (gen_store (ctx s) ty v p) (λ L. Sized s.codegen.structs ty)
  unfolding gen_store
  store_sized ty v p = G-bind _ _ λ n h. always (n, h)

  -- an atomic access measures first
  atomic_sized : (ty : Ty) (g : Gen) → Gives (require_atomic_width (ctx s) ty >> g) (λ L. Sized s.codegen.structs ty)
  atomic_sized ty g = G-then g (atomic_ok s ty) λ L (e, h). always (8, h)

  gep_measured : (ty : Ty) (p : Value) (is : List TypedVal) → Gives (gen_gep (ctx s) ty p is) (λ L. MeasuredIndices s.codegen.structs ty is)
  unfolding gen_gep
  gep_measured ty p is = G-bind _ _ λ w h. always (walk_measured s.codegen.structs ty is w h)

  -- ---- places
  -- a fixed place has its offset
  abbrev pub HasPlace : Option ℕ → InstKind → Type 0
  HasPlace dest k = (x n : ℕ) (ty : Ty) (count : Option TypedVal) → dest ≡ some x → shape k ≡ Shape.alloca ty count → count_of count ≡ some n → (off : ℕ) × (lookup x s.frame.offsets ≡ some off)

  -- the generator asks for the alignment that the run asks for
  aligned : (align : Option ℕ) (ty : Ty) (a : ℕ) → align_or (ctx s) align ty ≡ ok a → Aligned s.codegen.structs align ty
  unfolding align_or
  aligned (some b) ty a h = tt
  aligned none ty a h = (a, h)

  place_measured : (x : ℕ) (ty : Ty) (count : Option TypedVal) (align : Option ℕ) → Varies s x count → (l : Option ℕ) → lookup x (ctx s).alloca_offsets ≡ l → (n : Option ℕ) → count_of count ≡ n
      → ((m : ℕ) → n ≡ some m → (off : ℕ) × (lookup x s.frame.offsets ≡ some off)) → Gives (place_of (ctx s) l ty count align) (λ L. MeasuredPlace (given s) x ty n align)
  unfolding place_of gen_dynamic_alloca
  place_measured x ty count align vary l hl (some n) hn has = always (has n refl)
  place_measured x ty count align vary (some off) hl none hn has = none_some off (sym (vary hn).0 ∙ hl)
  place_measured x ty count align vary none hl none hn has = G-bind _ _ λ n h. G-bind _ _ λ a k. always ((n, h), aligned align ty a k)

  alloca_measured : (dest : Option ℕ) (ty : Ty) (count : Option TypedVal) (align : Option ℕ) → ((x : ℕ) → dest ≡ some x → Varies s x count) → HasPlace dest (InstKind.alloca ty count align)
      → Gives (gen_alloca (ctx s) dest ty count align) (λ L. Measured (given s) dest (InstKind.alloca ty count align))
  unfolding gen_alloca ok_or shape
  alloca_measured none ty count align vary has = G-bind _ _ λ x e. err_no_ok 5 x e
  alloca_measured (some x) ty count align vary has = G-bind _ _ λ y e. let i : x ≡ y = ok_same e in
      rw (← i) (G-then _ (place_measured x ty count align (vary x refl) _ refl _ refl (λ n h. has x n ty count refl refl h)) λ A p. always (x, refl, p))

  -- ---- an instruction
  kind_measured : (dest : Option ℕ) (k : InstKind) → Good s dest k → HasPlace dest k → Gives (gen_kind (ctx s) dest k) (λ L. Measured (given s) dest k)
  unfolding gen_kind gen_atomic_load gen_atomic_store
  kind_measured dest (InstKind.bin op ty a b) good has = always tt
  kind_measured dest (InstKind.conv op from v to) good has = always tt
  kind_measured dest (InstKind.icmp p ty a b) good has = always tt
  kind_measured dest (InstKind.select c ty a b) good has = always tt
  kind_measured dest (InstKind.load ty p align) good has = G-then _ (load_sized ty p) λ A h. always h
  kind_measured dest (InstKind.store ty v p align) good has = store_sized ty v p
  kind_measured dest (InstKind.alloca ty count align) good has = alloca_measured dest ty count align good.1 has
  kind_measured dest (InstKind.get_element_ptr ty p is) good has = G-then _ (gep_measured ty p is) λ A h. always h
  kind_measured dest (InstKind.call ty v as') good has = always tt
  kind_measured dest (InstKind.phi ty is) good has = always tt
  kind_measured dest (InstKind.freeze ty v) good has = always tt
  kind_measured dest (InstKind.atomic_load ty p) good has = G-then _ (atomic_sized ty _) λ A h. always h
  kind_measured dest (InstKind.atomic_store ty v p) good has = atomic_sized ty _
  kind_measured dest (InstKind.cmpxchg ty p c n) good has = atomic_sized ty _
  kind_measured dest (InstKind.extract_value v k) good has = always tt
  kind_measured dest InstKind.fence good has = always tt

  -- ---- blocks
  abbrev pub Ready : Inst → Type 0
  Ready i = Good s i.dest i.kind × HasPlace i.dest i.kind

  insts_measured : (is : List Inst) → ((i : Inst) → In i is → Ready i) → Gives (each (gen_inst (ctx s)) is) (λ L. Sizes (given s) is)
  unfolding each gen_inst
  insts_measured [] ready = G-skip tt
  insts_measured (i ∷ is) ready = G-then _ (kind_measured i.dest i.kind (ready i here).0 (ready i here).1) λ A p. G-map (insts_measured is (λ j h. ready j (there h))) λ B q. (p, q)

  pub blocks_measured : (bs : List BasicBlock) → ((k : BasicBlock) → In k bs → (i : Inst) → In i k.insts → Ready i) → Gives (each (gen_block (ctx s)) bs) (λ L. Each (λ (b : BasicBlock). Sizes (given s) b.insts) bs)
  unfolding each gen_block
  blocks_measured [] ready = G-skip tt
  blocks_measured (k ∷ bs) ready = G-then _ (G-put _ _ (G-then _ (insts_measured k.insts (ready k here)) λ A p. always p)) λ A p. G-map (blocks_measured bs (λ j h. ready j (there h))) λ B q. (p, q)

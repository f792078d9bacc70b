-- Types and values: decoder and encoder agree.
use Prim.Native.Nat.{ℕ, zero, suc, ◌+◌, ◌≤◌}
use Rattle.std.proofs.Math.Path.{◌≡◌, refl, ap, subst}
use Rattle.std.proofs.Common.{sym, ◌∙◌}
use Rattle.std.specs.Prelude.{Bool, length}
use Rattle.std.proofs.Math.Bool.{true, false}
use Rattle.std.proofs.Math.Option.{Option, none, some}
use mathlib.Core.List.{List, [], ◌∷◌, ◌++◌}
use Rattle.std.proofs.Math.Numerals.{one-add}
use Rattle.std.proofs.Math.Nat.{max-le, le-max_left, le-max_right, le_trans}
use native.Mathlib.Omega.{arith}
use borrow.Author.Tests.{eqb-true, ne_eqb, ltb-true, lt-ltb}
use Rattle.std.proofs.Math.Dec.{eqb}
use Rattle.book.specs.Entry.{Entry, entry}
use Rattle.book.specs.Ast.{Ty, Tys, Value}
use Rattle.book.specs.Rule.{when, unmentioned}
use Rattle.book.specs.Kinds.{TyTag, ValTag, ty_kind, ty_tag, val_tag}
use Rattle.book.specs.Read.{Read, got, bad, Reader, and_then, behind, taking, choose, mapped, stops, closing, is_closing, list_of, many}
use Rattle.book.specs.Decode.{tys, type_as, type_to, type, value_as, value, typed_val}
use Rattle.book.specs.Encode.{ending, closed, enc_ty, enc_tys, depth, depths, value_entry, enc_value, enc_typed}
use Rattle.book.specs.Limits.{Each, Parts, PartsOf, TyTo, TyLimits, ValueLimits, TypedLimits}
use Rattle.book.specs.Agree.{Begins, Sound, Heads, Agrees, no_got, no_some, moved, when_some, entry_is, agrees_one, agrees_word, agrees_both, agrees_mapped, agrees_until, agrees_all}
use Rattle.book.specs.AgreeTy.{ty_is, ty_found, val_is, val_found, untys, tys_untys, enc_tys_lem, depth_pos, ty_head}

-- ---- lists
pub agrees_closing : Agrees closing (λ u. entry 0 0 ∷ []) (λ u. Unit {0})
unfolding closing
agrees_closing =
    agrees_word 0 unmentioned (λ u. 0) (λ u. Unit {0}) (λ w a h. (eqb-true w 0 (when_some (eqb w 0) tt a h).0, tt)) (λ a k. refl)

module _ {A : Type 0} (p : Reader A) (w : A → List Entry) (K : A → Type 0) (heads : Heads w K is_closing false) (s : Agrees p w K) where
  pub agrees_list : (n : ℕ) → Agrees (list_of n p) (closed w) (λ as'. (length as' ≤ n) × Each K as')
  unfolding list_of stops
  agrees_list n = record {
    sound = λ es a k h. let b = t.sound es a k h in record { here = b.here; size = b.size; keeps = (b.keeps.0, b.keeps.1.0) };
    complete = λ a rest k. t.complete a rest (k.0, (k.1, tt));
  }
    where
      t : Agrees (list_of n p) (closed w) (λ as'. (length as' ≤ n) × (Each K as' × Unit {0}))
      t = agrees_mapped (λ r. r.0) (λ as'. (as', tt)) _ _ _ (λ x. refl) (λ x. refl) (agrees_until is_closing p closing w (λ u. entry 0 0 ∷ []) K (λ u. Unit {0}) s agrees_closing heads (λ a rest k. refl) n)

  pub agrees_many : Agrees (many p) (closed w) (Each K)
  unfolding many list_of stops mapped ending
  agrees_many = record {
    sound = λ es a k h. let b = t.sound es a k h in record { here = b.here; size = b.size; keeps = b.keeps.0 };
    complete = λ a rest k. t.complete a rest (k, tt);
  }
    where
      t : Agrees (many p) (closed w) (λ as'. Each K as' × Unit {0})
      t = agrees_mapped (λ r. r.0) (λ as'. (as', tt)) _ _ _ (λ x. refl) (λ x. refl) (agrees_all is_closing p closing w (λ u. entry 0 0 ∷ []) K (λ u. Unit {0}) s agrees_closing heads (λ a rest k. refl))

module _ (m : ℕ) where
  fields_keep : (l : ℕ) (ts : List Ty) → Each (TyTo m l) ts → (depths (tys ts) ≤ l) × PartsOf m (tys ts)
  unfolding depths PartsOf tys
  fields_keep l [] k = (omega arith, tt)
  fields_keep l (t ∷ ts) k =
      let r = fields_keep l ts k.1 in
      (max-le k.0.deep r.0, (k.0.parts, r.1))

  fields_kept : (l : ℕ) (ts : Tys) → depths ts ≤ l → PartsOf m ts → Each (TyTo m l) (untys ts)
  unfolding depths PartsOf untys
  fields_kept l Tys.nil d k = tt
  fields_kept l (Tys.cons t ts) d k =
      (record { deep = le_trans (le-max_left (depth t) (depths ts)) d; parts = k.0 }, fields_kept l ts (le_trans (le-max_right (depth t) (depths ts)) d) k.1)

  -- a type of one entry
  leaf : (l : ℕ) (e : Entry) (es : List Entry) (u t : Ty) (n : ℕ) (b : Bool) → (b ≡ true → (e ∷ [] ≡ enc_ty u) × TyTo m (suc l) u)
      → behind 1 (taking 0 (when b u)) ≡ got t n → Begins enc_ty (TyTo m (suc l)) (e ∷ es) t n
  leaf l e es u t n true k h =
      let q = k refl in
      moved enc_ty (TyTo m (suc l)) (e ∷ es) u t 1 n h (record { here = ap (λ r. r ++ es) q.0; size = ap length q.0; keeps = q.1 })
  leaf l e es u t n false k h = no_got t n h

  leaf_is : (e : Entry) (k w : ℕ) → e.kind ≡ k → e.word ≡ w → e ∷ [] ≡ entry k w ∷ []
  leaf_is e k w p q = ap (λ x. x ∷ []) (entry_is e k w p q)

  module _ (l : ℕ) (ih : Agrees (type_to m l) enc_ty (TyTo m l)) where
    many_ih : Agrees (many (type_to m l)) (closed enc_ty) (Each (TyTo m l))
    many_ih = agrees_many (type_to m l) enc_ty (TyTo m l) (λ t rest k. ty_head is_closing (λ j p q. ne_eqb j 0 (λ z. omega arith)) t rest) ih

    array_sound : (p : Bool) (e : Entry) (es : List Entry) → e.kind ≡ ty_kind (TyTag.array p) → (r : Read Ty) → type_to m l es ≡ r
        → (t : Ty) (n : ℕ) → behind 1 (and_then r (λ u k. got (Ty.array p e.word u) k)) ≡ got t n → Begins enc_ty (TyTo m (suc l)) (e ∷ es) t n
    unfolding enc_ty depth Parts
    array_sound p e es ek (got u k) er t n h =
        let s : Begins enc_ty (TyTo m l) es u k = ih.sound es u k er in
        moved enc_ty (TyTo m (suc l)) (e ∷ es) (Ty.array p e.word u) t (1 + k) n h (record {
          here = rw one-add (ap (λ x. x ∷ es) (entry_is e _ e.word ek refl) ∙ ap (λ r. entry (ty_kind (TyTag.array p)) e.word ∷ r) s.here);
          size = rw one-add (ap suc s.size);
          keeps = record { deep = omega (arith, s.keeps.deep); parts = s.keeps.parts };
        })
    array_sound p e es ek bad er t n h = no_got t n h

    struct_sound : (p : Bool) (e : Entry) (es : List Entry) → e.kind ≡ ty_kind (TyTag.struct p) → (b : Bool) → eqb e.word 0 ≡ b → (r : Read (List Ty)) → many (type_to m l) es ≡ r
        → (t : Ty) (n : ℕ) → behind 1 (choose b (and_then r (λ ts k. got (Ty.struct p (tys ts)) k)) bad) ≡ got t n → Begins enc_ty (TyTo m (suc l)) (e ∷ es) t n
    unfolding enc_ty depth Parts
    struct_sound p e es ek true eb (got ts k) er t n h =
        let s : Begins (closed enc_ty) (Each (TyTo m l)) es ts k = many_ih.sound es ts k er in
        let f = fields_keep l ts s.keeps in
        moved enc_ty (TyTo m (suc l)) (e ∷ es) (Ty.struct p (tys ts)) t (1 + k) n h (record {
          here = rw (one-add, enc_tys_lem) (ap (λ x. x ∷ es) (entry_is e _ 0 ek (eqb-true _ _ eb)) ∙ ap (λ r. entry (ty_kind (TyTag.struct p)) 0 ∷ r) s.here);
          size = rw (one-add, enc_tys_lem) (ap suc s.size);
          keeps = record { deep = omega (arith, f.0); parts = f.1 };
        })
    struct_sound p e es ek true eb bad er t n h = no_got t n h
    struct_sound p e es ek false eb r er t n h = no_got t n h

    as_sound : (g : Option TyTag) (e : Entry) (es : List Entry) → ty_tag e.kind ≡ g → (t : Ty) (n : ℕ)
        → behind 1 (type_as m (type_to m l) e.word g es) ≡ got t n → Begins enc_ty (TyTo m (suc l)) (e ∷ es) t n
    unfolding type_as enc_ty depth Parts
    as_sound none e es eg t n h = no_got t n h
    as_sound (some TyTag.void) e es eg t n h =
        leaf l e es Ty.void t n _ (λ b. (leaf_is e 10 0 (ty_is _ _ eg) (eqb-true _ _ b), record { deep = omega arith; parts = tt })) h
    as_sound (some TyTag.int) e es eg t n h =
        leaf l e es (Ty.int e.word) t n _ (λ b. (leaf_is e 11 e.word (ty_is _ _ eg) refl, record { deep = omega arith; parts = b })) h
    as_sound (some TyTag.ptr) e es eg t n h =
        leaf l e es Ty.ptr t n _ (λ b. (leaf_is e 12 0 (ty_is _ _ eg) (eqb-true _ _ b), record { deep = omega arith; parts = tt })) h
    as_sound (some (TyTag.array p)) e es eg t n h = array_sound p e es (ty_is _ _ eg) (type_to m l es) refl t n h
    as_sound (some TyTag.named) e es eg t n h =
        leaf l e es (Ty.named_struct e.word) t n _ (λ b. (leaf_is e 15 e.word (ty_is _ _ eg) refl, record { deep = omega arith; parts = ltb-true _ _ b })) h
    as_sound (some (TyTag.struct p)) e es eg t n h = struct_sound p e es (ty_is _ _ eg) (eqb e.word 0) refl (many (type_to m l) es) refl t n h
    as_sound (some (TyTag.sizeless s)) e es eg t n h =
        leaf l e es (Ty.sizeless s) t n _ (λ b. (leaf_is e _ 0 (ty_is _ _ eg) (eqb-true _ _ b), record { deep = omega arith; parts = tt })) h

    type_complete : (t : Ty) (rest : List Entry) → TyTo m (suc l) t → type_to m (suc l) (enc_ty t ++ rest) ≡ got t (length (enc_ty t))
    unfolding type_to type_as enc_ty depth Parts
    type_complete Ty.void rest k = rw (ty_found TyTag.void)
    type_complete Ty.ptr rest k = rw (ty_found TyTag.ptr)
    type_complete (Ty.sizeless s) rest k = rw (ty_found (TyTag.sizeless s))
    type_complete (Ty.int w) rest k = rw (ty_found TyTag.int, k.parts)
    type_complete (Ty.array p n t) rest k =
        rw (ty_found (TyTag.array p), ih.complete t rest (record { deep = omega (arith, k.deep); parts = k.parts }), one-add)
    type_complete (Ty.named_struct x) rest k = rw (ty_found TyTag.named, lt-ltb x m k.parts)
    type_complete (Ty.struct p ts) rest k =
        let c : many (type_to m l) (closed enc_ty (untys ts) ++ rest) ≡ got (untys ts) (length (closed enc_ty (untys ts))) =
        many_ih.complete (untys ts) rest (fields_kept l ts (omega (arith, k.deep)) k.parts) in
        let e : enc_tys ts ≡ closed enc_ty (untys ts) = ap enc_tys (sym (tys_untys ts)) ∙ enc_tys_lem (untys ts) in
        rw (ty_found (TyTag.struct p), e, c, tys_untys, one-add)

    agrees_step : Agrees (type_to m (suc l)) enc_ty (TyTo m (suc l))
    unfolding type_to
    agrees_step = record { sound = sound; complete = type_complete }
      where
        sound : Sound enc_ty (TyTo m (suc l)) (type_to m (suc l))
        sound [] t n h = no_got t n h
        sound (e ∷ es) t n h = as_sound (ty_tag e.kind) e es refl t n h

  pub agrees_type_to : (l : ℕ) → Agrees (type_to m l) enc_ty (TyTo m l)
  unfolding type_to
  agrees_type_to zero = record { sound = λ es t n h. no_got t n h; complete = λ t rest k. absurd (omega (arith, depth_pos t, k.deep)) }
  agrees_type_to (suc l) = agrees_step l (agrees_type_to l)

  pub agrees_type : Agrees (type m) enc_ty (TyLimits m)
  agrees_type = agrees_type_to 64

  -- ---- values
  value_of : (e : Entry) (u v : Value) (b : Bool) → (b ≡ true → (e ≡ value_entry u) × ValueLimits m u) → when b u ≡ some v → (e ≡ value_entry v) × ValueLimits m v
  value_of e u v true k h = subst (λ x. (e ≡ value_entry x) × ValueLimits m x) (cc) (k refl)
  value_of e u v false k h = no_some v h

  value_is : (e : Entry) (v : Value) (g : Option ValTag) → val_tag e.kind ≡ g → value_as m e.word g ≡ some v → (e ≡ value_entry v) × ValueLimits m v
  unfolding value_as value_entry
  value_is e v none eg h = no_some v h
  value_is e v (some ValTag.local) eg h = value_of e (Value.local e.word) v _ (λ b. (entry_is e 30 e.word (val_is _ _ eg) refl, ltb-true _ _ b)) h
  value_is e v (some ValTag.global) eg h = value_of e (Value.global e.word) v _ (λ b. (entry_is e 31 e.word (val_is _ _ eg) refl, ltb-true _ _ b)) h
  value_is e v (some ValTag.int) eg h = value_of e (Value.int e.word) v true (λ b. (entry_is e 32 e.word (val_is _ _ eg) refl, tt)) h
  value_is e v (some (ValTag.zero z)) eg h = value_of e (Value.zero z) v _ (λ b. (entry_is e _ 0 (val_is _ _ eg) (eqb-true _ _ b), tt)) h
  value_is e v (some ValTag.other) eg h = value_of e Value.other v _ (λ b. (entry_is e 37 0 (val_is _ _ eg) (eqb-true _ _ b), tt)) h

  value_found : (v : Value) → ValueLimits m v → value_as m (value_entry v).word (val_tag (value_entry v).kind) ≡ some v
  unfolding value_as value_entry
  value_found (Value.local x) k = rw (val_found ValTag.local, lt-ltb x m k)
  value_found (Value.global x) k = rw (val_found ValTag.global, lt-ltb x m k)
  value_found (Value.int c) k = rw (val_found ValTag.int)
  value_found (Value.zero z) k = rw (val_found (ValTag.zero z))
  value_found Value.other k = rw (val_found ValTag.other)

  pub agrees_value : Agrees (value m) enc_value (ValueLimits m)
  unfolding value
  agrees_value = agrees_one _ value_entry (ValueLimits m) (λ e v h. value_is e v _ refl h) value_found

  pub agrees_typed : Agrees (typed_val m) enc_typed (TypedLimits m)
  unfolding typed_val
  agrees_typed =
      agrees_mapped (λ p. record { ty = p.0; val = p.1 }) (λ v. (v.ty, v.val)) _ _ _ (λ x. refl) (λ x. refl)
      (agrees_both (type m) (value m) enc_ty enc_value (TyLimits m) (ValueLimits m) agrees_type agrees_value)

-- A type, or a struct's fields, at the front of lent entries, and what the entry in front says of it.
use Rattle.std.specs.Prelude.{ℕ, zero, suc, ◌+◌, ◌<◌, ◌≤◌, ◌^◌, ◌≡◌, ◌⊎◌, true, false, get_or}
use Rattle.std.proofs.Math.Path.{refl, ap}
use Rattle.std.proofs.Common.{sym, ◌∙◌, subst, ⊎_elim, arith, drop-drop, get_or-drop}
use Rattle.std.proofs.Math.Logic.{inl, inr}
use Rattle.std.proofs.Math.Option.{some}
use mathlib.Core.List.{List, [], ◌∷◌, ◌++◌, append_assoc}
use Rattle.std.proofs.Math.Nat.{le-max_left, le-max_right, le_trans}
use borrow.Author.Tests.{eqb-false, ne_eqb}
use Rattle.std.proofs.Math.ListN.{length, drop, length-append, length-drop}
use Rattle.std.proofs.Math.Seq.{drop-append_seam}
use Rattle.numbers.specs.Width.{width_ok}
use Rattle.book.specs.Entry.{Entry, entry, entries}
use Rattle.book.specs.Ast.{Ty, Tys, Sizeless}
use Rattle.book.specs.Read.{Read, got, bad, stops, is_closing, many}
use Rattle.book.specs.Kinds.{TyTag, ty_tag, ty_kind}
use Rattle.book.specs.Decode.{tys, type_to}
use Rattle.book.specs.Encode.{enc_ty, enc_tys, depth, depths, closed}
use Rattle.book.specs.Limits.{Each, Parts, PartsOf, TyTo}
use Rattle.book.specs.AgreeTy.{ty_found, ty_head, untys, enc_tys_lem}
use Rattle.book.proofs.AgreeTy.{agrees_type_to}
use Rattle.book_types.specs.Groups.{type_group_of}
use Rattle.book_types.specs.Laws.{entries_drop}
use Rattle.book_types.specs.TypeLaws.{agrees_types}
use Rattle.book_types.specs.declared.types.TypeGroup.{TypeGroup}
use Rattle.book_types.specs.declared.types.TypeGroup.TheVariants as group

module _ (m : ℕ) where
  -- the entries start with a type of the book
  pub record Starts (es : List Entry) : Type 0 where
    pub ty : Ty
    pub rest : List Entry
    pub here : es ≡ enc_ty ty ++ rest
    pub keeps : TyTo m 64 ty
    pub few : length es ≤ 2 ^ 20

  -- they start with a list of types, its closing entry with it
  pub record StartsFields (es : List Entry) : Type 0 where
    pub fields : Tys
    pub rest : List Entry
    pub here : es ≡ enc_tys fields ++ rest
    pub deep : depths fields ≤ 64
    pub parts : PartsOf m fields
    pub few : length es ≤ 2 ^ 20

abbrev read_or : {A : Type 0} → A → Read A → A
read_or d (got a n) = a
read_or d bad = d

abbrev pub count_of : {A : Type 0} → Read A → ℕ
count_of (got a n) = n
count_of bad = 0

module _ (m : ℕ) where
  -- the type that stands there; the number of its entries; the list of types
  unfoldable pub ty_of : List Entry → Ty
  ty_of es = read_or Ty.void (type_to m 64 es)

  unfoldable pub ty_len : List Entry → ℕ
  ty_len es = count_of (type_to m 64 es)

  unfoldable pub tys_of : List Entry → Tys
  tys_of es = tys (read_or [] (many (type_to m 64) es))

tys_untys : (ts : Tys) → tys (untys ts) ≡ ts
unfolding tys untys
tys_untys Tys.nil = refl
tys_untys (Tys.cons t ts) = ap (Tys.cons t) (tys_untys ts)

module _ (m : ℕ) where
  kept : (l : ℕ) (ts : Tys) → depths ts ≤ l → PartsOf m ts → Each (TyTo m l) (untys ts)
  unfolding depths PartsOf untys
  kept l Tys.nil d k = tt
  kept l (Tys.cons t ts) d k =
      (record { deep = le_trans (le-max_left (depth t) (depths ts)) d; parts = k.0 }, kept l ts (le_trans (le-max_right (depth t) (depths ts)) d) k.1)

module _ {m : ℕ} where
  pub starts_read : {es : List Entry} (s : Starts m es) → type_to m 64 es ≡ got s.ty (length (enc_ty s.ty))
  starts_read s = ap (type_to m 64) s.here ∙ (agrees_type_to m 64).complete s.ty s.rest s.keeps

  pub ty_is : {es : List Entry} (s : Starts m es) → ty_of m es ≡ s.ty
  unfolding ty_of
  ty_is s = ap (read_or Ty.void) (starts_read s)

  pub len_is : {es : List Entry} (s : Starts m es) → ty_len m es ≡ length (enc_ty s.ty)
  unfolding ty_len
  len_is s = ap count_of (starts_read s)

  fields_read : {es : List Entry} (s : StartsFields m es) → many (type_to m 64) es ≡ got (untys s.fields) (length (closed enc_ty (untys s.fields)))
  fields_read s =
      let e : enc_tys s.fields ≡ closed enc_ty (untys s.fields) = ap enc_tys (sym (tys_untys s.fields)) ∙ enc_tys_lem (untys s.fields) in
      ap (many (type_to m 64)) (s.here ∙ ap (λ (r : List Entry). r ++ s.rest) e)
      ∙ (agrees_types m 64).complete (untys s.fields) s.rest (kept m 64 s.fields s.deep s.parts)

  pub tys_is : {es : List Entry} (s : StartsFields m es) → tys_of m es ≡ s.fields
  unfolding tys_of
  tys_is s = ap (λ r. tys (read_or [] r)) (fields_read s) ∙ tys_untys s.fields

-- ---- the entry in front
entries_head : (ks ws : List ℕ) (e : Entry) (tail : List Entry) → entries ks ws ≡ e ∷ tail
    → (get_or ks 0 0 ≡ e.kind) × ((get_or ws 0 0 ≡ e.word) × (drop 1 (entries ks ws) ≡ tail))
unfolding entries
entries_head [] ws e tail h = absurd (let z : ◌≡◌ {A = ℕ} 0 1 = cc in omega arith)
entries_head (k ∷ ks) [] e tail h = absurd (let z : ◌≡◌ {A = ℕ} 0 1 = cc in omega arith)
entries_head (k ∷ ks) (w ∷ ws) e tail h =
    let p : entry k w ≡ e = cc in
    (ap (λ (x : Entry). x.kind) p, (ap (λ (x : Entry). x.word) p, ap (drop 1) h))

-- what the group of the kind in front says of the type, with the word w in front and the entries behind
abbrev pub ShapeOf : (m w : ℕ) (tail : List Entry) (t : Ty) → TypeGroup → Type 0
ShapeOf m w tail t group.Void = t ≡ Ty.void
ShapeOf m w tail t group.Int = (t ≡ Ty.int w) × (width_ok w ≡ true)
ShapeOf m w tail t group.Ptr = t ≡ Ty.ptr
ShapeOf m w tail t (group.Array p) = Starts m tail × (t ≡ Ty.array p w (ty_of m tail))
ShapeOf m w tail t group.Named = (w < m) × (t ≡ Ty.named_struct w)
ShapeOf m w tail t (group.Struct p) = StartsFields m tail × (t ≡ Ty.struct p (tys_of m tail))
ShapeOf m w tail t group.Sizeless = (s : Sizeless) × (t ≡ Ty.sizeless s)
ShapeOf m w tail t group.Other = ⊥

module _ (m : ℕ) (ks ws : List ℕ) (g : TypeGroup) (eg : g ≡ type_group_of (ty_tag (get_or ks 0 0))) (few : length (entries ks ws) ≤ 2 ^ 20) where
  at_tag : (tag : TyTag) (t : Ty) → get_or ks 0 0 ≡ ty_kind tag
      → ShapeOf m (get_or ws 0 0) (drop 1 (entries ks ws)) t (type_group_of (some tag)) → ShapeOf m (get_or ws 0 0) (drop 1 (entries ks ws)) t g
  at_tag tag t e s =
      subst (ShapeOf m (get_or ws 0 0) (drop 1 (entries ks ws)) t) (sym (eg ∙ ap type_group_of (ap ty_tag e ∙ ty_found tag))) s

  shape_of : (t : Ty) (rest : List Entry) → entries ks ws ≡ enc_ty t ++ rest → TyTo m 64 t → ShapeOf m (get_or ws 0 0) (drop 1 (entries ks ws)) t g
  unfolding enc_ty depth Parts
  shape_of Ty.void rest h k = at_tag TyTag.void Ty.void (entries_head ks ws _ _ h).0 refl
  shape_of Ty.ptr rest h k = at_tag TyTag.ptr Ty.ptr (entries_head ks ws _ _ h).0 refl
  shape_of (Ty.sizeless s) rest h k = at_tag (TyTag.sizeless s) (Ty.sizeless s) (entries_head ks ws _ _ h).0 (s, refl)
  shape_of (Ty.int w) rest h k =
      let x = entries_head ks ws _ _ h in
      at_tag TyTag.int (Ty.int w) x.0 (ap Ty.int (sym x.1.0), ap width_ok x.1.0 ∙ k.parts)
  shape_of (Ty.named_struct n) rest h k =
      let x = entries_head ks ws _ _ h in
      at_tag TyTag.named (Ty.named_struct n) x.0 (rw x.1.0 k.parts, ap Ty.named_struct (sym x.1.0))
  shape_of (Ty.array p n t) rest h k =
      let x = entries_head ks ws _ _ h in
      let s : Starts m (drop 1 (entries ks ws)) = record { ty = t; rest = rest; here = x.1.1; keeps = record { deep = omega (arith, k.deep); parts = k.parts }; few = omega (arith, length-drop 1 (entries ks ws)) } in
      at_tag (TyTag.array p) (Ty.array p n t) x.0 (s, ap (λ (w : ℕ). Ty.array p w t) (sym x.1.0) ∙ ap (Ty.array p (get_or ws 0 0)) (sym (ty_is s)))
  shape_of (Ty.struct p ts) rest h k =
      let x = entries_head ks ws _ _ h in
      let s : StartsFields m (drop 1 (entries ks ws)) = record { fields = ts; rest = rest; here = x.1.1; deep = omega (arith, k.deep); parts = k.parts; few = omega (arith, length-drop 1 (entries ks ws)) } in
      at_tag (TyTag.struct p) (Ty.struct p ts) x.0 (s, ap (Ty.struct p) (sym (tys_is s)))

-- the group of the kind in front tells the type
pub shape : (m : ℕ) (ks ws : List ℕ) (g : TypeGroup) → g ≡ type_group_of (ty_tag (get_or ks 0 0)) → Starts m (entries ks ws)
    → ShapeOf m (get_or ws 0 0) (drop 1 (entries ks ws)) (ty_of m (entries ks ws)) g
shape m ks ws g eg s =
    subst (λ (t : Ty). ShapeOf m (get_or ws 0 0) (drop 1 (entries ks ws)) t g) (sym (ty_is s)) (shape_of m ks ws g eg s.few s.ty s.rest s.here s.keeps)

-- ---- fields
unfoldable pub kind_of : List Entry → ℕ
kind_of [] = 0
kind_of (e ∷ es) = e.kind

open_kind : (es : List Entry) → stops is_closing es ≡ false → kind_of es ≡ 0 → ⊥
unfolding kind_of stops
open_kind [] h e = let z : ◌≡◌ {A = ℕ} 0 1 = cc in omega arith
open_kind (x ∷ es) h e = eqb-false x.kind 0 h e

pub enc_pos : (t : Ty) → 1 ≤ length (enc_ty t)
unfolding enc_ty
enc_pos Ty.void = omega arith
enc_pos Ty.ptr = omega arith
enc_pos (Ty.sizeless s) = omega arith
enc_pos (Ty.int w) = omega arith
enc_pos (Ty.array p n t) = omega arith
enc_pos (Ty.named_struct x) = omega arith
enc_pos (Ty.struct p ts) = omega arith

pub encs_pos : (ts : Tys) → 1 ≤ length (enc_tys ts)
unfolding enc_tys
encs_pos Tys.nil = omega arith
encs_pos (Tys.cons t ts) = omega (arith, length-append (enc_ty t) (enc_tys ts), enc_pos t)

module _ (m : ℕ) where
  -- a field and the fields behind it
  pub record Fielded (es : List Entry) : Type 0 where
    pub field : Starts m es
    pub later : StartsFields m (drop (ty_len m es) es)
    pub same : tys_of m es ≡ Tys.cons (ty_of m es) (tys_of m (drop (ty_len m es) es))
    pub there : 1 ≤ ty_len m es
    pub fits : ty_len m es < length es

module _ {m : ℕ} where
  pub fields_there : {es : List Entry} → StartsFields m es → 1 ≤ length es
  fields_there s = omega (arith, ap length s.here, length-append (enc_tys s.fields) s.rest, encs_pos s.fields)

  cons_of : {es : List Entry} (t : Ty) (ts : Tys) (rest : List Entry) → es ≡ enc_ty t ++ (enc_tys ts ++ rest) → depths (Tys.cons t ts) ≤ 64 → PartsOf m (Tys.cons t ts) → length es ≤ 2 ^ 20
      → tys_of m es ≡ Tys.cons t ts → Fielded m es
  unfolding depths PartsOf
  cons_of {es} t ts rest h d k few e =
      let s : Starts m es = record { ty = t; rest = enc_tys ts ++ rest; here = h; keeps = record { deep = le_trans (le-max_left (depth t) (depths ts)) d; parts = k.0 }; few = few } in
      let n : ty_len m es ≡ length (enc_ty t) = len_is s in
      let b : drop (ty_len m es) es ≡ enc_tys ts ++ rest = ap (λ (x : ℕ). drop x es) n ∙ ap (drop (length (enc_ty t))) h ∙ drop-append_seam (enc_ty t) (enc_tys ts ++ rest) in
      let l : StartsFields m (drop (ty_len m es) es) = record { fields = ts; rest = rest; here = b; deep = le_trans (le-max_right (depth t) (depths ts)) d; parts = k.1; few = omega (arith, length-drop (ty_len m es) es) } in
      record {
        field = s;
        later = l;
        same = e ∙ ap (λ (x : Ty). Tys.cons x ts) (sym (ty_is s)) ∙ ap (Tys.cons (ty_of m es)) (sym (tys_is l));
        there = omega (arith, enc_pos t);
        fits = omega (arith, ap length h, length-append (enc_ty t) (enc_tys ts ++ rest), length-append (enc_tys ts) rest, encs_pos ts);
      }

  fields_view : {es : List Entry} (s : StartsFields m es) (ts : Tys) → s.fields ≡ ts
      → ((kind_of es ≡ 0) × (tys_of m es ≡ Tys.nil)) ⊎ ((kind_of es ≡ 0 → ⊥) × Fielded m es)
  unfolding enc_tys kind_of
  fields_view s Tys.nil e =
      let h = s.here ∙ ap (λ (x : Tys). enc_tys x ++ s.rest) e in
      inl (ap kind_of h, tys_is s ∙ e)
  fields_view {es} s (Tys.cons t ts) e =
      let h : es ≡ enc_ty t ++ (enc_tys ts ++ s.rest) = s.here ∙ ap (λ (x : Tys). enc_tys x ++ s.rest) e ∙ append_assoc (enc_ty t) (enc_tys ts) s.rest in
      inr (
        open_kind es (ap (stops is_closing) h ∙ ty_head is_closing (λ j p q. ne_eqb j 0 (λ z. omega arith)) t (enc_tys ts ++ s.rest)),
        cons_of t ts s.rest h (subst (λ (x : Tys). depths x ≤ 64) e s.deep) (subst (λ (x : Tys). PartsOf m x) e s.parts) s.few (tys_is s ∙ e),
      )

  pub fields_nil : {es : List Entry} → StartsFields m es → kind_of es ≡ 0 → tys_of m es ≡ Tys.nil
  fields_nil s z = ⊎_elim (λ v. v.1) (λ v. absurd (v.0 z)) (fields_view s s.fields refl)

  pub fields_cons : {es : List Entry} → StartsFields m es → (kind_of es ≡ 0 → ⊥) → Fielded m es
  fields_cons s z = ⊎_elim (λ v. absurd (z v.0)) (λ v. v.1) (fields_view s s.fields refl)

-- the kind at a place of the entries
pub kind_at_lem : (ks ws : List ℕ) (a : ℕ) → a < length (entries ks ws) → kind_of (drop a (entries ks ws)) ≡ get_or ks a 0
unfolding entries kind_of
kind_at_lem [] ws a h = absurd (omega arith)
kind_at_lem (k ∷ ks) [] a h = absurd (omega arith)
kind_at_lem (k ∷ ks) (w ∷ ws) zero h = refl
kind_at_lem (k ∷ ks) (w ∷ ws) (suc a) h = kind_at_lem ks ws a (omega arith)

-- ---- the type at a place
module _ (m : ℕ) (ks ws : List ℕ) (at : ℕ) (s : Starts m (drop at (entries ks ws))) (g : TypeGroup) (eg : g ≡ type_group_of (ty_tag (get_or ks at 0))) where
  get_d_front : (xs : List ℕ) (n : ℕ) → get_or (drop n xs) 0 0 ≡ get_or xs n 0
  get_d_front xs n = rw (get_or-drop n xs 0 0) (ap (λ (j : ℕ). get_or xs j 0) (omega arith))

  pub shape_at : (h : TypeGroup) → g ≡ h → ShapeOf m (get_or ws at 0) (drop (at + 1) (entries ks ws)) (ty_of m (drop at (entries ks ws))) h
  shape_at h e =
      let d : entries (drop at ks) (drop at ws) ≡ drop at (entries ks ws) = entries_drop at ks ws in
      let x = shape m (drop at ks) (drop at ws) g (eg ∙ ap (λ (j : ℕ). type_group_of (ty_tag j)) (sym (get_d_front ks at))) (subst (Starts m) (sym d) s) in
      let y : ShapeOf m (get_or (drop at ws) 0 0) (drop 1 (drop at (entries ks ws))) (ty_of m (drop at (entries ks ws))) g = rw d at x in
      rw (← e, ← get_d_front ws at, ← drop-drop 1 at (entries ks ws)) y

-- Where a type of a sound book ends: behind its last open list.
use Rattle.std.specs.Prelude.{ℕ, zero, suc, ◌+◌, ◌-◌, ◌≤◌, Bool, ◌||◌, eqb, get_or}
use Rattle.std.proofs.Math.Path.{◌≡◌, refl, sym, ap}
use Rattle.std.proofs.Common.{◌∙◌, arith, drop-drop}
use Rattle.std.proofs.Math.Bool.{true, false}
use mathlib.Core.List.{List, [], ◌∷◌, ◌++◌, append_assoc}
use Rattle.std.proofs.Math.ListN.{length, drop, length-append, length-drop}
use Rattle.book.specs.Entry.{Entry, entries}
use Rattle.book.specs.Ast.{Ty, Tys, Sizeless}
use Rattle.book.specs.Encode.{enc_ty, enc_tys}
use Rattle.book_types.specs.Laws.{within_kinds}
use Rattle.layout_memo.specs.Front.{Starts, ty_len, len_is, kind_of, kind_at_lem, enc_pos, encs_pos}

abbrev pickℕ : Bool → ℕ → ℕ → ℕ
pickℕ true a b = a
pickℕ false a b = b

-- the lists that are open behind an entry of this kind
abbrev pub opens_by : ℕ → ℕ → ℕ
opens_by kind lists = pickℕ (eqb kind 0) (lists - 1) (pickℕ (eqb kind 16) (lists + 1) (pickℕ (eqb kind 17) (lists + 1) lists))

abbrev pub array_kind : ℕ → Bool
array_kind kind = eqb kind 13 || eqb kind 14

-- lists that are open, the innermost first, and what stands behind them
unfoldable pub pending : List Tys → List Entry → List Entry
pending [] rest = rest
pending (ts ∷ stack) rest = enc_tys ts ++ pending stack rest

module _ (es rest : List Entry) where
  -- a type at the place
  pub record TypeAt (at : ℕ) : Type 0 where
    pub ty : Ty
    pub here : drop at es ≡ enc_ty ty ++ rest
    pub there : at ≤ length es

  -- so many open lists at the place
  pub record OpenAt (at lists : ℕ) : Type 0 where
    pub stack : List Tys
    pub here : drop at es ≡ pending stack rest
    pub count : length stack ≡ lists
    pub there : at ≤ length es

module _ (es : List Entry) (at : ℕ) {e : Entry} {tail : List Entry} (h : drop at es ≡ e ∷ tail) where
  behind : drop (at + 1) es ≡ tail
  behind = sym (drop-drop 1 at es) ∙ ap (drop 1) h

  further : at ≤ length es → at + 1 ≤ length es
  further l = omega (arith, ap length h, length-drop at es)

  kind_here : kind_of (drop at es) ≡ e.kind
  unfolding kind_of
  kind_here = ap kind_of h

module _ (es rest : List Entry) (at : ℕ) where
  -- a type in front of open lists
  type_opens : (t : Ty) (ts : Tys) (stack : List Tys) → drop at es ≡ enc_ty t ++ (enc_tys ts ++ pending stack rest) → at ≤ length es
      → OpenAt es rest (at + 1) (opens_by (kind_of (drop at es)) (suc (length stack)))
  unfolding enc_ty enc_tys pending
  type_opens Ty.void ts stack h l = rw (kind_here es at h) (record { stack = ts ∷ stack; here = behind es at h; count = refl; there = further es at h l })
  type_opens Ty.ptr ts stack h l = rw (kind_here es at h) (record { stack = ts ∷ stack; here = behind es at h; count = refl; there = further es at h l })
  type_opens (Ty.sizeless Sizeless.func) ts stack h l = rw (kind_here es at h) (record { stack = ts ∷ stack; here = behind es at h; count = refl; there = further es at h l })
  type_opens (Ty.sizeless Sizeless.label) ts stack h l = rw (kind_here es at h) (record { stack = ts ∷ stack; here = behind es at h; count = refl; there = further es at h l })
  type_opens (Ty.sizeless Sizeless.metadata) ts stack h l = rw (kind_here es at h) (record { stack = ts ∷ stack; here = behind es at h; count = refl; there = further es at h l })
  type_opens (Ty.int w) ts stack h l = rw (kind_here es at h) (record { stack = ts ∷ stack; here = behind es at h; count = refl; there = further es at h l })
  type_opens (Ty.named_struct x) ts stack h l = rw (kind_here es at h) (record { stack = ts ∷ stack; here = behind es at h; count = refl; there = further es at h l })
  type_opens (Ty.array true n t) ts stack h l = rw (kind_here es at h) (record { stack = Tys.cons t ts ∷ stack; here = behind es at h ∙ sym (append_assoc (enc_ty t) (enc_tys ts) (pending stack rest)); count = refl; there = further es at h l })
  type_opens (Ty.array false n t) ts stack h l = rw (kind_here es at h) (record { stack = Tys.cons t ts ∷ stack; here = behind es at h ∙ sym (append_assoc (enc_ty t) (enc_tys ts) (pending stack rest)); count = refl; there = further es at h l })
  type_opens (Ty.struct true us) ts stack h l = rw (kind_here es at h) (record { stack = us ∷ (ts ∷ stack); here = behind es at h; count = omega arith; there = further es at h l })
  type_opens (Ty.struct false us) ts stack h l = rw (kind_here es at h) (record { stack = us ∷ (ts ∷ stack); here = behind es at h; count = omega arith; there = further es at h l })

  list_opens : (stack : List Tys) → drop at es ≡ pending stack rest → at ≤ length es → (length stack ≡ 0 → ⊥) → OpenAt es rest (at + 1) (opens_by (kind_of (drop at es)) (length stack))
  unfolding pending enc_tys
  list_opens [] h l z = absurd (z refl)
  list_opens (Tys.nil ∷ stack) h l z = rw (kind_here es at h) (record { stack = stack; here = behind es at h; count = omega arith; there = further es at h l })
  list_opens (Tys.cons t ts ∷ stack) h l z = type_opens t ts stack (h ∙ append_assoc (enc_ty t) (enc_tys ts) (pending stack rest)) l

  -- a type alone: an array's element comes next, any other opens a list or is passed
  type_alone : (t : Ty) → drop at es ≡ enc_ty t ++ rest → at ≤ length es
      → (array_kind (kind_of (drop at es)) ≡ true → TypeAt es rest (at + 1)) × (array_kind (kind_of (drop at es)) ≡ false → OpenAt es rest (at + 1) (opens_by (kind_of (drop at es)) 0))
  unfolding enc_ty pending
  type_alone Ty.void h l = rw (kind_here es at h) ((λ e. absurd (let z : ◌≡◌ {A = ℕ} 0 1 = cc in omega arith)), λ e. record { stack = []; here = behind es at h; count = refl; there = further es at h l })
  type_alone Ty.ptr h l = rw (kind_here es at h) ((λ e. absurd (let z : ◌≡◌ {A = ℕ} 0 1 = cc in omega arith)), λ e. record { stack = []; here = behind es at h; count = refl; there = further es at h l })
  type_alone (Ty.sizeless Sizeless.func) h l = rw (kind_here es at h) ((λ e. absurd (let z : ◌≡◌ {A = ℕ} 0 1 = cc in omega arith)), λ e. record { stack = []; here = behind es at h; count = refl; there = further es at h l })
  type_alone (Ty.sizeless Sizeless.label) h l = rw (kind_here es at h) ((λ e. absurd (let z : ◌≡◌ {A = ℕ} 0 1 = cc in omega arith)), λ e. record { stack = []; here = behind es at h; count = refl; there = further es at h l })
  type_alone (Ty.sizeless Sizeless.metadata) h l = rw (kind_here es at h) ((λ e. absurd (let z : ◌≡◌ {A = ℕ} 0 1 = cc in omega arith)), λ e. record { stack = []; here = behind es at h; count = refl; there = further es at h l })
  type_alone (Ty.int w) h l = rw (kind_here es at h) ((λ e. absurd (let z : ◌≡◌ {A = ℕ} 0 1 = cc in omega arith)), λ e. record { stack = []; here = behind es at h; count = refl; there = further es at h l })
  type_alone (Ty.named_struct x) h l = rw (kind_here es at h) ((λ e. absurd (let z : ◌≡◌ {A = ℕ} 0 1 = cc in omega arith)), λ e. record { stack = []; here = behind es at h; count = refl; there = further es at h l })
  type_alone (Ty.array true n t) h l = rw (kind_here es at h) ((λ e. record { ty = t; here = behind es at h; there = further es at h l }), λ e. absurd (let z : ◌≡◌ {A = ℕ} 0 1 = cc in omega arith))
  type_alone (Ty.array false n t) h l = rw (kind_here es at h) ((λ e. record { ty = t; here = behind es at h; there = further es at h l }), λ e. absurd (let z : ◌≡◌ {A = ℕ} 0 1 = cc in omega arith))
  type_alone (Ty.struct true us) h l = rw (kind_here es at h) ((λ e. absurd (let z : ◌≡◌ {A = ℕ} 0 1 = cc in omega arith)), λ e. record { stack = us ∷ []; here = behind es at h; count = refl; there = further es at h l })
  type_alone (Ty.struct false us) h l = rw (kind_here es at h) ((λ e. absurd (let z : ◌≡◌ {A = ℕ} 0 1 = cc in omega arith)), λ e. record { stack = us ∷ []; here = behind es at h; count = refl; there = further es at h l })

type_kind : {es : List Entry} (rest : List Entry) (t : Ty) → es ≡ enc_ty t ++ rest → kind_of es ≡ 0 → ⊥
unfolding enc_ty kind_of
type_kind rest Ty.void h e = omega (arith, ap kind_of h)
type_kind rest Ty.ptr h e = omega (arith, ap kind_of h)
type_kind rest (Ty.sizeless Sizeless.func) h e = omega (arith, ap kind_of h)
type_kind rest (Ty.sizeless Sizeless.label) h e = omega (arith, ap kind_of h)
type_kind rest (Ty.sizeless Sizeless.metadata) h e = omega (arith, ap kind_of h)
type_kind rest (Ty.int w) h e = omega (arith, ap kind_of h)
type_kind rest (Ty.named_struct x) h e = omega (arith, ap kind_of h)
type_kind rest (Ty.array true n t) h e = omega (arith, ap kind_of h)
type_kind rest (Ty.array false n t) h e = omega (arith, ap kind_of h)
type_kind rest (Ty.struct true us) h e = omega (arith, ap kind_of h)
type_kind rest (Ty.struct false us) h e = omega (arith, ap kind_of h)

stack_few : (rest : List Entry) (stack : List Tys) → length stack ≤ length (pending stack rest)
unfolding pending
stack_few rest [] = omega arith
stack_few rest (ts ∷ stack) = omega (arith, length-append (enc_tys ts) (pending stack rest), encs_pos ts, stack_few rest stack)

-- ---- over the lent slices
module _ (m : ℕ) (ks ws : List ℕ) (s : Starts m (entries ks ws)) where
  abbrev pub Fronted : ℕ → Type 0
  Fronted at = TypeAt (entries ks ws) s.rest at

  abbrev pub Opened : ℕ → ℕ → Type 0
  Opened at lists = OpenAt (entries ks ws) s.rest at lists

  pub fronted_start : Fronted 0
  fronted_start = record { ty = s.ty; here = s.here; there = omega arith }

  module _ {at : ℕ} (f : Fronted at) where
    type_there : at + 1 ≤ length (entries ks ws)
    type_there = omega (arith, enc_pos f.ty, ap length f.here, length-append (enc_ty f.ty) s.rest, length-drop at (entries ks ws))

    pub fronted_kinds : at + 1 ≤ length ks
    fronted_kinds = within_kinds (at + 1) ks ws type_there

    pub fronted_few : at + 1 ≤ 1048576
    fronted_few = omega (arith, type_there, s.few)

    kind_is : kind_of (drop at (entries ks ws)) ≡ get_or ks at 0
    kind_is = kind_at_lem ks ws at (omega (arith, type_there))

    pub fronted_kind : get_or ks at 0 ≡ 0 → ⊥
    fronted_kind e = type_kind s.rest f.ty f.here (kind_is ∙ e)

    pub fronted_array : array_kind (get_or ks at 0) ≡ true → Fronted (at + 1)
    fronted_array e = (type_alone (entries ks ws) s.rest at f.ty f.here f.there).0 (rw kind_is e)

    pub fronted_opens : array_kind (get_or ks at 0) ≡ false → (lists : ℕ) → lists ≡ opens_by (get_or ks at 0) 0 → Opened (at + 1) lists
    fronted_opens e lists eo = rw (eo, ← kind_is) ((type_alone (entries ks ws) s.rest at f.ty f.here f.there).1 (rw kind_is e))

  module _ {at lists : ℕ} (o : Opened at lists) where
    pub opened_done : lists ≡ 0 → at ≡ ty_len m (entries ks ws)
    unfolding pending
    opened_done z = go o.stack refl
      where
        go : (stack : List Tys) → o.stack ≡ stack → at ≡ ty_len m (entries ks ws)
        go [] e =
            let h : drop at (entries ks ws) ≡ s.rest = o.here ∙ ap (λ (x : List Tys). pending x s.rest) e in
            let n = len_is s in
            omega (arith, ap length h, length-drop at (entries ks ws), ap length s.here, length-append (enc_ty s.ty) s.rest, o.there)
        go (ts ∷ stack) e = absurd (omega (arith, o.count, ap length e))

    module _ (z : lists ≡ 0 → ⊥) where
      next : OpenAt (entries ks ws) s.rest (at + 1) (opens_by (kind_of (drop at (entries ks ws))) (length o.stack))
      next = list_opens (entries ks ws) s.rest at o.stack o.here o.there (λ e. z (sym o.count ∙ e))

      lists_there : at + 1 ≤ length (entries ks ws)
      lists_there = next.there

      pub opened_kinds : at + 1 ≤ length ks
      opened_kinds = within_kinds (at + 1) ks ws lists_there

      pub opened_few : at + 1 ≤ 1048576
      opened_few = omega (arith, lists_there, s.few)

      pub opened_next : (r : ℕ) → r ≡ opens_by (get_or ks at 0) lists → Opened (at + 1) r
      opened_next r e = rw (e, ← o.count, ← kind_at_lem ks ws at (omega (arith, lists_there))) next

      pub opened_ask : (get_or ks at 0 ≡ 0 → 1 ≤ lists) × (lists ≤ 1048576)
      opened_ask = ((λ e. positive lists z), omega (arith, stack_few s.rest o.stack, ap length o.here, length-drop at (entries ks ws), o.count, s.few))
        where
          positive : (n : ℕ) → (n ≡ 0 → ⊥) → 1 ≤ n
          positive zero w = absurd (w refl)
          positive (suc n) w = omega arith

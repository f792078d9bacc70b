-- Where the next instruction and the next block stand: what lies between has other kinds.
use Rattle.std.specs.Prelude.{ℕ, zero, suc, ◌+◌, ◌-◌, ◌<◌, ◌≤◌, ◌≡◌, refl, Bool, true, false, List, [], ◌∷◌, ◌++◌, ltb, length, drop, get_or}
use Rattle.std.proofs.Common.{sym, ap, subst, ◌∙◌, arith, ltb-true, ltb-false, length-append, length-drop}
use Rattle.std.proofs.Math.Option.{none, some}
use Rattle.book_types.specs.Laws.{length_entries}
use Rattle.book.specs.Ast.{Ty, Tys, Sizeless, Value, Zero, TypedVal}
use Rattle.book.specs.Entry.{Entry, entry, entries, kinds_of}
use Rattle.book.specs.Fields.{Item, Field, ItemMeaning, Meaning, Meanings}
use Rattle.book.specs.Encode.{ending, enc_ty, enc_tys, value_entry, enc_param, enc_item, enc_field, enc_fields, enc_typed}

-- the first place from a on whose kind is 40 or more, or the end
pub record FirstHigh (ks : List ℕ) (a r : ℕ) : Type 0 where
  pub from : a ≤ r
  pub within : r ≤ length ks
  pub low : (i : ℕ) → a ≤ i → i < r → get_or ks i 0 < 40
  pub high : r < length ks → 40 ≤ get_or ks r 0

-- the first place from a on, before the end, whose kind is 7, or the end
pub record FirstBlock (ks : List ℕ) (end a r : ℕ) : Type 0 where
  pub from : a ≤ r
  pub within : r ≤ end
  pub other : (i : ℕ) → a ≤ i → i < r → get_or ks i 0 ≡ 7 → ⊥
  pub block : r < end → get_or ks r 0 ≡ 7

-- one place more was passed
pub passed : (P : ℕ → Type 0) (i k : ℕ) → (k < i → P k) → P i → k < i + 1 → P k
passed P i k p q l = at (ltb k i) refl
  where
    at : (b : Bool) → ltb k i ≡ b → P k
    at true e = p (ltb-true k i e)
    at false e = let j : i ≡ k = omega (arith, ltb-false k i e) in subst P j q

-- ---- entries of fields
-- every entry has a kind below 40 that is not 7
abbrev pub Low : List Entry → Type 0
Low [] = Unit {0}
Low (e ∷ es) = ((e.kind < 40) × (e.kind ≡ 7 → ⊥)) × Low es

pub low_append : (x y : List Entry) → Low x → Low y → Low (x ++ y)
low_append [] y p q = q
low_append (e ∷ x) y p q = (p.0, low_append x y p.1 q)

mutual
  unfolding enc_ty

  pub low_ty : (t : Ty) → Low (enc_ty t)
  low_ty Ty.void = ((omega arith, λ z. omega arith), tt)
  low_ty Ty.ptr = ((omega arith, λ z. omega arith), tt)
  low_ty (Ty.sizeless Sizeless.func) = ((omega arith, λ z. omega arith), tt)
  low_ty (Ty.sizeless Sizeless.label) = ((omega arith, λ z. omega arith), tt)
  low_ty (Ty.sizeless Sizeless.metadata) = ((omega arith, λ z. omega arith), tt)
  low_ty (Ty.int w) = ((omega arith, λ z. omega arith), tt)
  low_ty (Ty.array false n t) = ((omega arith, λ z. omega arith), low_ty t)
  low_ty (Ty.array true n t) = ((omega arith, λ z. omega arith), low_ty t)
  low_ty (Ty.named_struct x) = ((omega arith, λ z. omega arith), tt)
  low_ty (Ty.struct false ts) = ((omega arith, λ z. omega arith), low_tys ts)
  low_ty (Ty.struct true ts) = ((omega arith, λ z. omega arith), low_tys ts)

  low_tys : (ts : Tys) → Low (enc_tys ts)
  low_tys Tys.nil = ((omega arith, λ z. omega arith), tt)
  low_tys (Tys.cons t ts) = low_append (enc_ty t) (enc_tys ts) (low_ty t) (low_tys ts)

low_value : (v : Value) → Low (value_entry v ∷ [])
unfolding value_entry
low_value (Value.local x) = ((omega arith, λ z. omega arith), tt)
low_value (Value.global x) = ((omega arith, λ z. omega arith), tt)
low_value (Value.int c) = ((omega arith, λ z. omega arith), tt)
low_value (Value.zero Zero.null) = ((omega arith, λ z. omega arith), tt)
low_value (Value.zero Zero.undef) = ((omega arith, λ z. omega arith), tt)
low_value (Value.zero Zero.poison) = ((omega arith, λ z. omega arith), tt)
low_value (Value.zero Zero.zero_init) = ((omega arith, λ z. omega arith), tt)
low_value Value.other = ((omega arith, λ z. omega arith), tt)

low_typed : (v : TypedVal) → Low (enc_typed v)
low_typed v = low_append (enc_ty v.ty) _ (low_ty v.ty) (low_value v.val)

low_item : (i : Item) (x : ItemMeaning i) → Low (enc_item i x)
unfolding enc_param
low_item Item.type x = low_ty x
low_item Item.value x = low_value x
low_item Item.block x = ((omega arith, λ z. omega arith), tt)
low_item Item.index x = ((omega arith, λ z. omega arith), tt)
low_item Item.align x = ((omega arith, λ z. omega arith), tt)
low_item Item.typed x = low_typed x
low_item Item.gep_index x = low_typed x
low_item Item.incoming x = ((low_value x.val).0, ((omega arith, λ z. omega arith), tt))
low_item Item.case x = ((omega arith, λ z. omega arith), ((omega arith, λ z. omega arith), tt))
low_item Item.param x = ((omega arith, λ z. omega arith), low_ty x.ty)

low_list : {A : Type 0} (write : A → List Entry) → ((a : A) → Low (write a)) → (xs : List A) → Low (ending write (entry 0 0 ∷ []) xs)
unfolding ending
low_list write p [] = ((omega arith, λ z. omega arith), tt)
low_list write p (x ∷ xs) = low_append (write x) _ (p x) (low_list write p xs)

low_field : (f : Field) (x : Meaning f) → Low (enc_field f x)
low_field (Field.plain i) x = low_item i x
low_field (Field.optional i) none = ((omega arith, λ z. omega arith), tt)
low_field (Field.optional i) (some x) = low_item i x
low_field (Field.list i) x = low_list (enc_item i) (low_item i) x
low_field (Field.up_to n i) x = low_list (enc_item i) (low_item i) x

pub low_fields : (fs : List Field) (p : Meanings fs) → Low (enc_fields fs p)
unfolding enc_fields
low_fields [] p = tt
low_fields (f ∷ fs) p = low_append (enc_field f p.0) (enc_fields fs p.1) (low_field f p.0) (low_fields fs p.1)

-- ---- behind fields
low_at : (x : List Entry) → Low x → (y : List Entry) (i : ℕ) → i < length x → (get_or (kinds_of (x ++ y)) i 0 < 40) × (get_or (kinds_of (x ++ y)) i 0 ≡ 7 → ⊥)
unfolding kinds_of
low_at [] p y i l = absurd (omega arith)
low_at (e ∷ x) p y zero l = p.0
low_at (e ∷ x) p y (suc i) l = low_at x p.1 y i (omega arith)

high_at : (x : List Entry) (e : Entry) (y : List Entry) → get_or (kinds_of (x ++ (e ∷ y))) (length x) 0 ≡ e.kind
unfolding kinds_of
high_at [] e y = refl
high_at (d ∷ x) e y = high_at x e y

-- the kinds of the entries are the lent kinds, as far as there are words
kinds_at : (ks ws : List ℕ) (i : ℕ) → i < length (entries ks ws) → get_or (kinds_of (entries ks ws)) i 0 ≡ get_or ks i 0
unfolding entries kinds_of
kinds_at [] ws i l = absurd (omega arith)
kinds_at (k ∷ ks) [] i l = absurd (omega arith)
kinds_at (k ∷ ks) (w ∷ ws) zero l = refl
kinds_at (k ∷ ks) (w ∷ ws) (suc i) l = kinds_at ks ws i (omega arith)

kinds_drop : (a : ℕ) (es : List Entry) (i : ℕ) → get_or (kinds_of (drop a es)) i 0 ≡ get_or (kinds_of es) (a + i) 0
unfolding kinds_of
kinds_drop zero es i = let q : i ≡ 0 + i = omega arith in ap (λ n. get_or (kinds_of es) n 0) q
kinds_drop (suc a) [] i = refl
kinds_drop (suc a) (e ∷ es) i = let q : suc (a + i) ≡ suc a + i = omega arith in kinds_drop a es i ∙ ap (λ n. get_or (kinds_of (e ∷ es)) n 0) q

module _ (ks ws : List ℕ) (a : ℕ) (x : List Entry) (e : Entry) (y : List Entry) (here : drop a (entries ks ws) ≡ x ++ (e ∷ y)) (low : Low x) where
  long : a + length x < length (entries ks ws)
  long = omega (arith, ap length here, length-append x (e ∷ y), length-drop a (entries ks ws))

  kind_at_lem : (i : ℕ) → i ≤ length x → get_or ks (a + i) 0 ≡ get_or (kinds_of (x ++ (e ∷ y))) i 0
  kind_at_lem i l = sym (kinds_at ks ws (a + i) (omega (arith, long))) ∙ sym (kinds_drop a (entries ks ws) i) ∙ ap (λ es. get_or (kinds_of es) i 0) here

  long_kinds : a + length x < length ks
  long_kinds = omega (arith, long, length_entries ks ws)

  -- the first instruction or terminator behind fields is the one that follows them
  pub next_is : {r : ℕ} → FirstHigh ks a r → 40 ≤ e.kind → r ≡ a + length x
  next_is {r} f h = at (ltb r (a + length x)) refl
    where
      at : (b : Bool) → ltb r (a + length x) ≡ b → r ≡ a + length x
      at true q =
          let l = ltb-true r (a + length x) q in
          let i : a + (r - a) ≡ r = omega (arith, f.from) in
          let v = (low_at x low (e ∷ y) (r - a) (omega (arith, f.from))).0 in
          absurd (omega (arith, v, kind_at_lem (r - a) (omega (arith, f.from)), ap (λ n. get_or ks n 0) i, f.high (omega (arith, long_kinds))))
      at false q = other (ltb (a + length x) r) refl
        where
          other : (d : Bool) → ltb (a + length x) r ≡ d → r ≡ a + length x
          other true d = absurd (omega (arith, f.low (a + length x) (omega arith) (ltb-true (a + length x) r d), kind_at_lem (length x) (omega arith), high_at x e y))
          other false d = omega (arith, ltb-false r (a + length x) q, ltb-false (a + length x) r d)

  -- the first block behind fields is the one that follows them
  pub block_is : {end r : ℕ} → FirstBlock ks end a r → a + length x < end → e.kind ≡ 7 → r ≡ a + length x
  block_is {end} {r} f within h = at (ltb r (a + length x)) refl
    where
      at : (b : Bool) → ltb r (a + length x) ≡ b → r ≡ a + length x
      at true q =
          let l = ltb-true r (a + length x) q in
          let i : a + (r - a) ≡ r = omega (arith, f.from) in
          let v = (low_at x low (e ∷ y) (r - a) (omega (arith, f.from))).1 in
          absurd (v (sym (kind_at_lem (r - a) (omega (arith, f.from))) ∙ ap (λ n. get_or ks n 0) i ∙ f.block (omega arith)))
      at false q = other (ltb (a + length x) r) refl
        where
          other : (d : Bool) → ltb (a + length x) r ≡ d → r ≡ a + length x
          other true d = absurd (f.other (a + length x) (omega arith) (ltb-true (a + length x) r d) (kind_at_lem (length x) (omega arith) ∙ high_at x e y ∙ h))
          other false d = omega (arith, ltb-false r (a + length x) q, ltb-false (a + length x) r d)

-- where nothing but fields stands before the end, no block is found
module _ (ks ws : List ℕ) (a : ℕ) (x y : List Entry) (here : drop a (entries ks ws) ≡ x ++ y) (low : Low x) where
  pub no_block : {end r : ℕ} → end ≡ a + length x → FirstBlock ks end a r → r ≡ end
  no_block {end} {r} e f = at (ltb r end) refl
    where
      kind : r < end → get_or (kinds_of (x ++ y)) (r - a) 0 ≡ get_or ks r 0
      kind l =
          let i : a + (r - a) ≡ r = omega (arith, f.from) in
          let long : a + (r - a) < length (entries ks ws) = omega (arith, e, f.from, ap length here, length-append x y, length-drop a (entries ks ws)) in
          ap (λ es. get_or (kinds_of es) (r - a) 0) (sym here) ∙ kinds_drop a (entries ks ws) (r - a) ∙ kinds_at ks ws (a + (r - a)) long ∙ ap (λ n. get_or ks n 0) i

      at : (b : Bool) → ltb r end ≡ b → r ≡ end
      at true q =
          let l = ltb-true r end q in
          absurd ((low_at x low y (r - a) (omega (arith, e, f.from))).1 (kind l ∙ f.block l))
      at false q = omega (arith, ltb-false r end q, f.within)

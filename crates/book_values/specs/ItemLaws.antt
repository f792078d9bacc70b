-- Laws on values and items: what the entry in front says, and items as parts one after the other.
use Rattle.std.specs.Prelude.{ℕ, ◌+◌, ◌-◌, ◌≤◌, ◌^◌, Bool, ◌&&◌, ◌||◌, length, drop, eqb, ltb, leb}
use Rattle.std.proofs.Math.Path.{◌≡◌, refl, ap, sym}
use Rattle.std.proofs.Common.{◌∙◌, length-drop, eqb-true, eq-eqb, ne_eqb, le-leb}
use Rattle.std.proofs.Math.Bool.{true, false, and-true, or-false}
use Rattle.std.proofs.Math.Option.{Option, none, some}
use mathlib.Core.List.{List, [], ◌∷◌}
use native.Mathlib.Omega.{arith}
use Rattle.numbers.specs.Align.{is_align}
use Rattle.book.specs.Entry.{Entry, entries}
use Rattle.book.specs.Ast.{Zero, Ty, Value, TypedVal}
use Rattle.book.specs.Rule.{when, pick}
use Rattle.book.specs.Kinds.{ValTag, val_tag, val_kind}
use Rattle.book.specs.Read.{Read, got, bad, Reader, and_then, taking, one, word, mapped, both, filtered, optional}
use Rattle.book.specs.Decode.{type, maybe_name, index_fits, block, index, align, value, value_as, typed_val, gep_index, incoming, case, param}
use Rattle.book.specs.Forbidden.{is_other, any_there}
use Rattle.book.specs.AgreeTy.{val_is}
use Rattle.std.specs.Prelude.{Some, None}
use Rattle.std.specs.Bool.{then_some}
use Rattle.book_types.specs.Length.{len_of, front_of}
use Rattle.book_types.specs.Laws.{lent_from, entries_part}
use Rattle.book_types.specs.Found.{found, plain, found_of, one_if, pair_test, never}
use Rattle.book_types.specs.Passes.{found_ext, mapped_found}
use Rattle.book_types.specs.declared.Found.{Found}
use Rattle.book_values.specs.Items as items
use Rattle.book_values.specs.Items.{value_group_of, value_ok, word_below, atom_ok, atom_front, atom_reader, atom_test}
use Rattle.book_values.specs.declared.Atom.{Atom}
use Rattle.book_values.specs.declared.Atom.TheVariants as atom

-- ---- one entry
module _ (k b : ℕ) where
  pub word_none : (es : List Entry) → None ≡ front_of es → None ≡ len_of (word_below k b es)
  unfolding front_of word one
  word_none [] h = refl
  word_none (e ∷ es) h = absurd (let z : ◌≡◌ {A = ℕ} 0 1 = cc in omega arith)

  pub word_is : (es : List Entry) (j w : ℕ) → Some (j, w) ≡ front_of es → then_some (eqb j k && ltb w b) 1 ≡ len_of (word_below k b es)
  unfolding front_of word one
  word_is [] j w h = absurd (let z : ◌≡◌ {A = ℕ} 0 1 = cc in omega arith)
  word_is (e ∷ es) j w h =
      let same : ◌≡◌ {A = ℕ × ℕ} (j, w) (e.kind, e.word) = cc in
      rw (ap (λ p. p.0) same, ap (λ p. p.1) same) (go (eqb e.kind k) (ltb e.word b))
    where
      go : (x y : Bool) → then_some (x && y) 1 ≡ len_of (taking 1 (pick x (when y e.word) none))
      go true true = refl
      go true false = refl
      go false y = refl

-- ---- atoms
pub both_are : (x y p q : Bool) → x ≡ p → y ≡ q → (x && y) ≡ (p && q)
both_are x y p q e f = rw (e, f)

when_one : {A : Type 0} (t : A → Bool) (b : Bool) (a : A) (x : Bool) → t a ≡ x → found_of t (taking 1 (when b a)) ≡ one_if b x
when_one t true a x e = ap (λ b. Some (found 1 b)) e
when_one t false a x e = refl

-- a value is any other exactly where its kind is 37
value_one : (m : ℕ) (k w : ℕ) → found_of is_other (taking 1 (value_as m w (val_tag k))) ≡ one_if (value_ok m w (value_group_of (val_tag k))) (eqb k 37)
unfolding value_as is_other
value_one m k w = go (val_tag k) refl
  where
    not_other : (t : ValTag) → val_tag k ≡ some t → (val_kind t ≡ 37 → ⊥) → false ≡ eqb k 37
    not_other t e d = sym (ne_eqb k 37 (λ z. d (sym (val_is k t e) ∙ z)))

    go : (t : Option ValTag) → val_tag k ≡ t → found_of is_other (taking 1 (value_as m w t)) ≡ one_if (value_ok m w (value_group_of t)) (eqb k 37)
    go none e = refl
    go (some ValTag.local) e = when_one is_other (ltb w m) (Value.local w) (eqb k 37) (not_other ValTag.local e (λ z. omega arith))
    go (some ValTag.global) e = when_one is_other (ltb w m) (Value.global w) (eqb k 37) (not_other ValTag.global e (λ z. omega arith))
    go (some ValTag.int) e = ap (λ b. Some (found 1 b)) (not_other ValTag.int e (λ z. omega arith))
    go (some (ValTag.zero Zero.null)) e = when_one is_other (eqb w 0) (Value.zero Zero.null) (eqb k 37) (not_other (ValTag.zero Zero.null) e (λ z. omega arith))
    go (some (ValTag.zero Zero.undef)) e = when_one is_other (eqb w 0) (Value.zero Zero.undef) (eqb k 37) (not_other (ValTag.zero Zero.undef) e (λ z. omega arith))
    go (some (ValTag.zero Zero.poison)) e = when_one is_other (eqb w 0) (Value.zero Zero.poison) (eqb k 37) (not_other (ValTag.zero Zero.poison) e (λ z. omega arith))
    go (some (ValTag.zero Zero.zero_init)) e = when_one is_other (eqb w 0) (Value.zero Zero.zero_init) (eqb k 37) (not_other (ValTag.zero Zero.zero_init) e (λ z. omega arith))
    go (some ValTag.other) e = when_one is_other (eqb w 0) Value.other (eqb k 37) (sym (eq-eqb k 37 (val_is k ValTag.other e)))

-- of a value that an index may have
fits_one : (m : ℕ) (k w : ℕ) → found_of is_other (and_then (taking 1 (value_as m w (val_tag k))) (λ v n. taking n (when (index_fits v) v))) ≡ one_if (value_ok m w (value_group_of (val_tag k)) && items.index_fits k w) (eqb k 37)
unfolding value_as is_other index_fits
fits_one m k w = go (val_tag k) refl
  where
    not_int : (t : ValTag) → val_tag k ≡ some t → (val_kind t ≡ 32 → ⊥) → eqb k 32 ≡ false
    not_int t e d = ne_eqb k 32 (λ z. d (sym (val_is k t e) ∙ z))

    not_other : (t : ValTag) → val_tag k ≡ some t → (val_kind t ≡ 37 → ⊥) → eqb k 37 ≡ false
    not_other t e d = ne_eqb k 37 (λ z. d (sym (val_is k t e) ∙ z))

    passes : (b : Bool) (v : Value) (x : Bool) → index_fits v ≡ true → is_other v ≡ x → found_of is_other (and_then (taking 1 (when b v)) (λ v n. taking n (when (index_fits v) v))) ≡ one_if (b && true) x
    passes true v x e f = rw (e, f)
    passes false v x e f = refl

    go : (t : Option ValTag) → val_tag k ≡ t → found_of is_other (and_then (taking 1 (value_as m w t)) (λ v n. taking n (when (index_fits v) v))) ≡ one_if (value_ok m w (value_group_of t) && items.index_fits k w) (eqb k 37)
    go none e = refl
    go (some ValTag.local) e = rw (not_int ValTag.local e (λ z. omega arith), not_other ValTag.local e (λ z. omega arith)) (passes (ltb w m) (Value.local w) false refl refl)
    go (some ValTag.global) e = rw (not_int ValTag.global e (λ z. omega arith), not_other ValTag.global e (λ z. omega arith)) (passes (ltb w m) (Value.global w) false refl refl)
    go (some ValTag.int) e = rw (eq-eqb k 32 (val_is k ValTag.int e), not_other ValTag.int e (λ z. omega arith)) (when_one is_other (ltb w (2 ^ 31) || leb (2 ^ 64 - 2 ^ 31) w) (Value.int w) false refl)
    go (some (ValTag.zero Zero.null)) e = rw (not_int (ValTag.zero Zero.null) e (λ z. omega arith), not_other (ValTag.zero Zero.null) e (λ z. omega arith)) (passes (eqb w 0) (Value.zero Zero.null) false refl refl)
    go (some (ValTag.zero Zero.undef)) e = rw (not_int (ValTag.zero Zero.undef) e (λ z. omega arith), not_other (ValTag.zero Zero.undef) e (λ z. omega arith)) (passes (eqb w 0) (Value.zero Zero.undef) false refl refl)
    go (some (ValTag.zero Zero.poison)) e = rw (not_int (ValTag.zero Zero.poison) e (λ z. omega arith), not_other (ValTag.zero Zero.poison) e (λ z. omega arith)) (passes (eqb w 0) (Value.zero Zero.poison) false refl refl)
    go (some (ValTag.zero Zero.zero_init)) e = rw (not_int (ValTag.zero Zero.zero_init) e (λ z. omega arith), not_other (ValTag.zero Zero.zero_init) e (λ z. omega arith)) (passes (eqb w 0) (Value.zero Zero.zero_init) false refl refl)
    go (some ValTag.other) e = rw (not_int ValTag.other e (λ z. omega arith), eq-eqb k 37 (val_is k ValTag.other e)) (passes (eqb w 0) Value.other true refl refl)

-- an entry of another kind, by a rule
word_one : {A : Type 0} (j : ℕ) → (j ≡ 37 → ⊥) → (rule : ℕ → Option A) (test : ℕ → Bool) → ((w : ℕ) → found_of {A = A} never (taking 1 (rule w)) ≡ one_if (test w) false) → (e : Entry)
    → found_of {A = A} never (taking 1 (pick (eqb e.kind j) (rule e.word) none)) ≡ one_if (eqb e.kind j && test e.word) (eqb e.kind 37)
word_one {A} j d rule test h e = go (eqb e.kind j) refl
  where
    go : (b : Bool) → eqb e.kind j ≡ b → found_of {A = A} never (taking 1 (pick b (rule e.word) none)) ≡ one_if (b && test e.word) (eqb e.kind 37)
    go true t = rw (ne_eqb e.kind 37 (λ z. d (sym (eqb-true e.kind j t) ∙ z))) (h e.word)
    go false t = refl

-- name + 1, or 0: at most the number of names
maybe_one : (m w : ℕ) → found_of {A = Option ℕ} never (taking 1 (maybe_name m w)) ≡ one_if (leb w m) false
maybe_one m w = go (eqb w 0) refl
  where
    go : (b : Bool) → eqb w 0 ≡ b → found_of {A = Option ℕ} never (taking 1 (pick b (some none) (when (leb w m) (some (w - 1))))) ≡ one_if (leb w m) false
    go true e = rw (le-leb w m (omega (arith, eqb-true w 0 e)))
    go false e = when_one {A = Option ℕ} never (leb w m) (some (w - 1)) false refl

pub atom_front_lem : (m : ℕ) (a : Atom) (es : List Entry) → found_of (atom_test a) (atom_reader m a es) ≡ atom_front m a (front_of es)
unfolding value block index align filtered word one front_of
atom_front_lem m atom.Value [] = refl
atom_front_lem m atom.Value (e ∷ es) = value_one m e.kind e.word
atom_front_lem m atom.GepValue [] = refl
atom_front_lem m atom.GepValue (e ∷ es) = fits_one m e.kind e.word
atom_front_lem m atom.Block [] = refl
atom_front_lem m atom.Block (e ∷ es) = word_one 23 (λ z. omega arith) (λ w. when (ltb w m) w) (λ w. ltb w m) (λ w. when_one {A = ℕ} never (ltb w m) w false refl) e
atom_front_lem m atom.Index [] = refl
atom_front_lem m atom.Index (e ∷ es) = word_one 22 (λ z. omega arith) (λ w. when (ltb w (2 ^ 32)) w) (λ w. ltb w (2 ^ 32)) (λ w. when_one {A = ℕ} never (ltb w (2 ^ 32)) w false refl) e
atom_front_lem m atom.Align [] = refl
atom_front_lem m atom.Align (e ∷ es) = word_one 22 (λ z. omega arith) (λ w. when (is_align w) w) is_align (λ w. when_one {A = ℕ} never (is_align w) w false refl) e
atom_front_lem m atom.Case [] = refl
atom_front_lem m atom.Case (e ∷ es) = word_one 32 (λ z. omega arith) some (λ w. true) (λ w. refl) e ∙ ap (λ b. one_if b (eqb e.kind 37)) (and-true (eqb e.kind 32))
atom_front_lem m atom.Param [] = refl
atom_front_lem m atom.Param (e ∷ es) = word_one 6 (λ z. omega arith) (maybe_name m) (λ w. leb w m) (maybe_one m) e

-- an atom is there
module _ (m : ℕ) (a : Atom) where
  pub atom_fits : (es : List Entry) (f : Found) → Some f ≡ found_of (atom_test a) (atom_reader m a es) → f.entries ≤ length es
  unfolding front_of
  atom_fits es f h = go es (h ∙ atom_front_lem m a es)
    where
      one_is : (t u : Bool) → Some f ≡ one_if t u → f.entries ≤ 1
      one_is true u e = let z : f ≡ found 1 u = cc in omega (arith, ap (λ g. g.entries) z)
      one_is false u e = absurd (let z : ◌≡◌ {A = ℕ} 0 1 = cc in omega arith)

      go : (es : List Entry) → Some f ≡ atom_front m a (front_of es) → f.entries ≤ length es
      go [] e = absurd (let z : ◌≡◌ {A = ℕ} 0 1 = cc in omega arith)
      go (e ∷ es) i = omega (arith, one_is (atom_ok m e.kind e.word a) (eqb e.kind 37) i)

  pub atom_lent : (ks ws : List ℕ) (i : ℕ) (f : Found) → i ≤ length (entries ks ws) → Some f ≡ found_of (atom_test a) (atom_reader m a (lent_from ks ws i)) → i + f.entries ≤ length (entries ks ws)
  atom_lent ks ws i f h e =
      let fits : f.entries ≤ length (drop i (entries ks ws)) = atom_fits (drop i (entries ks ws)) f (e ∙ ap (λ es. found_of (atom_test a) (atom_reader m a es)) (entries_part i ks ws)) in
      omega (arith, length-drop i (entries ks ws))

-- ---- items as parts one after the other
module _ (m : ℕ) (es : List Entry) where
  pub typed_pair : found_of (pair_test never is_other) (both (type m) (value m) es) ≡ found_of (λ v. is_other v.val) (typed_val m es)
  unfolding typed_val
  typed_pair = sym (mapped_found (λ v. is_other v.val) (λ p. record { ty = p.0; val = p.1 }) (both (type m) (value m)) es)

  pub index_pair : found_of (pair_test never is_other) (both (type m) (filtered index_fits (value m)) es) ≡ found_of (λ v. is_other v.val) (gep_index m es)
  unfolding gep_index typed_val filtered mapped both
  index_pair = first (type m es)
    where
      second : (t : Ty) (n : ℕ) (r : Read Value)
          → found_of (pair_test never is_other) (and_then {A = Value} {B = Ty × Value} (and_then r (λ v k. taking k (when (index_fits v) v))) (λ v k. got (t, v) (n + k)))
          ≡ found_of {A = TypedVal} (λ v. is_other v.val) (and_then (and_then (and_then {A = Value} {B = Ty × Value} r (λ v k. got (t, v) (n + k))) (λ p k. got (record { ty = p.0; val = p.1 }) k)) (λ i k. taking k (when (index_fits i.val) i)))
      second t n (got v k) = go (index_fits v)
        where
          go : (b : Bool) → found_of (pair_test never is_other) (and_then {A = Value} {B = Ty × Value} (taking k (when b v)) (λ v k. got (t, v) (n + k))) ≡ found_of {A = TypedVal} (λ v. is_other v.val) (taking (n + k) (when b (record { ty = t; val = v })))
          go true = refl
          go false = refl
      second t n bad = refl

      first : (r : Read Ty)
          → found_of (pair_test never is_other) (and_then {A = Ty} {B = Ty × Value} r (λ t n. and_then (and_then (value m (drop n es)) (λ v k. taking k (when (index_fits v) v))) (λ v k. got (t, v) (n + k))))
          ≡ found_of {A = TypedVal} (λ v. is_other v.val) (and_then (and_then (and_then {A = Ty} {B = Ty × Value} r (λ t n. and_then (value m (drop n es)) (λ v k. got (t, v) (n + k)))) (λ p k. got (record { ty = p.0; val = p.1 }) k)) (λ i k. taking k (when (index_fits i.val) i)))
      first (got t n) = second t n (value m (drop n es))
      first bad = refl

  pub incoming_pair : found_of (pair_test is_other never) (both (value m) (block m) es) ≡ found_of (λ i. is_other i.val) (incoming m es)
  unfolding incoming
  incoming_pair =
      found_ext (pair_test is_other never) (λ p. is_other p.0) (λ p. or-false (is_other p.0)) (both (value m) (block m) es)
      ∙ sym (mapped_found (λ i. is_other i.val) (λ p. record { val = p.0; label = p.1 }) (both (value m) (block m)) es)

  pub case_pair : found_of (pair_test never never) (both (word 32 some) (block m) es) ≡ found_of never (case m es)
  unfolding case
  case_pair = sym (mapped_found never (λ p. record { value = p.0; label = p.1 }) (both (word 32 some) (block m)) es)

  pub param_pair : found_of (pair_test never never) (both (word 6 (maybe_name m)) (type m) es) ≡ found_of never (param m es)
  unfolding param
  param_pair = sym (mapped_found never (λ p. record { ty = p.1; name = p.0 }) (both (word 6 (maybe_name m)) (type m)) es)

-- ---- an item or none
module _ {A : Type 0} (t : A → Bool) (p : Reader A) where
  pub absent_none : (es : List Entry) → None ≡ front_of es → None ≡ found_of (any_there t) (optional p es)
  unfolding optional front_of
  absent_none [] h = refl
  absent_none (e ∷ es) h = absurd (let z : ◌≡◌ {A = ℕ} 0 1 = cc in omega arith)

  module _ (k w : ℕ) where
    pub absent_is : (es : List Entry) → Some (k, w) ≡ front_of es → k ≡ 21 → then_some (eqb w 0) (plain 1) ≡ found_of (any_there t) (optional p es)
    unfolding optional front_of any_there
    absent_is [] h z = absurd (let z : ◌≡◌ {A = ℕ} 0 1 = cc in omega arith)
    absent_is (e ∷ es) h z =
        let same : ◌≡◌ {A = ℕ × ℕ} (k, w) (e.kind, e.word) = cc in
        rw (ap (λ p. p.1) same, sym (ap (λ p. p.0) same) ∙ z) (none_len (eqb e.word 0))
      where
        none_len : (b : Bool) → then_some b (plain 1) ≡ found_of (any_there t) (taking {A = Option A} 1 (when b none))
        none_len true = refl
        none_len false = refl

    pub absent_not : (es : List Entry) → Some (k, w) ≡ front_of es → (k ≡ 21 → ⊥) → found_of t (p es) ≡ found_of (any_there t) (optional p es)
    unfolding optional front_of any_there
    absent_not [] h d = absurd (let z : ◌≡◌ {A = ℕ} 0 1 = cc in omega arith)
    absent_not (e ∷ es) h d =
        let same : ◌≡◌ {A = ℕ × ℕ} (k, w) (e.kind, e.word) = cc in
        rw (ne_eqb e.kind 21 (λ q. d (ap (λ p. p.0) same ∙ q))) (some_len (p (e ∷ es)))
      where
        some_len : (r : Read A) → found_of t r ≡ found_of (any_there t) (and_then r (λ a n. got (some a) n))
        some_len (got a n) = refl
        some_len bad = refl

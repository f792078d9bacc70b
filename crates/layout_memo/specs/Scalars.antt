-- Fields that are integers or pointers: one entry each, as many bytes as they are aligned to.
use Rattle.std.specs.Prelude.{ℕ, ◌+◌, ◌-◌, ◌*◌, ◌/◌, ◌%◌, ◌<◌, ◌≤◌, ◌^◌, max, ◌≡◌, Bool, true, false, cond, List, eqb, length, get_or, drop}
use Rattle.std.proofs.Math.Path.{refl, sym}
use Rattle.std.proofs.Common.{ap, ◌∙◌, subst, mod-eq_of_lt, lt_of_le_of_lt, div-mul-le_self, arith, eq-eqb, ne_eqb}
use Rattle.numbers.specs.Align.{is_align, exponent_of, align_step, align_most, align_exponent, align_bounds, bytes_align}
use Rattle.numbers.specs.Width.{width_ok, width_bounds}
use Rattle.book.specs.Entry.{Entry, entries}
use Rattle.book.specs.Ast.{Ty, StructType}
use Rattle.book.specs.Kinds.{TyTag, ty_tag}
use Rattle.book.specs.Encode.{enc_ty}
use Rattle.book.specs.AgreeTy.{ty_found}
use Rattle.book_types.specs.Groups.{type_group_of}
use Rattle.book_types.specs.declared.types.TypeGroup.{TypeGroup}
use Rattle.book_types.specs.declared.types.TypeGroup.TheVariants as group
use Rattle.layout.specs.Layout.{placed}
use Rattle.layout_memo.specs.Measured.{Gives}
use Rattle.layout_memo.specs.Front.{Starts, ty_of, ty_len, ty_is, len_is, ShapeOf, shape_at}
use Rattle.layout_memo.specs.Work.{sizes, aligns}
use Rattle.layout_memo.specs.Arms as arms
use Rattle.layout_memo.specs.Fields.{AtFields, at_field, at_next}
use Rattle.layout_memo.specs.declared.scalars.Run.{Run}

-- the bytes of an integer or a pointer, by its entry
pub data Scalar (kind word : ℕ) : ℕ → Type 0 where
  int : kind ≡ 11 → Scalar kind word ((word + 7) / 8)
  ptr : kind ≡ 12 → Scalar kind word 8

-- what is known of a type of so many bytes
pub record ScalarType (m : ℕ) (es : List Entry) (b : ℕ) : Type 0 where
  pub align : is_align b ≡ true
  pub most : b ≤ 8
  pub one : ty_len m es ≡ 1
  pub aligned : (structs : List StructType) (level : ℕ) → (level ≡ 0 → ⊥) → Gives (aligns structs (ty_of m es)) level b 1
  pub sized : (structs : List StructType) (level : ℕ) → (level ≡ 0 → ⊥) → Gives (sizes structs (ty_of m es)) level b 1

width_64 : width_ok 64 ≡ true
unfolding width_ok
width_64 = refl

one_entry : {m : ℕ} {es : List Entry} (s : Starts m es) (t : Ty) → ty_of m es ≡ t → length (enc_ty t) ≡ 1 → ty_len m es ≡ 1
one_entry s t e l = len_is s ∙ ap (λ (x : Ty). length (enc_ty x)) (sym (ty_is s) ∙ e) ∙ l

module _ {m : ℕ} {ks ws : List ℕ} {a : ℕ} (f : AtFields m ks ws a) where
  module _ (z : get_or ks a 0 ≡ 0 → ⊥) (g : TypeGroup) (eg : g ≡ type_group_of (ty_tag (get_or ks a 0))) where
    seen : ShapeOf m (get_or ws a 0) (drop (a + 1) (entries ks ws)) (ty_of m (drop a (entries ks ws))) g
    seen = shape_at m ks ws a (at_field f z).field g eg g refl

  module _ (e : get_or ks a 0 ≡ 11) where
    some_kind : get_or ks a 0 ≡ 0 → ⊥
    some_kind z = omega arith

    int_seen : (ty_of m (drop a (entries ks ws)) ≡ Ty.int (get_or ws a 0)) × (width_ok (get_or ws a 0) ≡ true)
    int_seen = seen some_kind group.Int (sym (ap (λ (k : ℕ). type_group_of (ty_tag k)) e ∙ ap type_group_of (ty_found TyTag.int)))

    pub int_word : get_or ws a 0 ≤ 64
    int_word = (width_bounds (get_or ws a 0) int_seen.1).1

    int_type : ScalarType m (drop a (entries ks ws)) ((get_or ws a 0 + 7) / 8)
    unfolding enc_ty
    int_type =
        let w = int_word in
        record {
          align = bytes_align (get_or ws a 0) int_seen.1;
          most = omega arith;
          one = one_entry (at_field f some_kind).field (Ty.int (get_or ws a 0)) int_seen.0 refl;
          aligned = λ structs level l. arms.align_int structs _ level l (get_or ws a 0) int_seen;
          sized = λ structs level l. arms.size_int structs _ level l (get_or ws a 0) int_seen;
        }

  module _ (e : get_or ks a 0 ≡ 12) where
    ptr_kind : get_or ks a 0 ≡ 0 → ⊥
    ptr_kind z = omega arith

    ptr_seen : ty_of m (drop a (entries ks ws)) ≡ Ty.ptr
    ptr_seen = seen ptr_kind group.Ptr (sym (ap (λ (k : ℕ). type_group_of (ty_tag k)) e ∙ ap type_group_of (ty_found TyTag.ptr)))

    ptr_type : ScalarType m (drop a (entries ks ws)) 8
    unfolding enc_ty
    ptr_type =
        record {
          align = bytes_align 64 width_64;
          most = omega arith;
          one = one_entry (at_field f ptr_kind).field Ty.ptr ptr_seen refl;
          aligned = λ structs level l. arms.align_ptr structs _ level l ptr_seen;
          sized = λ structs level l. arms.size_ptr structs _ level l ptr_seen;
        }

  -- a field whose entry has bytes
  scalar_both : {b : ℕ} → (b ≡ 0 → ⊥) → Scalar (get_or ks a 0) (get_or ws a 0) b → (get_or ks a 0 ≡ 0 → ⊥) × ScalarType m (drop a (entries ks ws)) b
  scalar_both nz (int e) = (some_kind e, int_type e)
  scalar_both nz (ptr e) = (ptr_kind e, ptr_type e)

  -- an integer or a pointer has bytes
  pub scalar_some : {b : ℕ} → Scalar (get_or ks a 0) (get_or ws a 0) b → b ≡ 0 → ⊥
  scalar_some (int e) z = let h = (align_bounds _ (int_type e).align).0 in omega arith
  scalar_some (ptr e) z = omega arith

  module _ {b : ℕ} (nz : b ≡ 0 → ⊥) (s : Scalar (get_or ks a 0) (get_or ws a 0) b) where
    pub scalar_kind : get_or ks a 0 ≡ 0 → ⊥
    scalar_kind = (scalar_both nz s).0

    pub scalar_type : ScalarType m (drop a (entries ks ws)) b
    scalar_type = (scalar_both nz s).1

    pub scalar_next : AtFields m ks ws (a + 1)
    scalar_next = subst (λ (n : ℕ). AtFields m ks ws (a + n)) scalar_type.one (at_next f scalar_kind)

-- ---- the start of a field
module _ (b e : ℕ) (h : is_align b ≡ true) (is : e ≡ exponent_of b) where
  power : 2 ^ e ≡ b
  power = ap (λ (k : ℕ). 2 ^ k) is ∙ sym (align_exponent b h).1

  pub start_shift : e < 64
  start_shift = omega (arith, (align_exponent b h).0)

  pub start_rounded : (packed : Bool) → packed ≡ false → (off : ℕ) → off + (b - 1) < 2 ^ 64 → (off + (b - 1)) / 2 ^ e * 2 ^ e % 2 ^ 64 ≡ placed packed off b
  unfolding placed
  start_rounded packed p off g = rw (p, power) (mod-eq_of_lt (lt_of_le_of_lt (div-mul-le_self (off + (b - 1)) b) g) ∙ sym (align_step off b (align_bounds b h).0))

pub start_packed : (packed : Bool) → packed ≡ true → (off b : ℕ) → off ≡ placed packed off b
unfolding placed
start_packed packed p off b = rw p refl

-- ---- one after the other
-- all fields from a place on
abbrev pub all_from : (at offset align levels : ℕ) → Run
all_from at offset align levels = record { at = at; left = 1048576; offset = offset; align = align; levels = levels }

abbrev pub passed : Bool → Run → ℕ → Run
passed packed s b =
    record { at = s.at + 1; left = s.left - 1; offset = placed packed s.offset b + b; align = max s.align b; levels = max s.levels 1 }

-- from one place to another, below `stop`
pub data Passes (ks ws : List ℕ) (packed : Bool) (stop : ℕ) : Run → Run → Type 0 where
  none : {r : Run} → Passes ks ws packed stop r r
  more : {r s : Run} (b : ℕ) → Passes ks ws packed stop r s → Scalar (get_or ks s.at 0) (get_or ws s.at 0) b → (b ≡ 0 → ⊥) → s.at < stop → (s.left ≡ 0 → ⊥)
      → Passes ks ws packed stop r (passed packed s b)

-- what is asked: a place among the fields, and offsets of a book's structs
pub record RunFrom (m : ℕ) (ks ws : List ℕ) (r : Run) : Type 0 where
  pub place : AtFields m ks ws r.at
  pub small : r.offset ≤ r.at * 33554432 + 33554432

pub placed_within : (packed : Bool) (off b : ℕ) → b ≤ 8 → placed packed off b ≤ off + 8
unfolding placed
placed_within true off b l = omega arith
placed_within false off b l = omega (arith, align_most off b)

module _ {m : ℕ} {ks ws : List ℕ} where
  pub from_next : (packed : Bool) (s : Run) (b : ℕ) → Scalar (get_or ks s.at 0) (get_or ws s.at 0) b → (b ≡ 0 → ⊥) → RunFrom m ks ws s → RunFrom m ks ws (passed packed s b)
  from_next packed s b c nz f =
      let w : b ≤ 8 = (scalar_type f.place nz c).most in
      record { place = scalar_next f.place nz c; small = omega (arith, placed_within packed s.offset b w, f.small) }

  pub from_passes : (packed : Bool) (stop : ℕ) (r s : Run) → Passes ks ws packed stop r s → RunFrom m ks ws r → RunFrom m ks ws s
  from_passes packed stop r s none f = f
  from_passes packed stop r s (more {s = u} b p c nz l n) f = from_next packed u b c nz (from_passes packed stop r u p f)

-- ---- the loop
module _ {m : ℕ} {ks ws : List ℕ} {packed : Bool} {stop : ℕ} {r s : Run} (p : Passes ks ws packed stop r s) (f : RunFrom m ks ws s) where
  pub run_word : get_or ks s.at 0 ≡ 11 → get_or ws s.at 0 ≤ 64
  run_word e = int_word f.place e

  pub run_small : s.offset ≤ 2 ^ 46
  run_small = omega (arith, f.small, f.place.there, f.place.few)

  module _ {b : ℕ} (c : Scalar (get_or ks s.at 0) (get_or ws s.at 0) b) (nz : b ≡ 0 → ⊥) where
    pub run_bytes : b ≤ 8
    run_bytes = (scalar_type f.place nz c).most

    pub run_start : (is_align b ≡ true) × (s.offset + b < 2 ^ 64)
    run_start = ((scalar_type f.place nz c).align, omega (arith, run_small, run_bytes))

    pub run_fits : (st : ℕ) → st ≡ placed packed s.offset b → st + b ≤ 2 ^ 47
    run_fits st e = omega (arith, run_small, run_bytes, placed_within packed s.offset b run_bytes)

    pub run_next : s.at < stop → (s.left ≡ 0 → ⊥) → (st al lv : ℕ) → st ≡ placed packed s.offset b → al ≡ max s.align b → lv ≡ max s.levels 1
        → Passes ks ws packed stop r (record { at = s.at + 1; left = s.left - 1; offset = st + b; align = al; levels = lv })
        × RunFrom m ks ws (record { at = s.at + 1; left = s.left - 1; offset = st + b; align = al; levels = lv })
    run_next l n st al lv es ea el = rw (es, ea, el) (more b p c nz l n, from_next packed s b c nz f)

pub passes_on : {ks ws : List ℕ} {packed : Bool} {stop : ℕ} (r s : Run) → Passes ks ws packed stop r s → r.at ≤ s.at
passes_on r s none = omega arith
passes_on r s (more {s = u} b p c nz l n) = omega (arith, passes_on r u p)

pub passes_from : {ks ws : List ℕ} {packed : Bool} {stop at offset align levels : ℕ} (r s : Run) → r ≡ all_from at offset align levels → Passes ks ws packed stop r s → at ≤ s.at
passes_from {at = at} {offset = offset} {align = align} {levels = levels} r s e p = passes_on (all_from at offset align levels) s (rw e at p)

-- ---- how far scalars are passed: to the end of so many entries, and nowhere without a level
unfoldable pub reach_of : (length level : ℕ) → ℕ
reach_of length level = cond (eqb level 0) 0 length

module _ (length level : ℕ) where
  pub reach_zero : level ≡ 0 → 0 ≡ reach_of length level
  unfolding reach_of
  reach_zero z = rw (eq-eqb level 0 z) refl

  pub reach_all : (level ≡ 0 → ⊥) → length ≡ reach_of length level
  unfolding reach_of
  reach_all z = rw (ne_eqb level 0 z) refl

  pub reach_none : (stop : ℕ) → stop ≡ reach_of length level → level ≡ 0 → stop ≡ 0
  reach_none stop e z = e ∙ sym (reach_zero z)

-- a place that was passed is below `stop`
pub passed_stop : (level : ℕ) {stop at : ℕ} → (level ≡ 0 → stop ≡ 0) → at < stop → level ≡ 0 → ⊥
passed_stop level n l z = omega (arith, n z)

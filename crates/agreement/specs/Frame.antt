-- The frame pass: a varying place has no offset, and makes a frame; a fixed one has an offset.
use Rattle.std.specs.Prelude.{ℕ, ◌+◌, ◌*◌, ◌≡◌, true, ltb}
use Rattle.std.proofs.Math.Path.{refl, ap}
use Rattle.std.proofs.Common.{sym, ◌∙◌}
use Rattle.std.proofs.Math.Bool.{or-true}
use Rattle.std.proofs.Math.Option.{Option, none, some}
use mathlib.Core.List.{List, [], ◌∷◌}
use Rattle.numbers.specs.Align.{align_up}
use Rattle.book.specs.Ast.{Ty, TypedVal, Inst, StructType}
use Rattle.book.specs.Result.{ok_or}
use Rattle.book.specs.Shape.{Shape, shape}
use Rattle.layout.specs.Layout.{align_of, size_of, frame_limit}
use Rattle.lowering.specs.Places.{lookup_here, lookup_there}
use Rattle.agreement.specs.Holds.{Holds, H-ok, H-bind, H-eq, H-map}
use Rattle.agreement.specs.Lists.{some_same, In, here, there}
use Rattle.agreement.specs.Names.{Stands, stands_left, stands_right, stands_own, stands_in, apart, distinct_right}
use Rattle.agreement.specs.Operand.{ok_or_some}
use Rattle.agreement.specs.Naming.{optional, result_names, Distinct}
use Rattle.book.specs.Map.{lookup}
use Rattle.layout.specs.Frame.{Places, count_of, with_place, with_dynamic, place, frame_step, frame_pass, no_frame, framed}

module _ (structs : List StructType) where
  -- what a part of the pass keeps of other names
  record Kept (names : List ℕ) (f g : Places) : Type 0 where
    same : (x : ℕ) → (Stands x names → ⊥) → lookup x g.offsets ≡ lookup x f.offsets
    dynamic : f.dynamic ≡ true → g.dynamic ≡ true

  place_kept : (y : ℕ) (ty : Ty) (n : Option ℕ) (f : Places) (l : List ℕ) → Stands y l → Holds (place structs y ty n f) (Kept l f)
  unfolding place with_dynamic with_place
  place_kept y ty none f l t = H-ok _ (record { same = λ x n. refl; dynamic = λ d. refl })
  place_kept y ty (some n) f l t = H-eq (align_of structs ty) _ λ a ha. H-eq (size_of structs ty) _ λ z hz. H-eq (frame_limit (align_up f.off a + z * n)) _ λ end he.
      H-ok _ (record { same = λ x n. lookup_there x y _ f.offsets (λ e. n (stands_as x y l (sym e) t)); dynamic = λ d. d })
    where
      stands_as : (x y : ℕ) (l : List ℕ) → y ≡ x → Stands y l → Stands x l
      stands_as x y l e t = record { place = t.place; stands = t.stands ∙ ap {B = Option ℕ} some e }

  same_frame : (f : Places) (l : List ℕ) → Kept l f f
  same_frame f l = record { same = λ x n. refl; dynamic = λ d. d }

  step_kept : (dest : Option ℕ) (sh : Shape) (f : Places) → Holds (frame_step structs dest sh f) (Kept (optional dest) f)
  unfolding frame_step
  step_kept dest (Shape.alloca ty count) f = H-eq (ok_or 5 dest) _ λ y hy. place_kept y ty (count_of count) f (optional dest) (stands_own y dest (ok_or_some 5 dest y hy))
  step_kept dest (Shape.phi ty is) f = H-ok _ (same_frame f (optional dest))
  step_kept dest (Shape.call v) f = H-ok _ (same_frame f (optional dest))
  step_kept dest Shape.cmpxchg f = H-ok _ (same_frame f (optional dest))
  step_kept dest Shape.plain f = H-ok _ (same_frame f (optional dest))

  pass_kept : (is : List Inst) (f : Places) → Holds (frame_pass structs is f) (Kept (result_names is) f)
  unfolding frame_pass result_names
  pass_kept [] f = H-ok _ (same_frame f [])
  pass_kept (i ∷ is) f = H-bind _ (step_kept i.dest (shape i.kind) f) λ g p. H-map (pass_kept is g) λ h q. record {
    same = λ x n. q.same x (λ t. n (stands_right (optional i.dest) (result_names is) t)) ∙ p.same x (λ t. n (stands_left (optional i.dest) (result_names is) t));
    dynamic = λ d. q.dynamic (p.dynamic d);
  }

  -- ---- a varying place: no offset is put, and there is a frame
  own_varying : (x : ℕ) (dest : Option ℕ) (sh : Shape) (ty : Ty) (count : Option TypedVal) (f : Places) → sh ≡ Shape.alloca ty count → count_of count ≡ none
      → Holds (frame_step structs dest sh f) (λ g. (lookup x g.offsets ≡ lookup x f.offsets) × (g.dynamic ≡ true))
  unfolding frame_step place with_dynamic
  own_varying x dest sh ty count f e n = rw e (H-eq (ok_or 5 dest) _ λ y hy. rw n (H-ok _ (refl, refl)))

  pass_varying : (x : ℕ) (ty : Ty) (count : Option TypedVal) {i : Inst} (is : List Inst) (f : Places) → In i is → i.dest ≡ some x → shape i.kind ≡ Shape.alloca ty count → count_of count ≡ none
      → Distinct (result_names is) → Holds (frame_pass structs is f) (λ g. (lookup x g.offsets ≡ lookup x f.offsets) × (g.dynamic ≡ true))
  unfolding frame_pass result_names
  pass_varying x ty count {i = i} [] f x6 e k n d = elim x6 [ ]
  pass_varying x ty count (i ∷ is) f here e k n d = H-bind _ (own_varying x i.dest (shape i.kind) ty count f k n) λ g p. H-map (pass_kept is g) λ h q.
      (q.same x (λ t. apart (optional i.dest) (result_names is) d (stands_own x i.dest e) t) ∙ p.0, q.dynamic p.1)
  pass_varying x ty count (j ∷ is) f (there h) e k n d = H-bind _ (step_kept j.dest (shape j.kind) f) λ g p.
      H-map (pass_varying x ty count is g h e k n (distinct_right (optional j.dest) (result_names is) d)) λ g' q.
      (q.0 ∙ p.same x (λ t. apart (optional j.dest) (result_names is) d t (stands_in x h e)), q.1)

  pub varying_place : (x : ℕ) (ty : Ty) (count : Option TypedVal) {i : Inst} (is : List Inst) → In i is → i.dest ≡ some x → shape i.kind ≡ Shape.alloca ty count → count_of count ≡ none
      → Distinct (result_names is) → Holds (frame_pass structs is no_frame) (λ g. (lookup x g.offsets ≡ none) × (framed g ≡ true))
  unfolding no_frame lookup framed
  varying_place x ty count is h e k n d = H-map (pass_varying x ty count is no_frame h e k n d) λ g p. (p.0, (rw p.1 (or-true (ltb 0 (align_up g.off 8)))))

  -- ---- a fixed place has its offset: the source never misses one
  own_fixed : (x : ℕ) (dest : Option ℕ) (sh : Shape) (ty : Ty) (count : Option TypedVal) (m : ℕ) (f : Places) → dest ≡ some x → sh ≡ Shape.alloca ty count → count_of count ≡ some m
      → Holds (frame_step structs dest sh f) (λ g. (off : ℕ) × (lookup x g.offsets ≡ some off))
  unfolding frame_step place with_place
  own_fixed x dest sh ty count m f ex e n = rw e (H-eq (ok_or 5 dest) _ λ y hy. rw n (H-eq (align_of structs ty) _ λ a ha. H-eq (size_of structs ty) _ λ z hz.
      H-eq (frame_limit (align_up f.off a + z * m)) _ λ end he.
      H-ok _ (align_up f.off a, (let i : y ≡ x = some_same (sym (ok_or_some 5 dest y hy) ∙ ex) in rw i (lookup_here x (align_up f.off a) f.offsets)))))

  pub fixed_place_lem : (x : ℕ) (ty : Ty) (count : Option TypedVal) (m : ℕ) {i : Inst} (is : List Inst) (f : Places) → In i is → i.dest ≡ some x → shape i.kind ≡ Shape.alloca ty count → count_of count ≡ some m
      → Distinct (result_names is) → Holds (frame_pass structs is f) (λ g. (off : ℕ) × (lookup x g.offsets ≡ some off))
  unfolding frame_pass result_names
  fixed_place_lem x ty count m {i = i} [] f x6 e k n d = elim x6 [ ]
  fixed_place_lem x ty count m (i ∷ is) f here e k n d = H-bind _ (own_fixed x i.dest (shape i.kind) ty count m f e k n) λ g p. H-map (pass_kept is g) λ h q.
      (p.0, q.same x (λ t. apart (optional i.dest) (result_names is) d (stands_own x i.dest e) t) ∙ p.1)
  fixed_place_lem x ty count m (j ∷ is) f (there h) e k n d = H-bind _ (step_kept j.dest (shape j.kind) f) λ g p.
      fixed_place_lem x ty count m is g h e k n (distinct_right (optional j.dest) (result_names is) d)

-- Offsets of fields: what the functions ask and answer, and the loops over a struct's fields.
use Prim.Native.Nat.{ℕ, zero, suc, ◌+◌, ◌-◌, ◌*◌, ◌<◌, ◌≤◌, ◌^◌}
use Rattle.std.specs.Prelude.{◌≡◌, Bool, true, false, List, length, get_or, drop}
use Rattle.std.proofs.Math.Path.{refl, sym, ap}
use Rattle.std.proofs.Common.{◌∙◌, subst, sub-one}
use Rattle.std.proofs.Math.Option.{some}
use Rattle.std.proofs.Math.Option as option
use native.Mathlib.Omega.{arith}
use Rattle.std.specs.Prelude.{Option, Some, None, Result as Answer, Ok, Err}
use Rattle.book.specs.declared.refusal.Refusal.{Refusal}
use Rattle.book.specs.declared.refusal.Refusal.TheVariants as refusal
use Rattle.book.specs.Refusal.{number_of}
use Rattle.book.specs.Entry.{Entry, entries}
use Rattle.book.specs.Ast.{Ty, Tys, StructType}
use Rattle.book.specs.Result.{Result, ok, err, bind}
use Rattle.book_types.specs.Laws.{entries_part}
use Rattle.layout.specs.Layout.{placed, align_in, offset_from, align_of, size_of}
use Rattle.layout.specs.Step.{field_at}
use Rattle.layout_memo.specs.Measured.{Measures}
use Rattle.layout_memo.specs.Front.{Starts, StartsFields, ty_of, tys_of, ty_len}
use Rattle.layout_memo.specs.Work.{structs_in, sizes, aligns, After, Outcome, Ask, AskFields, after_none, after_then, align_small, size_small}
use Rattle.layout_memo.specs.Helpers.{gives_at, refused_at}
use Rattle.layout_memo.specs.Calls.{lent, ask_part, part_type}
use Rattle.layout_memo.specs.Fields.{AtFields, at_start_lem, at_nil, at_field, at_next, at_cons}
use Rattle.layout_size.specs.Sums.{SmallSum, placed_most}
use Rattle.layout_memo.specs.FieldCalls.{skipped}
use Rattle.layout_memo.specs.Scalars.{Scalar, ScalarType, Passes, none, more, RunFrom, passes_on, scalar_kind, scalar_type, scalar_next}
use Rattle.layout_memo.specs.declared.scalars.Run.{Run}
use Rattle.layout_memo.specs.Measured.{Measured, bytes_of}

-- where something starts, or why there is no answer
abbrev pub Offset : Type 0
Offset = Answer ℕ Refusal

-- document 01's answer
abbrev pub offset_result : Offset → Result ℕ
offset_result (Ok n) = ok n
offset_result (Err e) = err (number_of e)

-- so many fields are to be passed from a place on
abbrev pub left_from : (at left offset : ℕ) → Run
left_from at left offset = record { at = at; left = left; offset = offset; align = 1; levels = 0 }

pub left_on : {ks ws : List ℕ} {packed : Bool} {stop at left offset : ℕ} (next run : Run) → next ≡ left_from at left offset → Passes ks ws packed stop next run → at ≤ run.at
left_on {at = at} {left = left} {offset = offset} next run e p = passes_on (left_from at left offset) run (rw e at p)

-- ---- the place of a field
pub record FieldPlace (m : ℕ) (es : List Entry) (i n : ℕ) : Type 0 where
  pub field : field_at (tys_of m es) i ≡ some (ty_of m (drop n es))
  pub front : Starts m (drop n es)
  pub there : n < length es

abbrev pub FieldFound : (m : ℕ) (es : List Entry) (i : ℕ) → Option ℕ → Type 0
FieldFound m es i (Some n) = FieldPlace m es i n
FieldFound m es i None = field_at (tys_of m es) i ≡ option.none

field_later : (k : ℕ) → (k ≡ 0 → ⊥) → (t : Ty) (ts : Tys) → field_at (Tys.cons t ts) k ≡ field_at ts (k - 1)
unfolding field_at
field_later zero w t ts = absurd (w refl)
field_later (suc k) w t ts = rw (sub-one (suc k)) refl

module _ (m : ℕ) (ks ws : List ℕ) (i : ℕ) where
  pub record FindLoop (a left : ℕ) : Type 0 where
    pub place : AtFields m ks ws a
    pub goes : field_at (tys_of m (entries ks ws)) i ≡ field_at (tys_of m (drop a (entries ks ws))) left

  pub find_start : StartsFields m (entries ks ws) → FindLoop 0 i
  find_start s = record { place = at_start_lem m ks ws s; goes = refl }

  module _ {a left : ℕ} (l : FindLoop a left) where
    pub find_none : get_or ks a 0 ≡ 0 → field_at (tys_of m (entries ks ws)) i ≡ option.none
    unfolding field_at
    find_none z = l.goes ∙ rw (at_nil l.place z) refl

    module _ (z : get_or ks a 0 ≡ 0 → ⊥) where
      pub find_here : left ≡ 0 → FieldPlace m (entries ks ws) i a
      unfolding field_at
      find_here e = record { field = l.goes ∙ rw (at_cons l.place z, e) refl; front = (at_field l.place z).field; there = l.place.there }

      pub find_next : (left ≡ 0 → ⊥) → (n : ℕ) → n ≡ ty_len m (lent ks ws a) → FindLoop (a + n) (left - 1)
      find_next w n en = rw (skipped m ks ws a l.place z n en) (record { place = at_next l.place z; goes = l.goes ∙ rw (at_cons l.place z) (field_later left w (ty_of m (drop a (entries ks ws))) (tys_of m (drop (a + ty_len m (drop a (entries ks ws))) (entries ks ws)))) })

  -- integers and pointers are passed
  find_one : (s : Run) (b : ℕ) → Scalar (get_or ks s.at 0) (get_or ws s.at 0) b → (b ≡ 0 → ⊥) → (s.left ≡ 0 → ⊥) → FindLoop s.at s.left → FindLoop (s.at + 1) (s.left - 1)
  find_one s b c nz w l =
      let one = (scalar_type l.place nz c).one in
      find_next l (scalar_kind l.place nz c) w 1 (sym (ap (ty_len m) (entries_part s.at ks ws) ∙ one))

  find_passes : {packed : Bool} {stop : ℕ} (r s : Run) → Passes ks ws packed stop r s → FindLoop r.at r.left → FindLoop s.at s.left
  find_passes r s none l = l
  find_passes r s (more {s = u} b p c nz h n) l = find_one u b c nz n (find_passes r u p l)

  module _ {a left : ℕ} (l : FindLoop a left) (next : Run) (e : next ≡ left_from a left 0) where
    pub find_from : RunFrom m ks ws next
    find_from = rw e (record { place = l.place; small = omega arith })

    pub find_again : {packed : Bool} {stop : ℕ} (run : Run) → Passes ks ws packed stop next run → FindLoop run.at run.left
    find_again run p = find_passes (left_from a left 0) run (rw e at p) l

-- ---- the start of a field
module _ (structs : List StructType) (packed : Bool) where
  unfoldable pub start_of : Ty → ℕ → Result ℕ
  start_of t off = bind (align_in (align_of structs) (size_of structs) packed t) (λ a. ok (placed packed off a))

  abbrev pub offset_of : Tys → ℕ → ℕ → Result ℕ
  offset_of ts i off = offset_from (align_of structs) (size_of structs) packed ts i off

-- a field of those at the front is asked for, behind so many bytes
pub record AskOffset (m : ℕ) (es bs : List Entry) (work : List ℕ) (off : ℕ) : Type 0 where
  pub ask : AskFields m es bs work 64
  pub small : off ≤ 16777216

pub record AskStart (m : ℕ) (es bs : List Entry) (work : List ℕ) (off : ℕ) : Type 0 where
  pub ask : Ask m es bs work 64
  pub small : off ≤ 2 ^ 46

abbrev pub StartsBy : ℕ → Offset → Type 0
StartsBy most (Ok n) = n ≤ most
StartsBy most (Err e) = Unit {0}

pub record StartOutcome (m : ℕ) (bs : List Entry) (work work' : List ℕ) (off : ℕ) (res : Result ℕ) (r : Offset) : Type 0 where
  pub answer : offset_result r ≡ res
  pub most : StartsBy (off + 8) r
  pub after : After m bs work work'

pub record OffsetOutcome (m : ℕ) (bs : List Entry) (work work' : List ℕ) (res : Result ℕ) (r : Offset) : Type 0 where
  pub answer : offset_result r ≡ res
  pub after : After m bs work work'

module _ (m : ℕ) (es bs : List Entry) (work : List ℕ) (packed : Bool) (off : ℕ) (k : AskStart m es bs work off) where
  pub start_packed : packed ≡ true → StartOutcome m bs work work off (start_of (structs_in m bs) packed (ty_of m es) off) (Ok off)
  unfolding start_of align_in placed bind
  start_packed e = record { answer = rw e refl; most = omega arith; after = after_none k.ask.ready }

  module _ (e : packed ≡ false) {work' : List ℕ} (r : Measured) (o : Outcome m bs work work' (aligns (structs_in m bs) (ty_of m es)) 64 r) where
    pub start_refused : (x : Refusal) → r ≡ Err x → StartOutcome m bs work work' off (start_of (structs_in m bs) packed (ty_of m es) off) (Err x)
    unfolding start_of align_in placed bind align_of
    start_refused x q =
        let s : aligns (structs_in m bs) (ty_of m es) 64 ≡ err (number_of x) = refused_at r _ 64 q o.says in
        record { answer = rw (e, s) refl; most = tt; after = o.after }

    pub start_align : (a h : ℕ) → r ≡ bytes_of a h → a ≤ 8
    start_align a h q = let g = gives_at r q _ 64 o.says in (align_small (structs_in m bs) (ty_of m es) g.within g.known).1

    pub start_small : (a h : ℕ) → r ≡ bytes_of a h → SmallSum off a
    start_small a h q = (k.small, start_align a h q)

    pub start_at : (a h : ℕ) → r ≡ bytes_of a h → (n : ℕ) → n ≡ placed packed off a → StartOutcome m bs work work' off (start_of (structs_in m bs) packed (ty_of m es) off) (Ok n)
    unfolding start_of align_in bind align_of
    start_at a h q n en =
        let g = gives_at r q _ 64 o.says in
        let s : aligns (structs_in m bs) (ty_of m es) 64 ≡ ok a = g.known.high 64 g.within in
        record { answer = ap ok en ∙ rw (e, s) refl; most = omega (arith, placed_most packed off a (start_align a h q)); after = o.after }

-- an integer or a pointer
module _ (structs : List StructType) {m : ℕ} {ks ws : List ℕ} {a b : ℕ} (f : AtFields m ks ws a) (nz : b ≡ 0 → ⊥) (c : Scalar (get_or ks a 0) (get_or ws a 0) b) where
  pub scalar_sized : sizes structs (ty_of m (drop a (entries ks ws))) 64 ≡ ok b
  scalar_sized = let g = (scalar_type f nz c).sized structs 64 (λ z. omega arith) in g.known.high 64 g.within

  scalar_aligned : aligns structs (ty_of m (drop a (entries ks ws))) 64 ≡ ok b
  scalar_aligned = let g = (scalar_type f nz c).aligned structs 64 (λ z. omega arith) in g.known.high 64 g.within

pub scalar_starts : (structs : List StructType) (packed : Bool) {m : ℕ} {ks ws : List ℕ} {a b : ℕ} (f : AtFields m ks ws a) (nz : b ≡ 0 → ⊥) (c : Scalar (get_or ks a 0) (get_or ws a 0) b) (off : ℕ)
    → start_of structs packed (ty_of m (drop a (entries ks ws))) off ≡ ok (placed packed off b)
unfolding start_of align_in placed bind align_of
scalar_starts structs true f nz c off = refl
scalar_starts structs false f nz c off = rw (scalar_aligned structs f nz c) refl

-- ---- the loop
pub through : (r : Result ℕ) (g : ℕ → ℕ) (x : Result ℕ) (f : ℕ → Result ℕ) → x ≡ bind r (λ a. ok (g a)) → bind r (λ a. f (g a)) ≡ bind x f
unfolding bind
through (ok a) g x f e = rw e refl
through (err c) g x f e = rw e refl

module _ (m : ℕ) (ks ws : List ℕ) (bs : List Entry) (work₀ : List ℕ) (packed : Bool) (i off₀ : ℕ) where
  abbrev structs : List StructType
  structs = structs_in m bs

  abbrev from : ℕ → ℕ → ℕ → Result ℕ
  from a left off = offset_from (align_of structs) (size_of structs) packed (tys_of m (drop a (entries ks ws))) left off

  pub record OffsetLoop (work : List ℕ) (a off left : ℕ) : Type 0 where
    pub place : AtFields m ks ws a
    pub goes : offset_of structs packed (tys_of m (entries ks ws)) i off₀ ≡ from a left off
    pub small : off ≤ a * 33554432 + 33554432
    pub after : After m bs work₀ work

  pub offset_start : AskOffset m (entries ks ws) bs work₀ off₀ → OffsetLoop work₀ 0 off₀ i
  offset_start k = record { place = at_start_lem m ks ws k.ask.front; goes = refl; small = omega (arith, k.small); after = after_none k.ask.ready }

  module _ {work : List ℕ} {a off left : ℕ} (l : OffsetLoop work a off left) where
    pub offset_none : get_or ks a 0 ≡ 0 → OffsetOutcome m bs work₀ work (offset_of structs packed (tys_of m (entries ks ws)) i off₀) (Err refusal.GepStep)
    unfolding offset_from
    offset_none z = record { answer = sym (l.goes ∙ rw (at_nil l.place z) refl); after = l.after }

    module _ (z : get_or ks a 0 ≡ 0 → ⊥) where
      abbrev field : Ty
      field = ty_of m (drop a (entries ks ws))

      pub offset_ask : AskStart m (lent ks ws a) bs work off
      offset_ask = record { ask = ask_part ks ws a (at_field l.place z).field l.after.ready (omega arith); small = omega (arith, l.small, l.place.there, l.place.few) }

      from_zero : left ≡ 0 → from a left off ≡ start_of structs packed field off
      unfolding offset_from start_of
      from_zero e = rw (at_cons l.place z, e) refl

      from_suc : (k : ℕ) → left ≡ suc k → (x : Result ℕ) → x ≡ start_of structs packed field off
          → from a left off ≡ bind x (λ o. bind (sizes structs field 64) (λ s. from (a + ty_len m (drop a (entries ks ws))) k (o + s)))
      unfolding offset_from start_of size_of
      from_suc k e x q =
          rw (at_cons l.place z, e)
          (through (align_in (align_of structs) (size_of structs) packed field) (placed packed off) x (λ o. bind (sizes structs field 64) (λ s. from (a + ty_len m (drop a (entries ks ws))) k (o + s))) q)

      module _ {work' : List ℕ} {r : Offset} (o : StartOutcome m bs work work' off (start_of structs packed (ty_of m (lent ks ws a)) off) r) where
        start_is : offset_result r ≡ start_of structs packed field off
        start_is = o.answer ∙ ap (λ (es : List Entry). start_of structs packed (ty_of m es) off) (entries_part a ks ws)

        refused_from : (x : Refusal) → r ≡ Err x → (k : ℕ) → left ≡ k → from a left off ≡ err (number_of x)
        unfolding bind
        refused_from x q zero e = from_zero e ∙ sym start_is ∙ ap offset_result q
        refused_from x q (suc k) e = from_suc k e (err (number_of x)) (sym (ap offset_result q) ∙ start_is)

        pub offset_refused : (x : Refusal) → r ≡ Err x → OffsetOutcome m bs work₀ work' (offset_of structs packed (tys_of m (entries ks ws)) i off₀) (Err x)
        offset_refused x q = record { answer = sym (l.goes ∙ refused_from x q left refl); after = after_then l.after o.after }

        module _ (n : ℕ) (q : r ≡ Ok n) where
          pub offset_here : left ≡ 0 → OffsetOutcome m bs work₀ work' (offset_of structs packed (tys_of m (entries ks ws)) i off₀) (Ok n)
          offset_here e = record { answer = sym (l.goes ∙ from_zero e ∙ sym start_is ∙ ap offset_result q); after = after_then l.after o.after }

          pub start_most : n ≤ off + 8
          start_most = subst (StartsBy (off + 8)) q o.most

          pub size_ask : Ask m (lent ks ws a) bs work' 64
          size_ask = ask_part ks ws a (at_field l.place z).field o.after.ready (omega arith)

          later : (w : left ≡ 0 → ⊥) → from a left off ≡ bind (sizes structs field 64) (λ s. from (a + ty_len m (drop a (entries ks ws))) (left - 1) (n + s))
          unfolding bind
          later w = go left refl w
            where
              go : (k : ℕ) → left ≡ k → (k ≡ 0 → ⊥) → from a left off ≡ bind (sizes structs field 64) (λ s. from (a + ty_len m (drop a (entries ks ws))) (left - 1) (n + s))
              go zero e w = absurd (w refl)
              go (suc k) e w =
                  let d : left - 1 ≡ k = omega arith in
                  rw d (from_suc k e (ok n) (sym (ap offset_result q) ∙ start_is))

          module _ (w : left ≡ 0 → ⊥) {work'' : List ℕ} {s : Measured} (u : Outcome m bs work' work'' (sizes structs (ty_of m (lent ks ws a))) 64 s) where
            size_says : Measures (sizes structs field) 64 s
            size_says = part_type (sizes structs) m ks ws a 64 s u.says

            pub offset_size_refused : (x : Refusal) → s ≡ Err x → OffsetOutcome m bs work₀ work'' (offset_of structs packed (tys_of m (entries ks ws)) i off₀) (Err x)
            unfolding bind
            offset_size_refused x p =
                let g : sizes structs field 64 ≡ err (number_of x) = refused_at s _ 64 p size_says in
                record { answer = sym (l.goes ∙ later w ∙ rw g refl); after = after_then l.after (after_then o.after u.after) }

            module _ (c h : ℕ) (p : s ≡ bytes_of c h) where
              pub size_most : c ≤ 16777216
              size_most = let g = gives_at s p _ 64 size_says in size_small structs field g.within g.known

              pub offset_fits : n + c ≤ 2 ^ 47
              offset_fits = omega (arith, size_most, start_most, l.small, l.place.there, l.place.few)

              pub offset_next : (len : ℕ) → len ≡ ty_len m (lent ks ws a) → OffsetLoop work'' (a + len) (n + c) (left - 1)
              unfolding bind
              offset_next len en =
                  let g = gives_at s p _ 64 size_says in
                  let v : sizes structs field 64 ≡ ok c = g.known.high 64 g.within in
                  let b : 1 ≤ ty_len m (drop a (entries ks ws)) = (at_field l.place z).there in
                  let sm = size_most in
                  let st = start_most in
                  rw (skipped m ks ws a l.place z len en)
                  (record { place = at_next l.place z; goes = l.goes ∙ later w ∙ rw v refl; small = omega (arith, l.small); after = after_then l.after (after_then o.after u.after) })

  -- integers and pointers are passed
  module _ {work : List ℕ} (s : Run) (b : ℕ) (c : Scalar (get_or ks s.at 0) (get_or ws s.at 0) b) (nz : b ≡ 0 → ⊥) (w : s.left ≡ 0 → ⊥) (l : OffsetLoop work s.at s.offset s.left) where
    known : ScalarType m (drop s.at (entries ks ws)) b
    known = scalar_type l.place nz c

    start_known : start_of structs packed (ty_of m (drop s.at (entries ks ws))) s.offset ≡ ok (placed packed s.offset b)
    start_known = scalar_starts structs packed l.place nz c s.offset

    size_known : sizes structs (ty_of m (drop s.at (entries ks ws))) 64 ≡ ok b
    size_known = scalar_sized structs l.place nz c

    offset_one : OffsetLoop work (s.at + 1) (placed packed s.offset b + b) (s.left - 1)
    unfolding bind
    offset_one =
        let z = scalar_kind l.place nz c in
        let most = known.most in
        record {
          place = scalar_next l.place nz c;
          goes = l.goes ∙ go s.left refl;
          small = omega (arith, l.small, placed_most packed s.offset b most);
          after = l.after;
        }
      where
        go : (k : ℕ) → s.left ≡ k → from s.at s.left s.offset ≡ from (s.at + 1) (s.left - 1) (placed packed s.offset b + b)
        go zero e = absurd (w e)
        go (suc k) e =
            let d : s.left - 1 ≡ k = omega arith in
            from_suc l (scalar_kind l.place nz c) k e (ok (placed packed s.offset b)) (sym start_known) ∙ rw (size_known, known.one, d) refl

  offset_passes : {work : List ℕ} {stop : ℕ} (r s : Run) → Passes ks ws packed stop r s → OffsetLoop work r.at r.offset r.left → OffsetLoop work s.at s.offset s.left
  offset_passes r s none l = l
  offset_passes r s (more {s = u} b p c nz h n) l = offset_one u b c nz n (offset_passes r u p l)

  module _ {work : List ℕ} {a off left : ℕ} (l : OffsetLoop work a off left) (next : Run) (e : next ≡ left_from a left off) where
    pub offset_from_lem : RunFrom m ks ws next
    offset_from_lem = rw e (record { place = l.place; small = l.small })

    pub offset_again : {stop : ℕ} (run : Run) → Passes ks ws packed stop next run → OffsetLoop work run.at run.offset run.left
    offset_again run p = offset_passes (left_from a left off) run (rw e at p) l

-- What the measuring functions ask of each other, and the outcome of each arm, over the lent slices.
use Rattle.std.specs.Prelude.{ℕ, zero, suc, ◌+◌, ◌-◌, ◌*◌, ◌/◌, ◌≤◌, ◌≡◌, refl, Bool, true, false, List, leb, length, get_or, drop, take, set}
use Rattle.std.proofs.Common.{sym, ap, subst, arith, length-append}
use Rattle.numbers.specs.Width.{width_bounds}
use Rattle.book.specs.Entry.{Entry, entries}
use Rattle.book.specs.Ast.{Ty, Tys, StructType}
use Rattle.book.specs.Kinds.{ty_tag}
use Rattle.book.specs.Encode.{enc_ty}
use Rattle.book.specs.Result.{Result}
use Rattle.book.specs.Work.{body_at, measured_at}
use Rattle.book_types.specs.Groups.{type_group_of}
use Rattle.book_types.specs.Laws.{entries_part, within_kinds, within_words}
use Rattle.book_types.specs.declared.types.TypeGroup.{TypeGroup}
use Rattle.book_types.specs.declared.types.TypeGroup.TheVariants as group
use Rattle.std.specs.Prelude.{Ok, Err}
use Rattle.book.specs.declared.refusal.Refusal.TheVariants as refusal
use Rattle.layout_memo.specs.Measured.{Measured, bytes_of, Measures, one_more, Few, measures_few}
use Rattle.layout_memo.specs.Front.{Starts, StartsFields, ty_of, tys_of, ShapeOf, shape, enc_pos}
use Rattle.layout_memo.specs.Work.{structs_in, BodyAt, size_part, align_part, sizes, aligns, Ready, Outcome, outcome, Ask, AskFields, AskName, after_none, after_then, after_set, with_size, with_align, recalled, recalls, pick_measured, size_remembered, align_remembered}
use Rattle.layout_memo.specs.Arms as arms
use Rattle.layout_memo.specs.Arms.{times_of, SmallBytes, field_sizes, field_aligns}
use Rattle.layout_memo.specs.Helpers.{size_bytes, align_bytes}

-- the entries from a on, as the logic has them
abbrev pub lent : List ℕ → List ℕ → ℕ → List Entry
lent ks ws a = entries (take (length ks - a) (drop a ks)) (take (length ws - a) (drop a ws))

pub starts_length : {m : ℕ} {es : List Entry} → Starts m es → 1 ≤ length es
starts_length s = omega (arith, ap length s.here, length-append (enc_ty s.ty) s.rest, enc_pos s.ty)

module _ {m : ℕ} {bs : List Entry} {work : List ℕ} {level : ℕ} (ks ws : List ℕ) (a : ℕ) where
  pub ask_part : Starts m (drop a (entries ks ws)) → Ready m bs work → level ≤ 64 → Ask m (lent ks ws a) bs work level
  ask_part s r l = record { front = subst (Starts m) (sym (entries_part a ks ws)) s; ready = r; levels = l }

  pub ask_fields : StartsFields m (drop a (entries ks ws)) → Ready m bs work → level ≤ 64 → AskFields m (lent ks ws a) bs work level
  ask_fields s r l = record { front = subst (StartsFields m) (sym (entries_part a ks ws)) s; ready = r; levels = l }

-- the measure of a part is that of the entries from a on
module _ (f : Ty → ℕ → Result ℕ) (m : ℕ) (ks ws : List ℕ) (a : ℕ) where
  pub part_type : (level : ℕ) (r : Measured) → Measures (f (ty_of m (lent ks ws a))) level r → Measures (f (ty_of m (drop a (entries ks ws)))) level r
  part_type level r g = subst (λ (es : List Entry). Measures (f (ty_of m es)) level r) (entries_part a ks ws) g

module _ (f : Tys → ℕ → Result ℕ) (m : ℕ) (ks ws : List ℕ) (a : ℕ) where
  pub part_types : (level : ℕ) (r : Measured) → Measures (f (tys_of m (lent ks ws a))) level r → Measures (f (tys_of m (drop a (entries ks ws)))) level r
  part_types level r g = subst (λ (es : List Entry). Measures (f (tys_of m es)) level r) (entries_part a ks ws) g

-- ---- a type
module _ (m : ℕ) (ks ws : List ℕ) (bs : List Entry) (work : List ℕ) (level : ℕ) (k : Ask m (entries ks ws) bs work level) where
  pub kinds_there : 1 ≤ length ks
  kinds_there = within_kinds 1 ks ws (starts_length k.front)

  pub words_there : 1 ≤ length ws
  words_there = within_words 1 ks ws (starts_length k.front)

  abbrev front : Ty
  front = ty_of m (entries ks ws)

  abbrev structs : List StructType
  structs = structs_in m bs

  pub align_none : level ≡ 0 → Outcome m bs work work (aligns structs front) level (Err refusal.TooLarge)
  align_none z = outcome (arms.align_zero structs front level z) (after_none k.ready)

  pub size_none : level ≡ 0 → Outcome m bs work work (sizes structs front) level (Err refusal.TooLarge)
  size_none z = outcome (arms.size_zero structs front level z) (after_none k.ready)

  module _ (g : TypeGroup) (eg : g ≡ type_group_of (ty_tag (get_or ks 0 0))) where
    at_group : (h : TypeGroup) → g ≡ h → ShapeOf m (get_or ws 0 0) (drop 1 (entries ks ws)) front h
    at_group h e = subst (ShapeOf m (get_or ws 0 0) (drop 1 (entries ks ws)) front) e (shape m ks ws g eg k.front)

    pub array_ask : (p : Bool) → g ≡ group.Array p → Ask m (lent ks ws 1) bs work (level - 1)
    array_ask p e = ask_part ks ws 1 (at_group (group.Array p) e).0 k.ready (omega (arith, k.levels))

    pub struct_ask : (p : Bool) → g ≡ group.Struct p → AskFields m (lent ks ws 1) bs work (level - 1)
    struct_ask p e = ask_fields ks ws 1 (at_group (group.Struct p) e).0 k.ready (omega (arith, k.levels))

    pub named_ask : (level ≡ 0 → ⊥) → g ≡ group.Named → AskName m (get_or ws 0 0) bs work level
    named_ask z e = record { name = (at_group group.Named e).0; some_level = positive level z; ready = k.ready; levels = k.levels }
      where
        positive : (l : ℕ) → (l ≡ 0 → ⊥) → 1 ≤ l
        positive zero z = absurd (z refl)
        positive (suc l) z = omega arith

    pub int_width_lem : g ≡ group.Int → get_or ws 0 0 ≤ 64
    int_width_lem e = (width_bounds (get_or ws 0 0) (at_group group.Int e).1).1

    module _ (z : level ≡ 0 → ⊥) where
      pub align_void : g ≡ group.Void → Outcome m bs work work (aligns structs front) level (bytes_of 1 1)
      align_void e = outcome (arms.align_void structs front level z (at_group group.Void e)) (after_none k.ready)

      pub size_void : g ≡ group.Void → Outcome m bs work work (sizes structs front) level (bytes_of 0 1)
      size_void e = outcome (arms.size_void structs front level z (at_group group.Void e)) (after_none k.ready)

      pub align_ptr : g ≡ group.Ptr → Outcome m bs work work (aligns structs front) level (bytes_of 8 1)
      align_ptr e = outcome (arms.align_ptr structs front level z (at_group group.Ptr e)) (after_none k.ready)

      pub size_ptr : g ≡ group.Ptr → Outcome m bs work work (sizes structs front) level (bytes_of 8 1)
      size_ptr e = outcome (arms.size_ptr structs front level z (at_group group.Ptr e)) (after_none k.ready)

      pub align_int : g ≡ group.Int → Outcome m bs work work (aligns structs front) level (bytes_of ((get_or ws 0 0 + 7) / 8) 1)
      align_int e = outcome (arms.align_int structs front level z (get_or ws 0 0) (at_group group.Int e)) (after_none k.ready)

      pub size_int : g ≡ group.Int → Outcome m bs work work (sizes structs front) level (bytes_of ((get_or ws 0 0 + 7) / 8) 1)
      size_int e = outcome (arms.size_int structs front level z (get_or ws 0 0) (at_group group.Int e)) (after_none k.ready)

      pub align_sizeless : g ≡ group.Sizeless → Outcome m bs work work (aligns structs front) level (Err refusal.NoSize)
      align_sizeless e = outcome (arms.align_sizeless structs front level z (at_group group.Sizeless e)) (after_none k.ready)

      pub size_sizeless : g ≡ group.Sizeless → Outcome m bs work work (sizes structs front) level (Err refusal.NoSize)
      size_sizeless e = outcome (arms.size_sizeless structs front level z (at_group group.Sizeless e)) (after_none k.ready)

      pub other : {X : Type 0} → g ≡ group.Other → X
      other e = absurd (at_group group.Other e)

      module _ {work' : List ℕ} {r : Measured} where
        pub align_array : (p : Bool) → g ≡ group.Array p → Outcome m bs work work' (aligns structs (ty_of m (lent ks ws 1))) (level - 1) r → (s : Measured) → s ≡ one_more r
            → Outcome m bs work work' (aligns structs front) level s
        align_array p e o s es =
            outcome (arms.align_array structs front level z p (get_or ws 0 0) _ (at_group (group.Array p) e).1 r s (part_type (aligns structs) m ks ws 1 (level - 1) r o.says) es) o.after

        pub size_array : (p : Bool) → g ≡ group.Array p → Outcome m bs work work' (sizes structs (ty_of m (lent ks ws 1))) (level - 1) r → (q : Measured) → q ≡ times_of (get_or ws 0 0) r → (s : Measured) → s ≡ one_more q
            → Outcome m bs work work' (sizes structs front) level s
        size_array p e o q eq s es =
            outcome (arms.size_array structs front level z p (get_or ws 0 0) _ (at_group (group.Array p) e).1 r q s (part_type (sizes structs) m ks ws 1 (level - 1) r o.says) eq es) o.after

        pub align_struct : (p : Bool) → g ≡ group.Struct p → Outcome m bs work work' (field_aligns structs p (tys_of m (lent ks ws 1))) (level - 1) r → (s : Measured) → s ≡ one_more r
            → Outcome m bs work work' (aligns structs front) level s
        align_struct p e o s es =
            outcome (arms.align_struct structs front level z p _ (at_group (group.Struct p) e).1 r s (part_types (field_aligns structs p) m ks ws 1 (level - 1) r o.says) es) o.after

        pub size_struct : (p : Bool) → g ≡ group.Struct p → Outcome m bs work work' (field_sizes structs p (tys_of m (lent ks ws 1))) (level - 1) r → (s : Measured) → s ≡ one_more r
            → Outcome m bs work work' (sizes structs front) level s
        size_struct p e o s es =
            outcome (arms.size_struct structs front level z p _ (at_group (group.Struct p) e).1 r s (part_types (field_sizes structs p) m ks ws 1 (level - 1) r o.says) es) o.after

        pub align_named : g ≡ group.Named → Outcome m bs work work' (aligns structs (Ty.named_struct (get_or ws 0 0))) level r → Outcome m bs work work' (aligns structs front) level r
        align_named e o = rw (at_group group.Named e).1 o

        pub size_named : g ≡ group.Named → Outcome m bs work work' (sizes structs (Ty.named_struct (get_or ws 0 0))) level r → Outcome m bs work work' (sizes structs front) level r
        size_named e o = rw (at_group group.Named e).1 o

-- the answers for a part are small
module _ {m : ℕ} {bs : List Entry} {work work' : List ℕ} {level : ℕ} {r : Measured} (l : level ≤ 64) where
  pub outcome_few : {f : ℕ → Result ℕ} → Outcome m bs work work' f level r → Few r
  outcome_few {f} o = measures_few f level r l o.says

pub times_few : (n : ℕ) (r q : Measured) → q ≡ times_of n r → Few r → Few q
times_few n r q e f = rw e (go r f)
  where
    pick : (b : Bool) (n h : ℕ) → h ≤ 64 → Few (pick_measured b (bytes_of n h) (Err refusal.TooLarge))
    pick true n h l = l
    pick false n h l = tt

    go : (r : Measured) → Few r → Few (times_of n r)
    go (Ok b) l = pick (leb (n * b.bytes) 16777216) (n * b.bytes) b.levels l
    go (Err x) l = tt

-- ---- a named struct
module _ (m x : ℕ) (bk bw : List ℕ) (work : List ℕ) (level : ℕ) (k : AskName m x (entries bk bw) work level) where
  abbrev named : List StructType
  named = structs_in m (entries bk bw)

  pub align_recalled : (align_part (get_or work (measured_at x) 0) ≡ 0 → ⊥) → (r : Measured) → r ≡ recalled (align_part (get_or work (measured_at x) 0)) level
      → Outcome m (entries bk bw) work work (aligns named (Ty.named_struct x)) level r
  align_recalled z r e = rw e (outcome (recalls (aligns named (Ty.named_struct x)) _ level z (k.ready.known x k.name).align) (after_none k.ready))

  pub size_recalled : (size_part (get_or work (measured_at x) 0) ≡ 0 → ⊥) → (r : Measured) → r ≡ recalled (size_part (get_or work (measured_at x) 0)) level
      → Outcome m (entries bk bw) work work (sizes named (Ty.named_struct x)) level r
  size_recalled z r e = rw e (outcome (recalls (sizes named (Ty.named_struct x)) _ level z (k.ready.known x k.name).size) (after_none k.ready))

  pub align_absent : get_or work (body_at x) 0 ≡ 0 → Outcome m (entries bk bw) work work (aligns named (Ty.named_struct x)) level (Err refusal.NoSize)
  align_absent z = outcome (arms.align_absent named m x level (entries bk bw) k.some_level _ (k.ready.bodies x k.name) z) (after_none k.ready)

  pub size_absent : get_or work (body_at x) 0 ≡ 0 → Outcome m (entries bk bw) work work (sizes named (Ty.named_struct x)) level (Err refusal.NoSize)
  size_absent z = outcome (arms.size_absent named m x level (entries bk bw) k.some_level _ (k.ready.bodies x k.name) z) (after_none k.ready)

  module _ (z : get_or work (body_at x) 0 ≡ 0 → ⊥) where
    body : BodyAt named m (entries bk bw) x (get_or work (body_at x) 0 - 1)
    body = (k.ready.bodies x k.name).present z

    pub body_kinds : get_or work (body_at x) 0 - 1 ≤ length bk
    body_kinds = within_kinds _ bk bw body.there

    pub body_words : get_or work (body_at x) 0 - 1 ≤ length bw
    body_words = within_words _ bk bw body.there

    pub body_ask : Ask m (lent bk bw (get_or work (body_at x) 0 - 1)) (entries bk bw) work (level - 1)
    body_ask = ask_part bk bw _ body.front k.ready (omega (arith, k.levels))

    module _ {work' : List ℕ} {r : Measured} (s : Measured) (es : s ≡ one_more r) where
      align_says : Outcome m (entries bk bw) work work' (aligns named (ty_of m (lent bk bw (get_or work (body_at x) 0 - 1)))) (level - 1) r → Measures (aligns named (Ty.named_struct x)) level s
      align_says o = arms.align_body named m x level (entries bk bw) k.some_level _ body r s es (part_type (aligns named) m bk bw _ (level - 1) r o.says)

      size_says : Outcome m (entries bk bw) work work' (sizes named (ty_of m (lent bk bw (get_or work (body_at x) 0 - 1)))) (level - 1) r → Measures (sizes named (Ty.named_struct x)) level s
      size_says o = arms.size_body named m x level (entries bk bw) k.some_level _ body r s es (part_type (sizes named) m bk bw _ (level - 1) r o.says)

      -- a refusal leaves the word
      pub align_kept : Outcome m (entries bk bw) work work' (aligns named (ty_of m (lent bk bw (get_or work (body_at x) 0 - 1)))) (level - 1) r
          → Outcome m (entries bk bw) work work' (aligns named (Ty.named_struct x)) level s
      align_kept o = outcome (align_says o) o.after

      pub size_kept : Outcome m (entries bk bw) work work' (sizes named (ty_of m (lent bk bw (get_or work (body_at x) 0 - 1)))) (level - 1) r
          → Outcome m (entries bk bw) work work' (sizes named (Ty.named_struct x)) level s
      size_kept o = outcome (size_says o) o.after

      -- whatever was measured is stored
      pub align_body_small : Outcome m (entries bk bw) work work' (aligns named (ty_of m (lent bk bw (get_or work (body_at x) 0 - 1)))) (level - 1) r → SmallBytes s × Few s
      align_body_small o = (align_bytes named (Ty.named_struct x) level s k.levels (align_says o), measures_few _ level s k.levels (align_says o))

      pub size_body_small : Outcome m (entries bk bw) work work' (sizes named (ty_of m (lent bk bw (get_or work (body_at x) 0 - 1)))) (level - 1) r → SmallBytes s × Few s
      size_body_small o = (size_bytes named (Ty.named_struct x) level s k.levels (size_says o), measures_few _ level s k.levels (size_says o))

      pub align_stored : Outcome m (entries bk bw) work work' (aligns named (ty_of m (lent bk bw (get_or work (body_at x) 0 - 1)))) (level - 1) r → (v : ℕ) → v ≡ with_align (get_or work' (measured_at x) 0) s
          → Outcome m (entries bk bw) work (set work' (measured_at x) v) (aligns named (Ty.named_struct x)) level s
      align_stored o v ev =
          outcome (align_says o)
          (after_then o.after (after_set x v o.after.ready k.name (rw ev (align_remembered named x _ level s k.levels (align_says o) (o.after.ready.known x k.name)))))

      pub size_stored : Outcome m (entries bk bw) work work' (sizes named (ty_of m (lent bk bw (get_or work (body_at x) 0 - 1)))) (level - 1) r → (v : ℕ) → v ≡ with_size (get_or work' (measured_at x) 0) s
          → Outcome m (entries bk bw) work (set work' (measured_at x) v) (sizes named (Ty.named_struct x)) level s
      size_stored o v ev =
          outcome (size_says o)
          (after_then o.after (after_set x v o.after.ready k.name (rw ev (size_remembered named x _ level s k.levels (size_says o) (o.after.ready.known x k.name)))))

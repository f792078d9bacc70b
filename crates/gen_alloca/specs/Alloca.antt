-- `alloca`: where the count and the stated align stand, and `gen_dynamic_alloca` and the fixed place from their parts.
use Rattle.std.specs.Prelude.{ℕ, ◌+◌, ◌-◌, ◌<◌, ◌≤◌, ◌^◌, max, ◌≡◌, not, List, ◌∷◌, length, drop, get_or, eqb}
use Rattle.std.proofs.Math.Path.{refl, ap}
use Rattle.std.proofs.Common.{sym, ◌∙◌, arith}
use Rattle.std.proofs.Math.Option.{Option, none, some}
use borrow.Author.Tests.{eq-eqb, ne_eqb}
use Rattle.book.specs.Ast.{Ty, TypedVal, BinOp}
use Rattle.book.specs.Entry.{Entry, entries}
use Rattle.book.specs.Kinds.{InstTag}
use Rattle.book.specs.Fields.{Item, Field, Meanings, inst_fields}
use Rattle.book.specs.Work.{name_words, place_at}
use Rattle.book.specs.Map.{lookup}
use Rattle.book.specs.Result.{ok_or, bind}
use Rattle.book_types.specs.Laws.{entries_part}
use Rattle.layout.specs.Layout.{size_of}
use Rattle.layout_memo.specs.Front.{ty_len}
use Rattle.layout_memo.specs.Work.{After, after_none}
use Rattle.layout_memo.specs.Calls.{lent}
use Rattle.assembly.specs.Line.{Line, Work}
use Rattle.assembly.specs.Number.{kind_of, operand_of, operation, bin_number}
use Rattle.lowering.specs.Gen.{Gen, line, refuse, ◌>>=◌, ◌>>◌, when}
use Rattle.lowering.specs.Context.{FnCtx}
use Rattle.lowering.specs.Operand.{push_int, push_value, store_dest, add64, mul64}
use Rattle.lowering.specs.Memory.{align_or, push_count, gen_dynamic_alloca, fixed_place, place_of, gen_alloca}
use Rattle.gen_lines.specs.declared.Reached.{Reached}
use Rattle.gen_lines.specs.Puts.{Puts, Lined, made_refused, skip_puts, refuse_puts, same_puts, then_puts}
use Rattle.gen_lines.specs.Follow.{Asked, asked_ok, asked_puts}
use Rattle.gen_values.specs.Values.{dest_of, DestReaches}
use Rattle.gen_values.specs.Maps.{Maps}
use Rattle.gen_values.specs.Push.{some_of, none_of, bare_puts, get_local_puts}
use Rattle.gen_values.specs.Fields.{Fields, ValueAt, OperandAt, part_from, part_front, part_there, operand_at, value_part, type_in, behind_value}
use Rattle.gen_fields.specs.Places.{behind, typed_value}
use Rattle.gen_fields.specs.Items.{AlignAt, AlignSays, absent_kind, behind_absent, present, type_kind, value_kind}
use Rattle.gen_size.specs.declared.Bytes.{Bytes}
use Rattle.gen_size.specs.Sizes.{Measurable, AlignAsked}
use Rattle.gen_size.specs.Lent.{Lent, align_asked}

-- ---- what is lent beside the fields: a name, or a result word
pub record NameLent (m : ℕ) (es bs : List Entry) (name : ℕ) (work : List ℕ) : Type 0 where
  pub all : Lent m (inst_fields InstTag.alloca) es bs work
  pub below : name < m

pub record ResultLent (m : ℕ) (es bs : List Entry) (dest : ℕ) (work : List ℕ) : Type 0 where
  pub all : Lent m (inst_fields InstTag.alloca) es bs work
  pub result : dest ≤ m

pub dest_reaches : {m : ℕ} {es bs : List Entry} {dest : ℕ} {work : List ℕ} → ResultLent m es bs dest work → {work' : List ℕ} → length work' ≡ length work → DestReaches dest work'
dest_reaches l e = record { there = λ z. omega (arith, l.result, l.all.ready.room) }

-- ---- the count
abbrev pub CountSays : (m : ℕ) (ks ws : List ℕ) (a : ℕ) → Option TypedVal → Type 0
CountSays m ks ws a none = get_or ks a 0 ≡ 21
CountSays m ks ws a (some tv) = (30 ≤ get_or ks a 0) × ValueAt m ks ws a tv.val

-- its value, or that there is none, is at the place a
pub record CountAt (m : ℕ) (ks ws : List ℕ) (a : ℕ) (o : Option TypedVal) : Type 0 where
  pub says : CountSays m ks ws a o
  pub in_kinds : a < length ks
  pub in_words : a < length ws

pub record CountThere (ks ws : List ℕ) (a : ℕ) (work : List ℕ) : Type 0 where
  pub in_kinds : a < length ks
  pub operand : (get_or ks a 0 ≡ 21 → ⊥) → OperandAt ks ws a work

-- and the next field behind it
pub record CountPlaced (m : ℕ) (fs : List Field) (ks ws : List ℕ) (a : ℕ) (p : Meanings (Field.optional Item.typed ∷ fs)) : Type 0 where
  pub at : CountAt m ks ws a p.0
  pub behind : Fields m fs p.1 (drop (a + 1) (entries ks ws))

-- the field starts at a
pub record CountFront (m : ℕ) (ks ws : List ℕ) (a : ℕ) : Type 0 where
  pub fs : List Field
  pub holds : Meanings (Field.optional Item.typed ∷ fs)
  pub fields : Fields m (Field.optional Item.typed ∷ fs) holds (drop a (entries ks ws))
  pub in_kinds : a < length ks
  pub in_words : a < length ws

pub count_there : {m : ℕ} (ks ws : List ℕ) (a : ℕ) {o : Option TypedVal} {work : List ℕ} → CountAt m ks ws a o → name_words m ≤ length work → CountThere ks ws a work
count_there {m} ks ws a {o} {work} q room = record { in_kinds = q.in_kinds; operand = at o q.says }
  where
    at : (o : Option TypedVal) → CountSays m ks ws a o → (get_or ks a 0 ≡ 21 → ⊥) → OperandAt ks ws a work
    at none e z = absurd (z e)
    at (some tv) e z = operand_at e.1 room

-- a count at a place is the one at the front of the part
pub count_part : {m : ℕ} {ks ws : List ℕ} {a : ℕ} {o : Option TypedVal} → CountAt m ks ws a o → CountAt m (part_from ks a) (part_from ws a) 0 o
count_part {m} {ks} {ws} {a} {o} q = record { says = at o q.says; in_kinds = part_there ks a q.in_kinds; in_words = part_there ws a q.in_words }
  where
    at : (o : Option TypedVal) → CountSays m ks ws a o → CountSays m (part_from ks a) (part_from ws a) 0 o
    at none e = part_front ks a ∙ e
    at (some tv) e = (rw (part_front ks a) e.0, value_part e.1)

module _ (m : ℕ) (fs : List Field) (ks ws : List ℕ) (a : ℕ) where
  count_in_lem : (p : Meanings (Field.optional Item.typed ∷ fs)) → Fields m (Field.optional Item.typed ∷ fs) p (drop a (entries ks ws)) → (a < length ks) × (a < length ws)
  count_in_lem p f = at p.0 f
    where
      at : (o : Option TypedVal) → Fields m (Field.optional Item.typed ∷ fs) (o, p.1) (drop a (entries ks ws)) → (a < length ks) × (a < length ws)
      at none f = let e = absent_kind ks ws a f in (e.1, e.2)
      at (some tv) f = type_in ks ws a (present f)

  pub count_front : {p : Meanings (Field.optional Item.typed ∷ fs)} → Fields m (Field.optional Item.typed ∷ fs) p (drop a (entries ks ws)) → CountFront m ks ws a
  count_front {p} f = let i = count_in_lem p f in record { fs = fs; holds = p; fields = f; in_kinds = i.0; in_words = i.1 }

  pub count_absent : get_or ks a 0 ≡ 21 → (p : Meanings (Field.optional Item.typed ∷ fs)) → Fields m (Field.optional Item.typed ∷ fs) p (drop a (entries ks ws)) → CountPlaced m fs ks ws a p
  count_absent z p f = at p.0 f
    where
      at : (o : Option TypedVal) → Fields m (Field.optional Item.typed ∷ fs) (o, p.1) (drop a (entries ks ws)) → CountPlaced m fs ks ws a (o, p.1)
      at none f = let e = absent_kind ks ws a f in record { at = record { says = z; in_kinds = e.1; in_words = e.2 }; behind = behind_absent ks ws a f }
      at (some tv) f = absurd (omega (arith, (type_kind ks ws a (present f)).1))

  pub count_present : (get_or ks a 0 ≡ 21 → ⊥) → {n : ℕ} → n ≡ ty_len m (lent ks ws a) → (p : Meanings (Field.optional Item.typed ∷ fs))
      → Fields m (Field.optional Item.typed ∷ fs) p (drop a (entries ks ws))
      → CountPlaced m fs ks ws (a + n) p
  count_present z {n} e p f = at p.0 f
    where
      at : (o : Option TypedVal) → Fields m (Field.optional Item.typed ∷ fs) (o, p.1) (drop a (entries ks ws)) → CountPlaced m fs ks ws (a + n) (o, p.1)
      at none f = absurd (z (absent_kind ks ws a f).0)
      at (some tv) f =
          let i : a + n ≡ a + ty_len m (drop a (entries ks ws)) = ap (λ k. a + k) (e ∙ ap (ty_len m) (entries_part a ks ws)) in
          let b = behind ks ws a (present f) i in
          let v = typed_value ks ws a (present f) i in
          record { at = record { says = (value_kind ks ws (a + n) b, v); in_kinds = v.in_kinds; in_words = v.in_words }; behind = behind_value ks ws (a + n) b }

module _ (c : FnCtx) (m : ℕ) (ks ws : List ℕ) (a : ℕ) {o : Option TypedVal} (q : CountAt m ks ws a o) {s t : Reached} {qs os qs' os' : List ℕ} where
  pub one_puts : get_or ks a 0 ≡ 21 → Puts (push_int 1 64) s t qs os qs' os' → Puts (push_count c o) s t qs os qs' os'
  unfolding push_count
  one_puts z p = at o q.says
    where
      at : (o : Option TypedVal) → CountSays m ks ws a o → Puts (push_count c o) s t qs os qs' os'
      at none e = p
      at (some tv) e = absurd (omega (arith, e.0))

  pub count_puts : (get_or ks a 0 ≡ 21 → ⊥) → ((tv : TypedVal) → ValueAt m ks ws a tv.val → Puts (push_value c tv.val 64) s t qs os qs' os')
      → Puts (push_count c o) s t qs os qs' os'
  unfolding push_count
  count_puts z p = at o q.says
    where
      at : (o : Option TypedVal) → CountSays m ks ws a o → Puts (push_count c o) s t qs os qs' os'
      at none e = absurd (z e)
      at (some tv) e = p tv e.1

-- ---- the align
pub record AlignLent (m : ℕ) (ks ws : List ℕ) (a : ℕ) (bs : List Entry) (work : List ℕ) : Type 0 where
  pub measured : Measurable m (entries ks ws) bs work
  pub in_kinds : a < length ks
  pub in_words : a < length ws
  pub stated : get_or ks a 0 ≡ 22 → get_or ws a 0 ≤ 4096

pub record AlignGiven (m : ℕ) (ks ws : List ℕ) (a : ℕ) (bs : List Entry) (work work' : List ℕ) (s : Reached) (r : Bytes) : Type 0 where
  pub asked : (fs : List Field) (p : Meanings (Field.plain Item.type ∷ fs)) (c : FnCtx) (o : Option ℕ) → Fields m (Field.plain Item.type ∷ fs) p (entries ks ws) → Maps m bs c work
      → AlignAt ks ws a o → Asked (align_or c o p.0) s r.s r.bytes
  pub small : r.bytes ≤ 4096
  pub after : After m bs work work'

pub align_lent : {m : ℕ} (ks ws : List ℕ) (a : ℕ) {bs : List Entry} {o : Option ℕ} {work : List ℕ} → AlignAt ks ws a o → Measurable m (entries ks ws) bs work → AlignLent m ks ws a bs work
align_lent ks ws a {bs} {o} q k = record { measured = k; in_kinds = q.in_kinds; in_words = q.in_words; stated = at o q.says }
  where
    at : (o : Option ℕ) → AlignSays (get_or ks a 0) (get_or ws a 0) o → get_or ks a 0 ≡ 22 → get_or ws a 0 ≤ 4096
    at none e z = absurd (omega arith)
    at (some n) e z = omega (arith, e.1, e.2)

module _ (m : ℕ) (ks ws : List ℕ) (a : ℕ) (bs : List Entry) (work : List ℕ) (l : AlignLent m ks ws a bs work) (s : Reached) where
  pub align_stated : get_or ks a 0 ≡ 22 → AlignGiven m ks ws a bs work work s (record { bytes = get_or ws a 0; s = s })
  unfolding align_or
  align_stated z = record { asked = λ fs p c o f k q. at c p.0 o q.says; small = l.stated z; after = after_none l.measured.ready }
    where
      at : (c : FnCtx) (t : Ty) (o : Option ℕ) → AlignSays (get_or ks a 0) (get_or ws a 0) o → Asked (align_or c o t) s s (get_or ws a 0)
      at c t none e = absurd (omega arith)
      at c t (some n) e = rw (sym e.1) (asked_ok s (get_or ws a 0))

  pub align_measured : {work' : List ℕ} {r : Bytes} → (get_or ks a 0 ≡ 22 → ⊥) → AlignAsked m (entries ks ws) bs work work' s r → AlignGiven m ks ws a bs work work' s r
  unfolding align_or
  align_measured {work'} {r} z d =
      record { asked = λ fs p c o f k q. at c o p.0 (align_asked ks ws f k d) q.says; small = omega (arith, d.small); after = d.after }
    where
      at : (c : FnCtx) (o : Option ℕ) (t : Ty) → Asked (align_or c none t) s r.s r.bytes → AlignSays (get_or ks a 0) (get_or ws a 0) o → Asked (align_or c o t) s r.s r.bytes
      at c none t i e = i
      at c (some n) t i e = absurd (z e.0)

-- ---- `gen_dynamic_alloca`
-- the stack pointer raised to a multiple of a, twice, and what follows
unfoldable pub raise : ℕ → Gen → Gen
raise a g = do
  line Line.thread_get
  push_int (a - 1) 64
  add64
  push_int (2 ^ 64 - a) 64
  line (Line.bin BinOp.and Work.w64)
  line Line.dup
  g

unfoldable pub times_size : ℕ → Gen
times_size n = when (not (eqb n 1)) (do
  push_int n 64
  mul64)

unfoldable pub move_by : ℕ → Gen
move_by n = do
  times_size n
  add64
  line Line.thread_set

module _ {s t : Reached} {ks os ks' os' : List ℕ} where
  pub add_puts : Lined 44 0 s t ks os ks' os' → Puts add64 s t ks os ks' os'
  unfolding add64 kind_of operand_of operation bin_number
  add_puts h = bare_puts (Line.bin BinOp.add Work.w64) refl refl h

  pub mul_puts : Lined 46 0 s t ks os ks' os' → Puts mul64 s t ks os ks' os'
  unfolding mul64 kind_of operand_of operation bin_number
  mul_puts h = bare_puts (Line.bin BinOp.mul Work.w64) refl refl h

module _ (a : ℕ) (g : Gen) {x : ℕ} {s t₁ t₂ t₃ t₄ t₅ t₆ t : Reached} {ks os ks₁ os₁ ks₂ os₂ ks₃ os₃ ks₄ os₄ ks₅ os₅ ks₆ os₆ ks' os' : List ℕ} where
  pub raise_puts : x ≡ 2 ^ 64 - a → Lined 91 0 s t₁ ks os ks₁ os₁ → Puts (push_int (a - 1) 64) t₁ t₂ ks₁ os₁ ks₂ os₂ → Lined 44 0 t₂ t₃ ks₂ os₂ ks₃ os₃
      → Puts (push_int x 64) t₃ t₄ ks₃ os₃ ks₄ os₄ → Lined 51 0 t₄ t₅ ks₄ os₄ ks₅ os₅ → Lined 87 0 t₅ t₆ ks₅ os₅ ks₆ os₆ → Puts g t₆ t ks₆ os₆ ks' os'
      → Puts (raise a g) s t ks os ks' os'
  unfolding raise kind_of operand_of operation bin_number
  raise_puts e b d f h i j p =
      then_puts (bare_puts Line.thread_get refl refl b)
      (then_puts d
      (then_puts (add_puts f)
      (then_puts (same_puts (λ n. ap (λ y. push_int y 64 n) e) h) (then_puts (bare_puts (Line.bin BinOp.and Work.w64) refl refl i) (then_puts (bare_puts Line.dup refl refl j) p)))))

module _ (n : ℕ) where
  pub times_none : (s : Reached) (ks os : List ℕ) → n ≡ 1 → Puts (times_size n) s s ks os ks os
  unfolding times_size when
  times_none s ks os e = rw (eq-eqb n 1 e) (skip_puts s ks os)

  pub times_puts : {s t u : Reached} {ks os ks₁ os₁ ks₂ os₂ : List ℕ} → (n ≡ 1 → ⊥) → Puts (push_int n 64) s t ks os ks₁ os₁ → Lined 46 0 t u ks₁ os₁ ks₂ os₂
      → Puts (times_size n) s u ks os ks₂ os₂
  unfolding times_size when
  times_puts z p h = rw (ne_eqb n 1 z) (then_puts p (mul_puts h))

  pub move_puts : {s t u v : Reached} {ks os ks₁ os₁ ks₂ os₂ ks₃ os₃ : List ℕ} → Puts (times_size n) s t ks os ks₁ os₁ → Lined 44 0 t u ks₁ os₁ ks₂ os₂ → Lined 92 0 u v ks₂ os₂ ks₃ os₃
      → Puts (move_by n) s v ks os ks₃ os₃
  unfolding move_by kind_of operand_of
  move_puts p h i = then_puts p (then_puts (add_puts h) (bare_puts Line.thread_set refl refl i))

module _ (c : FnCtx) (ty : Ty) (count : Option TypedVal) (align : Option ℕ) {n a b : ℕ} {s t u v : Reached} {ks os ks' os' : List ℕ} where
  pub dynamic_puts : Asked (size_of c.codegen.structs ty) s t n → Asked (align_or c align ty) t u a → b ≡ max a 8 → Puts (raise b (push_count c count >> move_by n)) u v ks os ks' os'
      → Puts (gen_dynamic_alloca c ty count align) s v ks os ks' os'
  unfolding gen_dynamic_alloca raise move_by times_size
  dynamic_puts x y e p =
      asked_puts (λ k. align_or c align ty >>= (λ b. raise (max b 8) (push_count c count >> move_by k))) x
      (asked_puts (λ b. raise (max b 8) (push_count c count >> move_by n)) y (same_puts (λ i. ap (λ k. raise k (push_count c count >> move_by n) i) e) p))

-- ---- a fixed place
unfoldable pub plus_offset : ℕ → Gen
plus_offset off = when (not (eqb off 0)) (do
  push_int off 64
  add64)

module _ (off : ℕ) where
  pub no_offset : (s : Reached) (ks os : List ℕ) → off ≡ 0 → Puts (plus_offset off) s s ks os ks os
  unfolding plus_offset when
  no_offset s ks os e = rw (eq-eqb off 0 e) (skip_puts s ks os)

  pub offset_puts : {s t u : Reached} {ks os ks₁ os₁ ks₂ os₂ : List ℕ} → (off ≡ 0 → ⊥) → Puts (push_int off 64) s t ks os ks₁ os₁ → Lined 44 0 t u ks₁ os₁ ks₂ os₂
      → Puts (plus_offset off) s u ks os ks₂ os₂
  unfolding plus_offset when
  offset_puts z p h = rw (ne_eqb off 0 z) (then_puts p (add_puts h))

  pub fixed_puts : (c : FnCtx) {base : ℕ} {s t u : Reached} {ks os ks₁ os₁ ks₂ os₂ : List ℕ} → c.bp_slot ≡ base → base < 2 ^ 64 → Lined 10 base s t ks os ks₁ os₁
      → Puts (plus_offset off) t u ks₁ os₁ ks₂ os₂ → Puts (fixed_place c off) s u ks os ks₂ os₂
  unfolding fixed_place plus_offset
  fixed_puts c {base} e few h p = then_puts (same_puts (λ n. ap (λ y. line (Line.get_local y) n) (sym e)) (get_local_puts base few h)) p

-- ---- `alloca`
module _ {m : ℕ} {bs : List Entry} {c : FnCtx} {work : List ℕ} (k : Maps m bs c work) (x : ℕ) (below : x < m) {w : ℕ} (is : w ≡ get_or work (place_at x) 0)
    (ty : Ty) (count : Option TypedVal) (align : Option ℕ) {s t : Reached} {ks os ks' os' : List ℕ} where
  pub place_fixed : (w ≡ 0 → ⊥) → Puts (fixed_place c (w - 1)) s t ks os ks' os' → Puts (place_of c (lookup x c.alloca_offsets) ty count align) s t ks os ks' os'
  unfolding place_of
  place_fixed z p = rw (some_of (lookup x c.alloca_offsets) w (is ∙ k.places x below) z) p

  pub place_varying : w ≡ 0 → Puts (gen_dynamic_alloca c ty count align) s t ks os ks' os' → Puts (place_of c (lookup x c.alloca_offsets) ty count align) s t ks os ks' os'
  unfolding place_of
  place_varying z p = rw (none_of (lookup x c.alloca_offsets) w (is ∙ k.places x below) z) p

module _ (c : FnCtx) (dest : ℕ) (ty : Ty) (count : Option TypedVal) (align : Option ℕ) where
  pub nameless_puts : {s t : Reached} (ks os : List ℕ) → dest ≡ 0 → t ≡ made_refused s 5 → Puts (gen_alloca c (dest_of dest) ty count align) s t ks os ks os
  unfolding gen_alloca dest_of ok_or ◌>>=◌ bind refuse
  nameless_puts {s} ks os z h = same_puts (λ n. rw (eq-eqb dest 0 z)) (refuse_puts 5 (omega arith) s ks os h)

  pub alloca_puts : {s t u : Reached} {ks os ks₁ os₁ ks₂ os₂ : List ℕ} → (dest ≡ 0 → ⊥) → Puts (place_of c (lookup (dest - 1) c.alloca_offsets) ty count align) s t ks os ks₁ os₁
      → Puts (store_dest c (dest_of dest)) t u ks₁ os₁ ks₂ os₂ → Puts (gen_alloca c (dest_of dest) ty count align) s u ks os ks₂ os₂
  unfolding gen_alloca dest_of ok_or ◌>>=◌ bind
  alloca_puts z p q = let e = ne_eqb dest 0 z in same_puts (λ n. rw e) (then_puts p (rw e at q))

-- The loop over a struct's fields, over the lent slices: what each step asks and leaves.
use Rattle.std.specs.Prelude.{ℕ, ◌+◌, ◌≤◌, max, ◌≡◌, Bool, List, get_or, drop}
use Rattle.std.proofs.Common.{arith}
use Rattle.book.specs.Entry.{Entry, entries}
use Rattle.book.specs.Ast.{StructType}
use Rattle.std.specs.Prelude.{Err}
use Rattle.book.specs.declared.refusal.Refusal.{Refusal}
use Rattle.layout_memo.specs.Measured.{Measured, bytes_of, Gives, Measures}
use Rattle.layout_memo.specs.Front.{ty_of, tys_of, ty_len}
use Rattle.layout_memo.specs.Work.{structs_in, sizes, aligns, After, Outcome, outcome, Ask, AskFields, after_none, after_then}
use Rattle.layout_memo.specs.Arms.{field_sizes}
use Rattle.layout_memo.specs.Helpers.{gives_at, refused_at}
use Rattle.layout_memo.specs.Calls.{lent, ask_part, part_type}
use Rattle.layout_memo.specs.Fields.{at_field}
use Rattle.layout_memo.specs.FieldCalls.{skipped}
use Rattle.layout_size.specs.Sums.{SmallSum, SmallField, added, closed}
use Rattle.layout_memo.specs.Scalars.{Scalar, Passes, none, more, RunFrom, all_from, passed, scalar_kind, scalar_type, passed_stop}
use Rattle.layout_memo.specs.declared.scalars.Run.{Run}
use Rattle.layout_size.specs.Loop as loops
use Rattle.layout_size.specs.Loop.{SizeLoop}
use Rattle.layout_size.specs.declared.Sum.{Sum}

-- ---- size
abbrev pub sum_of : Run → Sum
sum_of r = record { offset = r.offset; align = r.align; levels = r.levels }

module _ (m : ℕ) (ks ws : List ℕ) (bs : List Entry) (work₀ : List ℕ) (level : ℕ) (packed : Bool) (lv : level ≤ 64) where
  abbrev structs₂ : List StructType
  structs₂ = structs_in m bs

  abbrev pub SizeInv : (work : List ℕ) (a : ℕ) (sum : Sum) → Type 0
  SizeInv work a sum = SizeLoop structs₂ m ks ws packed level lv a sum × After m bs work₀ work

  pub size_start : AskFields m (entries ks ws) bs work₀ level → SizeInv work₀ 0 (record { offset = 0; align = 1; levels = 0 })
  size_start k = (loops.size_start structs₂ m ks ws packed level lv k.front, after_none k.ready)

  module _ {work : List ℕ} {a : ℕ} {sum : Sum} (i : SizeInv work a sum) where
    pub sum_small : SmallSum sum.offset sum.align
    sum_small = loops.small_sum structs₂ m ks ws packed level lv i.0

    pub size_done : get_or ks a 0 ≡ 0 → (r : Measured) → r ≡ closed sum packed → Outcome m bs work₀ work (field_sizes structs₂ packed (tys_of m (entries ks ws))) level r
    size_done z r e = rw e (outcome (loops.size_done structs₂ m ks ws packed level lv i.0 z) i.1)

    module _ (z : get_or ks a 0 ≡ 0 → ⊥) where
      pub size_align_ask : Ask m (lent ks ws a) bs work level
      size_align_ask = ask_part ks ws a (at_field i.0.place z).field i.1.ready lv

      module _ {work' : List ℕ} {r : Measured} (o : Outcome m bs work work' (aligns structs₂ (ty_of m (lent ks ws a))) level r) where
        align_says : Measures (aligns structs₂ (ty_of m (drop a (entries ks ws)))) level r
        align_says = part_type (aligns structs₂) m ks ws a level r o.says

        pub size_align_refused : (x : Refusal) → r ≡ Err x → Outcome m bs work₀ work' (field_sizes structs₂ packed (tys_of m (entries ks ws))) level (Err x)
        size_align_refused x q =
            outcome (loops.size_align_refused structs₂ m ks ws packed level lv i.0 z (refused_at r _ level q align_says)) (after_then i.1 o.after)

        pub size_ask : Ask m (lent ks ws a) bs work' level
        size_ask = ask_part ks ws a (at_field i.0.place z).field o.after.ready lv

        module _ (b hb : ℕ) (q : r ≡ bytes_of b hb) {work'' : List ℕ} {s : Measured} (u : Outcome m bs work' work'' (sizes structs₂ (ty_of m (lent ks ws a))) level s) where
          size_says : Measures (sizes structs₂ (ty_of m (drop a (entries ks ws)))) level s
          size_says = part_type (sizes structs₂) m ks ws a level s u.says

          abbrev align_gives : Gives (aligns structs₂ (ty_of m (drop a (entries ks ws)))) level b hb
          align_gives = gives_at r q _ level align_says

          pub size_refused : (x : Refusal) → s ≡ Err x → Outcome m bs work₀ work'' (field_sizes structs₂ packed (tys_of m (entries ks ws))) level (Err x)
          size_refused x p =
              outcome (loops.size_refused structs₂ m ks ws packed level lv i.0 z align_gives (refused_at s _ level p size_says)) (after_then i.1 (after_then o.after u.after))

          module _ (c hc : ℕ) (p : s ≡ bytes_of c hc) where
            pub field_small : SmallField sum.offset b c
            field_small = loops.small_field structs₂ m ks ws packed level lv i.0 z align_gives (gives_at s p _ level size_says)

            pub size_next : (n : ℕ) → n ≡ ty_len m (lent ks ws a) → (sum' : Sum) → sum' ≡ added sum packed b hb c hc → SizeInv work'' (a + n) sum'
            size_next n en sum' es =
                rw (skipped m ks ws a i.0.place z n en, es) (loops.size_next structs₂ m ks ws packed level lv i.0 z align_gives (gives_at s p _ level size_says), after_then i.1 (after_then o.after u.after))

    -- integers and pointers are passed
    pub size_from_lem : (next : Run) → next ≡ all_from a sum.offset sum.align sum.levels → RunFrom m ks ws next
    size_from_lem next e = rw e (record { place = i.0.place; small = omega (arith, i.0.offset) })

  size_one : {work : List ℕ} (s : Run) (b : ℕ) → Scalar (get_or ks s.at 0) (get_or ws s.at 0) b → (b ≡ 0 → ⊥) → (level ≡ 0 → ⊥)
      → SizeInv work s.at (sum_of s) → SizeInv work (s.at + 1) (sum_of (passed packed s b))
  size_one s b c nz z i =
      let t = scalar_type i.0.place nz c in
      let l = loops.size_next structs₂ m ks ws packed level lv i.0 (scalar_kind i.0.place nz c) (t.aligned structs₂ level z) (t.sized structs₂ level z) in
      let e : max (max s.levels 1) 1 ≡ max s.levels 1 = omega arith in
      (rw (t.one, e) at l, i.1)

  pub size_passes : {work : List ℕ} {stop : ℕ} (r s : Run) → (level ≡ 0 → stop ≡ 0) → Passes ks ws packed stop r s → SizeInv work r.at (sum_of r) → SizeInv work s.at (sum_of s)
  size_passes r s z none i = i
  size_passes r s z (more {s = u} b p c nz l n) i = size_one u b c nz (passed_stop level z l) (size_passes r u z p i)

  pub size_again : {work : List ℕ} {stop a : ℕ} {sum : Sum} → SizeInv work a sum → (next run : Run) → next ≡ all_from a sum.offset sum.align sum.levels → (level ≡ 0 → stop ≡ 0)
      → Passes ks ws packed stop next run → SizeInv work run.at (sum_of run)
  size_again {a = a} {sum = sum} i next run e z p = size_passes (all_from a sum.offset sum.align sum.levels) run z (rw e at p) i

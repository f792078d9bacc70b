-- The loop over a struct's fields, over the lent slices: what each step asks and leaves.
use Rattle.std.specs.Prelude.{ℕ, ◌+◌, ◌≤◌, max, ◌≡◌, Bool, true, false, List, get_or, drop}
use Rattle.std.proofs.Common.{arith}
use Rattle.book.specs.Entry.{Entry, entries}
use Rattle.book.specs.Ast.{StructType}
use Rattle.std.specs.Prelude.{Err}
use Rattle.book.specs.declared.refusal.Refusal.{Refusal}
use Rattle.layout_memo.specs.Measured.{Measured, bytes_of, Measures}
use Rattle.layout_memo.specs.Front.{ty_of, tys_of, ty_len}
use Rattle.layout_memo.specs.Work.{structs_in, aligns, After, Outcome, outcome, Ask, AskFields, after_none, after_then}
use Rattle.layout_memo.specs.Arms.{field_aligns}
use Rattle.layout_memo.specs.Helpers.{gives_at, refused_at}
use Rattle.layout_memo.specs.Calls.{lent, ask_part, part_type}
use Rattle.layout_memo.specs.Fields.{at_field}
use Rattle.layout_memo.specs.FieldCalls.{skipped}
use Rattle.layout_memo.specs.Scalars.{Scalar, Passes, none, more, RunFrom, all_from, scalar_kind, scalar_type, passed_stop}
use Rattle.layout_memo.specs.declared.scalars.Run.{Run}
use Rattle.layout_align.specs.Loop as loops
use Rattle.layout_align.specs.Loop.{AlignLoop}

-- ---- alignment
module _ (m : ℕ) (ks ws : List ℕ) (bs : List Entry) (work₀ : List ℕ) (level : ℕ) (packed : Bool) where
  abbrev structs : List StructType
  structs = structs_in m bs

  abbrev pub AlignInv : (work : List ℕ) (a al h : ℕ) → Type 0
  AlignInv work a al h = AlignLoop structs m ks ws level a al h × After m bs work₀ work

  pub align_packed : AskFields m (entries ks ws) bs work₀ level → packed ≡ true → Outcome m bs work₀ work₀ (field_aligns structs packed (tys_of m (entries ks ws))) level (bytes_of 1 0)
  align_packed k e = rw e (outcome (loops.packed_align structs m ks ws level) (after_none k.ready))

  pub align_start : AskFields m (entries ks ws) bs work₀ level → AlignInv work₀ 0 1 0
  align_start k = (loops.align_start structs m ks ws level k.front, after_none k.ready)

  module _ {work : List ℕ} {a al h : ℕ} (i : AlignInv work a al h) where
    pub align_done : packed ≡ false → get_or ks a 0 ≡ 0 → Outcome m bs work₀ work (field_aligns structs packed (tys_of m (entries ks ws))) level (bytes_of al h)
    align_done e z = rw e (outcome (loops.align_done structs m ks ws level i.0 z) i.1)

    module _ (z : get_or ks a 0 ≡ 0 → ⊥) where
      pub align_ask : level ≤ 64 → Ask m (lent ks ws a) bs work level
      align_ask l = ask_part ks ws a (at_field i.0.place z).field i.1.ready l

      module _ {work' : List ℕ} {r : Measured} (o : Outcome m bs work work' (aligns structs (ty_of m (lent ks ws a))) level r) where
        says : Measures (aligns structs (ty_of m (drop a (entries ks ws)))) level r
        says = part_type (aligns structs) m ks ws a level r o.says

        pub align_refused : packed ≡ false → (x : Refusal) → r ≡ Err x → Outcome m bs work₀ work' (field_aligns structs packed (tys_of m (entries ks ws))) level (Err x)
        align_refused e x q =
            rw e (outcome (loops.align_refused structs m ks ws level i.0 z (refused_at r _ level q says)) (after_then i.1 o.after))

        pub align_next : (b hb : ℕ) → r ≡ bytes_of b hb → (n : ℕ) → n ≡ ty_len m (lent ks ws a) → (al' h' : ℕ) → al' ≡ max al b → h' ≡ max h hb → AlignInv work' (a + n) al' h'
        align_next b hb q n en al' h' ea eh =
            rw (skipped m ks ws a i.0.place z n en, ea, eh) (loops.align_next structs m ks ws level i.0 z (gives_at r q _ level says), after_then i.1 o.after)

    -- integers and pointers are passed
    pub align_from : (next : Run) → next ≡ all_from a 0 al h → RunFrom m ks ws next
    align_from next e = rw e (record { place = i.0.place; small = omega arith })

  -- a field that is an integer or a pointer
  align_one : {work : List ℕ} (s : Run) (b : ℕ) → Scalar (get_or ks s.at 0) (get_or ws s.at 0) b → (b ≡ 0 → ⊥) → (level ≡ 0 → ⊥)
      → AlignInv work s.at s.align s.levels → AlignInv work (s.at + 1) (max s.align b) (max s.levels 1)
  align_one s b c nz z i =
      let t = scalar_type i.0.place nz c in
      let l = loops.align_next structs m ks ws level i.0 (scalar_kind i.0.place nz c) (t.aligned structs level z) in
      (rw t.one at l, i.1)

  pub align_passes : {work : List ℕ} {stop : ℕ} (r s : Run) → (level ≡ 0 → stop ≡ 0) → Passes ks ws true stop r s → AlignInv work r.at r.align r.levels
      → AlignInv work s.at s.align s.levels
  align_passes r s z none i = i
  align_passes r s z (more {s = u} b p c nz l n) i = align_one u b c nz (passed_stop level z l) (align_passes r u z p i)

  pub align_again : {work : List ℕ} {stop a al h : ℕ} → AlignInv work a al h → (next run : Run) → next ≡ all_from a 0 al h → (level ≡ 0 → stop ≡ 0) → Passes ks ws true stop next run
      → AlignInv work run.at run.align run.levels
  align_again {a = a} {al = al} {h = h} i next run e z p = align_passes (all_from a 0 al h) run z (rw e at p) i

-- The fields of a struct so far, and the end of a struct.
use Rattle.std.specs.Prelude.{ℕ, ◌+◌, ◌≤◌, ◌^◌, max, Bool, true, false, leb}
use Rattle.std.proofs.Common.{arith}
use Rattle.numbers.specs.Align.{align_most}
use Rattle.layout.specs.Layout.{placed}
use Rattle.layout_memo.specs.Work.{pick_measured}
use Rattle.std.specs.Prelude.{Err}
use Rattle.book.specs.declared.refusal.Refusal.TheVariants as refusal
use Rattle.layout_memo.specs.Measured.{Measured, bytes_of}
use Rattle.layout_size.specs.declared.Sum.{Sum}

-- offsets of a book's structs are far below 2^64
abbrev pub SmallSum : (offset align : ℕ) → Type 0
SmallSum offset align = (offset ≤ 2 ^ 46) × (align ≤ 8)

abbrev pub SmallField : (offset align size : ℕ) → Type 0
SmallField offset align size = (offset ≤ 2 ^ 46) × ((align ≤ 8) × (size ≤ 16777216))

abbrev pub added : Sum → Bool → (align alignLevels size sizeLevels : ℕ) → Sum
added sum packed a ha s hs = record { offset = placed packed sum.offset a + s; align = max sum.align a; levels = max (max sum.levels ha) hs }

abbrev pub closed : Sum → Bool → Measured
closed sum packed =
    pick_measured (leb (placed packed sum.offset sum.align) 16777216) (bytes_of (placed packed sum.offset sum.align) sum.levels) (Err refusal.TooLarge)

pub placed_most : (packed : Bool) (off a : ℕ) → a ≤ 8 → placed packed off a ≤ off + 8
unfolding placed
placed_most true off a h = omega arith
placed_most false off a h = omega (arith, align_most off a)

-- What the program's proofs cite.
use Rattle.std.specs.Prelude.{ℕ, ◌+◌, ◌≤◌, ◌^◌, ◌≡◌, refl, Bool, true, false, List, length, drop, get_or, replicate}
use Rattle.std.proofs.Common.{sym, ap, ◌∙◌, ⊎_elim, arith, length-drop}
use Rattle.std.proofs.Math.Option.{Option, none, some}
use Rattle.std.proofs.lemmas.List.{length-replicate, get_or-replicate}
use Rattle.std.proofs.Math.ListN.{get_or-eq_default}
use Rattle.numbers.specs.Tests.{lt_or_le}
use Rattle.book.specs.Entry.{Entry, entries}
use Rattle.book.specs.Ast.{Book}
use Rattle.book.specs.Decode.{type_to, decode}
use Rattle.book.proofs.AgreeTy.{agrees_type_to}
use Rattle.book_types.specs.Length.{len_of}
use Rattle.book_types.specs.Laws.{len_got, len_fits, entries_part, length_entries}
use Rattle.std.specs.Prelude as code
use Rattle.std.specs.Prelude.{Some}
use Rattle.layout_memo.specs.Front.{Starts}
use Rattle.layout_memo.specs.Work.{Ready, Ask}
use Rattle.layout_memo.specs.Calls.{lent}
use Rattle.layout_memo.specs.Structs.{IsBook}

-- words that are all 0
pub all_zero : (n i : ℕ) → ◌≡◌ {A = ℕ} (get_or (replicate n 0) i 0) 0
all_zero n i =
    ⊎_elim (λ l. get_or-replicate n i 0 0 l) (λ l. get_or-eq_default (replicate n 0) 0 (omega (arith, length-replicate {A = ℕ} n 0))) (lt_or_le i n)

-- what measuring one type leaves
pub record Measuring (m : ℕ) (es : List Entry) (work work' : List ℕ) (at r : ℕ) : Type 0 where
  pub ready : Ready m es work'
  pub long : length work' ≡ length work
  pub further : at ≤ r

-- a type that was read at a place can be measured
module _ (m : ℕ) (ks ws : List ℕ) (at : ℕ) (few : length (entries ks ws) ≤ 2 ^ 20) (r : code.Option ℕ) (e : r ≡ len_of (type_to m 64 (lent ks ws at))) (n : ℕ) (q : r ≡ Some n) where
  lent_few : length (lent ks ws at) ≤ 2 ^ 20
  lent_few = omega (arith, ap length (entries_part at ks ws), length-drop at (entries ks ws))

  starts : Starts m (lent ks ws at)
  starts =
      let g = len_got (type_to m 64 (lent ks ws at)) n (sym e ∙ q) in
      let b = (agrees_type_to m 64).sound (lent ks ws at) g.0 n g.1 in
      record { ty = g.0; rest = drop n (lent ks ws at); here = b.here; keeps = b.keeps; few = lent_few }

  pub ask : {work : List ℕ} → Ready m (entries ks ws) work → Ask m (lent ks ws at) (entries ks ws) work 64
  ask k = record { front = starts; ready = k; levels = omega arith }

  pub read_few : n ≤ 1048576
  read_few = omega (arith, len_fits (agrees_type_to m 64) (lent ks ws at) n (sym e ∙ q), lent_few)

-- entries that decode are a book
abbrev pub found : Option Book → Bool
found none = false
found (some b) = true

pub is_book_lem : (m : ℕ) (es : List Entry) → found (decode m es) ≡ true → length es ≤ 2 ^ 20 → IsBook m es
is_book_lem m es h l = go (decode m es) refl h
  where
    go : (o : Option Book) → decode m es ≡ o → found o ≡ true → IsBook m es
    go (some b) e t = record { book = b; says = e; few = l }
    go none e t = absurd (let z : ◌≡◌ {A = ℕ} 0 1 = cc in omega arith)

pub at_few : (ks ws : List ℕ) (at : ℕ) → length (entries ks ws) ≤ 2 ^ 20 → at ≤ length ks → at ≤ length ws → at ≤ 1048576
at_few ks ws at l a b = omega (arith, length_entries ks ws)

pub further_by : (a n : ℕ) → a ≤ a + n
further_by a n = omega arith

-- How many work words there are changes nothing where they are as many as the names want; and the program's own are, for every input.
use Prim.Native.Nat.{ℕ, min, ◌*◌, ◌≤◌}
use mathlib.Core.Path.{◌≡◌, refl, ap, ◌∙◌}
use mathlib.Core.Bool.{Bool, true, false}
use mathlib.Core.Option.{none}
use mathlib.Core.List.{List}
use native.Mathlib.Omega.{arith}
use borrow.Author.Tests.{le-leb}
use lib.ListN.{length, drop, length-drop, length-replicate}
use Rattle.names.specs.Name.{names_of, counts, accepted, lines}
use Rattle.names.specs.Lines.{accepted_long, lines_counted}
use Rattle.book.specs.Rule.{pick}
use Rattle.book.specs.Result.{Result, ok, err, ok_or, bind_same, err_no_ok}
use Rattle.book.specs.Input.{book_in, names_in}
use Rattle.book.specs.Check.{work_for, checked}
use Rattle.assembly.specs.Printer.{Printing}
use Rattle.lowering.specs.Gen.{Out}
use Rattle.lowering.specs.Translate.{generated, replied, translate}
use Rattle.lines.specs.Shown.{zeros, words, printed, translated, size, enough}

-- ---- the check

names_there : (m : ℕ) (names : List ℕ) (ns : List (List ℕ)) → ok_or 2 (names_in m names) ≡ ok ns → accepted names m ≡ true
unfolding ok_or names_in accepted
names_there m names ns h = go (counts m (names_of names)) h
  where
    go : (t : Bool) → ok_or 2 (pick t (names_of names) none) ≡ ok ns → t ≡ true
    go true k = refl
    go false k = err_no_ok 2 ns k

module _ (book names : List ℕ) (counter v w : ℕ) (h : (m : ℕ) → accepted names m ≡ true → (work_for m ≤ v) × (work_for m ≤ w)) where
  checked_same : checked book names counter v ≡ checked book names counter w
  unfolding checked
  checked_same =
      bind_same (ok_or 1 (book_in book)) _ _
      (λ b _. bind_same _ _ _
      (λ _ _. bind_same (ok_or 2 (names_in b.count names)) _ _
      (λ ns e. bind_same _ _ _ (λ _ _. let k = h b.count (names_there b.count names ns e) in rw (le-leb _ v k.0, le-leb _ w k.1)))))

  generated_same : (room : ℕ) → generated book names counter v room ≡ generated book names counter w room
  unfolding generated
  generated_same room = rw checked_same

-- ---- what is shown

module _ (book names kinds operands text : List ℕ) where
  abbrev told : Result Out → List ℕ → Printing
  told r work = let t = replied r work kinds operands in printed book names text t t.reply

  -- the work words are not looked at behind a translation
  work_unread : (r : Result Out) (v w : List ℕ) → told r v ≡ told r w
  unfolding replied printed
  work_unread (ok out) v w = refl
  work_unread (err e) v w = refl

  translated_same : (v w : List ℕ) → ((m : ℕ) → accepted names m ≡ true → (work_for m ≤ length v) × (work_for m ≤ length w))
      → translated book names v kinds operands text ≡ translated book names w kinds operands text
  unfolding translated translate
  translated_same v w h =
      let room = min (length kinds) (length operands) in
      ap (λ r. told r v) (generated_same book names 0 (length v) (length w) h room) ∙ work_unread (generated book names 0 (length w) room) v w

-- ---- the program's own work words

pub roomy : (input work kinds operands text : List ℕ) → length input ≤ 65536 → 262144 ≤ length work
    → translated (words (size input) input) (drop (8 * size input) input) work kinds operands text
    ≡ translated (words (size input) input) (drop (8 * size input) input) (enough (drop (8 * size input) input)) kinds operands text
unfolding size enough zeros
roomy input work kinds operands text l w =
    let names = drop (8 * size input) input in
    translated_same (words (size input) input) names kinds operands text work (enough names)
    (λ m h. (
      omega (arith, accepted_long names m h, length-drop (8 * size input) input),
      omega (arith, lines_counted names m h, length-replicate {A = ℕ} (work_for (length (lines names))) 0),
    ))

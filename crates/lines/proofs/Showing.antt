-- From what the code's calls answer to what is shown.
use Prim.Native.Nat.{ℕ, min, ◌+◌, ◌*◌, ◌-◌, ◌≤◌, ◌<◌}
use mathlib.Core.Path.{◌≡◌, sym, ap, subst, ◌∙◌}
use mathlib.Core.List.{List}
use native.Mathlib.Omega.{arith}
use borrow.Author.Tests.{le-leb, lt-leb}
use lib.ListN.{length, take, drop, length-replicate}
use Rattle.assembly.specs.Printer as definition
use Rattle.assembly.specs.Printer.{Printing, refusing, print}
use Rattle.lowering.specs.Translate.{Translating, translate}
use Rattle.lowering.proofs.Printable.{translate_accepted}
use Rattle.print.specs.Reply.{Replied, Prints}
use Rattle.translate.specs.Reply.{Answer, accepted_reply, refused_reply}
use Rattle.std.specs.Prelude.{Result, Ok, Err}
use Rattle.book.specs.Refusal.{number_of}
use Rattle.book.specs.declared.refusal.Refusal.{Refusal}
use Rattle.gen_passes.specs.Reply.{Reply, Numbered}
use Rattle.gen_passes.specs.declared.Translation.{Translation}
use Rattle.lines.proofs.Words.{rest_is}
use Rattle.lines.proofs.Room.{roomy}
use Rattle.lines.proofs.Text.{print_inside}
use Rattle.lines.specs.Shown.{line_room, text_room, zeros, word, words, printed, translated, size, whole, answered, refusal, said_of, said, shown, Begins}

-- ---- a book: what the translator and the printer promise is used here alone
module _ (d : definition.Printed) where
  replied_accepted : (m : ℕ) → Replied d (Ok m) → d ≡ definition.Printed.accepted m
  replied_accepted m = go d
    where
      go : (d : definition.Printed) → Replied d (Ok m) → d ≡ definition.Printed.accepted m
      go (definition.Printed.accepted n) e = ap definition.Printed.accepted (sym e)
      go (definition.Printed.refused x) e = absurd e

  replied_refused : (x : Refusal) → Replied d (Err x) → d ≡ definition.Printed.refused (number_of x)
  replied_refused x = go d
    where
      go : (d : definition.Printed) → Replied d (Err x) → d ≡ definition.Printed.refused (number_of x)
      go (definition.Printed.accepted n) e = absurd e
      go (definition.Printed.refused y) e = ap definition.Printed.refused (sym e)

module _ (book names work kinds operands : List ℕ) (r : Reply) (w k o : List ℕ) (a : Answer 0 (translate book names 0 work kinds operands) r w k o) where
  pub lines_fit : (m : Translation) → r ≡ Ok m → m.lines ≤ min (length kinds) (length operands)
  lines_fit m h =
      (translate_accepted book names 0 work kinds operands m.lines m.counter (accepted_reply book names 0 work kinds operands r w k o a m h)).1

  module _ (text : List ℕ) where
    abbrev t : Translating
    t = translate book names 0 work kinds operands

    module _ (made : Translation) (h : r ≡ Ok made) (p : Result ℕ Refusal) (y : List ℕ) (g : Prints (print book names (take made.lines k) (take made.lines o) text) p y) where
      abbrev q : Printing
      q = print book names (take made.lines k) (take made.lines o) text

      lines_shown : q ≡ translated book names work kinds operands text
      unfolding translated printed
      lines_shown =
          let e : q ≡ print book names (take made.lines t.kinds) (take made.lines t.operands) text = rw (a.kinds, a.operands) in
          e ∙ ap (λ d. printed book names text t d) (sym (accepted_reply book names 0 work kinds operands r w k o a made h))

      pub text_shown : (m : ℕ) → p ≡ Ok m → Begins (said (translated book names work kinds operands text)) y m
      unfolding said said_of
      text_shown m i =
          let e = replied_accepted q.reply m (subst (Replied q.reply) i g.reply) in
          let is : said q ≡ take m y = ap (said_of q.text) e ∙ ap (take m) (sym g.text) in
          record {
            fits = rw g.text (print_inside book names (take made.lines k) (take made.lines o) text m e);
            front = sym is ∙ ap said lines_shown;
          }

      -- what the printer refuses
      pub unprinted : (x : Refusal) → p ≡ Err x → (z : List ℕ) (m : ℕ) → Begins (refusal (number_of x)) z m → Begins (said (translated book names work kinds operands text)) z m
      unfolding said said_of
      unprinted x i z m b =
          let is : said q ≡ refusal (number_of x) = ap (said_of q.text) (replied_refused q.reply x (subst (Replied q.reply) i g.reply)) in
          record { fits = b.fits; front = b.front ∙ sym is ∙ ap said lines_shown }

    -- what the translator refuses
    pub untranslated : Numbered r → (x : Refusal) → r ≡ Err x → (z : List ℕ) (m : ℕ) → Begins (refusal (number_of x)) z m → Begins (said (translated book names work kinds operands text)) z m
    unfolding translated said said_of printed refusing
    untranslated s x h z m b = record {
      fits = b.fits;
      front = b.front ∙ sym (ap (λ d. said (printed book names text t d)) (refused_reply book names 0 work kinds operands r w k o a s x h));
    }

-- ---- the input
module _ (input kinds operands text : List ℕ) (z : List ℕ) (m : ℕ) where
  pub longer_shown : 65536 < length input → Begins (refusal 1) z m → Begins (said (answered input kinds operands text)) z m
  unfolding answered whole refusing said said_of
  longer_shown h b = rw (lt-leb (length input) 65536 h) b

  pub cut_shown : length input ≤ 65536 → length input < 8 * (2 + 2 * word input) → Begins (refusal 1) z m → Begins (said (answered input kinds operands text)) z m
  unfolding answered whole size refusing said said_of
  cut_shown l h b = rw (le-leb (length input) 65536 l, lt-leb (8 * (2 + 2 * word input)) (length input) h) b

  -- the book and the names are lent as parts, and there are work words enough
  pub book_shown : (work : List ℕ) → 262144 ≤ length work
      → (count : ℕ) (b : List ℕ) → count ≡ 2 + 2 * word input → length input ≤ 65536 → 8 * count ≤ length input → take count b ≡ words count input
      → Begins (said (translated (take (count - 0) b) (take (length input - 8 * count) (drop (8 * count) input)) work kinds operands text)) z m
      → Begins (said (answered input kinds operands text)) z m
  unfolding answered whole size
  book_shown work f count b c l h e t =
      let d : count - 0 ≡ count = omega arith in
      let w : 8 * (2 + 2 * word input) ≤ length input = omega arith in
      let same =
      ap (λ (j : ℕ). translated (take j b) (take (length input - 8 * count) (drop (8 * count) input)) work kinds operands text) d
      ∙ ap (λ (x : List ℕ). translated (take count b) x work kinds operands text) (rest_is input (8 * count))
      ∙ ap (λ (x : List ℕ). translated x (drop (8 * count) input) work kinds operands text) e
      ∙ ap (λ (j : ℕ). translated (words j input) (drop (8 * j) input) work kinds operands text) c
      ∙ roomy input work kinds operands text l f
      in
      rw (le-leb (length input) 65536 l, le-leb (8 * (2 + 2 * word input)) (length input) w)
      (record { fits = t.fits; front = t.front ∙ ap said same })

-- ---- the program's own slices
zeros_long : (n : ℕ) → length (zeros n) ≡ n
unfolding zeros
zeros_long n = length-replicate {A = ℕ} n 0

pub room_for : (n : ℕ) (text : List ℕ) → text ≡ zeros n → 21 ≤ n → 21 ≤ length text
room_for n text e h = omega (arith, ap length e, zeros_long n)

same_slices : (input : List ℕ) (n j k : ℕ) (kinds operands text z : List ℕ) (m : ℕ) → kinds ≡ zeros j → operands ≡ zeros j → text ≡ zeros k
    → Begins (said (answered (take (n - 0) input) kinds operands text)) z m → Begins (said (answered (take n input) (zeros j) (zeros j) (zeros k))) z m
same_slices input n j k kinds operands text z m e f g b = let d : n - 0 ≡ n = omega arith in rw (e, f, g, d) at b

pub own_shown : (input : List ℕ) (n : ℕ) (kinds operands text z : List ℕ) (m : ℕ) → kinds ≡ zeros line_room → operands ≡ zeros line_room → text ≡ zeros text_room
    → Begins (said (answered (take (n - 0) input) kinds operands text)) z m → Begins (shown (take n input)) z m
unfolding shown
own_shown input n kinds operands text z m e f g b = same_slices input n line_room text_room kinds operands text z m e f g b

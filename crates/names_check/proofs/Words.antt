-- ASCII characters, by words.
use Prim.Native.Nat.{ℕ, ◌+◌, ◌-◌, ◌<◌, ◌≤◌, min}
use mathlib.Core.Path.{◌≡◌}
use mathlib.Core.List.{List}
use mathlib.Core.Bool.{false}
use native.Mathlib.Omega.{arith}
use borrow.Author.Tests.{lt-leb, not-true}
use lib.ListN.{length, get_or, drop, length-drop}
use lib.Seq.{get_or-drop}
use Rattle.names.specs.Text.{within}
use Rattle.names.specs.Name.{plain_byte, name_byte, special, until, front}
use Rattle.names_spelling.proofs.Scan.{until_next}
use Rattle.names_words.specs.Word.{word, Octets}
use Rattle.names_check.specs.Found.{Through, Spelled}
use Rattle.names_check.proofs.Through.{through_front, stuck_byte}

-- the word at `at`, with the number of its bytes up to the first that is no ASCII character of a name
pub record WordRead (names : List ℕ) (at w n : ℕ) : Type 0 where
  pub octets : Octets (drop at names)
  pub long : 8 ≤ length (drop at names)
  pub same : w ≡ word 8 (drop at names)
  pub counted : n ≡ min 8 (length (front (drop at names)))

pub word_read : (names : List ℕ) (at w n : ℕ) → Octets names → 8 ≤ length names - at → w ≡ word 8 (drop at names)
    → ((bs : List ℕ) → Octets bs → 8 ≤ length bs → w ≡ word 8 bs → n ≡ min 8 (length (front bs))) → WordRead names at w n
word_read names at w n o l e f =
    let o' : Octets (drop at names) = λ i. rw get_or-drop (o (at + i)) in
    let l' : 8 ≤ length (drop at names) = rw length-drop (omega arith) in
    record { octets = o'; long = l'; same = e; counted = f (drop at names) o' l' e }

low_name : (b : ℕ) → b < 128 → plain_byte b ≡ false → name_byte b ≡ false
unfolding name_byte within
low_name b h e = rw (e, lt-leb 128 b h)

module _ {names : List ℕ} {at w n : ℕ} (d : WordRead names at w n) where
  pub room : at + 8 ≤ length names
  room = omega (arith, d.long, length-drop at names)

  -- the word's bytes up to the first that is no ASCII character are passed
  pub word_through : Through names at (at + n)
  word_through = through_front names at n (omega (arith, room)) (omega (arith, d.counted))

  -- a byte below 128 behind them is no character of a name
  pub word_stuck : n < 8 → get_or names (at + n) 0 < 128 → Spelled names at (at + n)
  unfolding front special
  word_stuck l h = record { through = word_through; stuck = λ m d. stuck_byte names (at + n) m (low_name (get_or names (at + n) 0) h no_plain) d }
    where
      short : length (until special (drop at names)) ≡ n
      short = omega (arith, d.counted)

      no_plain : plain_byte (get_or names (at + n) 0) ≡ false
      no_plain = not-true _ (rw (short, get_or-drop) at (until_next special (drop at names) (omega (arith, short, d.long))))

  -- all of them
  pub word_whole : 8 ≤ n → Through names at (at + 8)
  word_whole l = rw whole at word_through
    where
      whole : n ≡ 8
      whole = omega (arith, d.counted)

-- The bytes of a word that are no characters of a name by themselves: each has its top bit set in a word that the code makes, and no other bit is set there.
use Prim.Native.Nat.{ℕ, zero, suc, ◌+◌, ◌-◌, ◌*◌, ◌/◌, ◌^◌, ◌<◌, ◌≤◌, min}
use mathlib.Core.Path.{◌≡◌, refl, ap, ap₂, ◌∙◌}
use mathlib.Core.Bool.{Bool, true, false, cond}
use mathlib.Core.List.{List, [], ◌∷◌}
use native.Mathlib.Nat.{add-mul}
use native.Mathlib.Omega.{arith}
use borrow.Author.Tests.{eqb-true}
use lib.Dec.{eqb}
use lib.Arith.{digits_lt}
use lib.Bits.{bit_and, bit_or, and_block, or_block, and_le_r, or_lt}
use lib.Count.{count_leading_zeros, leading_unique}
use lib.ListN.{length}
use Rattle.names.specs.Text.{within}
use Rattle.names.specs.Name.{plain_byte, special, up_to, until, front}
use Rattle.names.specs.Tests.{every_below, below_each}
use Rattle.names_words.specs.Word.{word, Octets, power_next, word_lt}

-- k bytes that are x
unfoldable pub copies : ℕ → ℕ → ℕ
copies zero x = 0
copies (suc k) x = x * 2 ^ (8 * k) + copies k x

copies_lt : (k x : ℕ) → x < 256 → copies k x < 2 ^ (8 * k)
unfolding copies
copies_lt zero x h = omega arith
copies_lt (suc k) x h = rw power_next (digits_lt h (copies_lt k x h))

copies_add : (k x y : ℕ) → copies k x + copies k y ≡ copies k (x + y)
unfolding copies
copies_add zero x y = omega arith
copies_add (suc k) x y = omega (arith, add-mul x y (2 ^ (8 * k)), copies_add k x y)

-- the lower seven bits of each byte
abbrev pub low : ℕ → ℕ → ℕ
low k w = bit_and w (copies k 127)

-- the top bit of each byte that stops
abbrev pub stops : ℕ → ℕ → ℕ
stops k w = bit_and (bit_or (copies k 159 - low k w) (bit_or (low k w + copies k 1) w)) (copies k 128)

pub low_under : (k w : ℕ) → low k w ≤ copies k 159
low_under k w = omega (arith, and_le_r w (copies k 127), copies_add k 127 32)

pub low_room : (k w : ℕ) → low k w + copies k 1 < 2 ^ (8 * k)
low_room k w = omega (arith, and_le_r w (copies k 127), copies_add k 127 1, copies_lt k 128 (omega arith))

stops_lt : (k w : ℕ) → stops k w < 2 ^ (8 * k)
stops_lt k w = omega (arith, and_le_r (bit_or (copies k 159 - low k w) (bit_or (low k w + copies k 1) w)) (copies k 128), copies_lt k 128 (omega arith))

-- digits are taken from digits one by one where none is too small
sub_digits : (p a b u v : ℕ) → b ≤ a → v ≤ u → (a * p + u) - (b * p + v) ≡ (a - b) * p + (u - v)
sub_digits p a b u v l m =
    let e : a ≡ a - b + b = omega arith in
    omega (arith, ap (λ (x : ℕ). x * p) e, add-mul (a - b) b p)

-- one byte of a word, and the others
abbrev low_byte : ℕ → ℕ
low_byte b = bit_and b 127

abbrev stop_byte : ℕ → ℕ
stop_byte b = bit_and (bit_or (159 - low_byte b) (bit_or (low_byte b + 1) b)) 128

module _ (k b r : ℕ) (h : b < 256) (l : r < 2 ^ (8 * k)) where
  low_step : low (suc k) (b * 2 ^ (8 * k) + r) ≡ low_byte b * 2 ^ (8 * k) + low k r
  unfolding copies
  low_step = and_block (8 * k) b 127 r (copies k 127) l (copies_lt k 127 (omega arith))

  under_step : copies (suc k) 159 - low (suc k) (b * 2 ^ (8 * k) + r) ≡ (159 - low_byte b) * 2 ^ (8 * k) + (copies k 159 - low k r)
  unfolding copies
  under_step = rw low_step (sub_digits (2 ^ (8 * k)) 159 (low_byte b) (copies k 159) (low k r) (omega (arith, and_le_r b 127)) (low_under k r))

  over_step : low (suc k) (b * 2 ^ (8 * k) + r) + copies (suc k) 1 ≡ (low_byte b + 1) * 2 ^ (8 * k) + (low k r + copies k 1)
  unfolding copies
  over_step = rw low_step (omega (arith, add-mul (low_byte b) 1 (2 ^ (8 * k))))

  stops_step : stops (suc k) (b * 2 ^ (8 * k) + r) ≡ stop_byte b * 2 ^ (8 * k) + stops k r
  unfolding copies
  stops_step =
      let under : copies k 159 - low k r < 2 ^ (8 * k) = omega (arith, copies_lt k 159 (omega arith)) in
      let both-lt = or_lt (8 * k) (low k r + copies k 1) r (low_room k r) l in
      ap₂ (λ (x y : ℕ). bit_and (bit_or x (bit_or y (b * 2 ^ (8 * k) + r))) (128 * 2 ^ (8 * k) + copies k 128)) under_step over_step
      ∙ rw (
        or_block (8 * k) (low_byte b + 1) b (low k r + copies k 1) r (low_room k r) l,
        or_block (8 * k) (159 - low_byte b) (bit_or (low_byte b + 1) b) (copies k 159 - low k r) (bit_or (low k r + copies k 1) r) under both-lt,
      )
      (and_block (8 * k) (bit_or (159 - low_byte b) (bit_or (low_byte b + 1) b)) 128 (bit_or (copies k 159 - low k r) (bit_or (low k r + copies k 1) r)) (copies k 128)
      (or_lt (8 * k) (copies k 159 - low k r) (bit_or (low k r + copies k 1) r) under both-lt) (copies_lt k 128 (omega arith)))

-- ---- one byte

right_byte : ℕ → Bool
right_byte b = eqb (stop_byte b) (cond (plain_byte b) 0 128)

bytes_right : every_below right_byte 256 ≡ true
unfolding every_below right_byte plain_byte within
bytes_right = refl

stop_byte_lem : (b : ℕ) → b < 256 → stop_byte b ≡ cond (plain_byte b) 0 128
unfolding right_byte
stop_byte_lem b h = eqb-true (stop_byte b) _ (below_each right_byte 256 bytes_right b h)

-- ---- the first byte that stops

-- the length of the word of stops: the bits behind those of the bytes in front, none where no byte stops
pub record Stopped (k n s : ℕ) : Type 0 where
  pub long : ℕ
  pub behind : 8 * n + long ≡ 8 * k
  pub above : s < 2 ^ long
  pub reached : 2 ^ long ≤ 2 * s + 1

stopped : (k : ℕ) (bs : List ℕ) → Octets bs → k ≤ length bs → Stopped k (min k (length (front bs))) (stops k (word k bs))
unfolding word copies front until special up_to
stopped zero bs o l = record { long = 0; behind = omega arith; above = omega arith; reached = omega arith }
stopped (suc k) [] o l = absurd (omega arith)
stopped (suc k) (b ∷ bs) o l =
    rw (stops_step k b (word k bs) (o 0) (word_lt k bs (λ i. o (suc i))), stop_byte_lem b (o 0)) (step (plain_byte b) refl (stopped k bs (λ i. o (suc i)) (omega arith)))
  where
    step : (t : Bool) → plain_byte b ≡ t → Stopped k (min k (length (until special bs))) (stops k (word k bs))
        → Stopped (suc k) (min (suc k) (length (up_to (special b) b (until special bs)))) (cond t 0 128 * 2 ^ (8 * k) + stops k (word k bs))
    step true e s =
        rw e record { long = s.long; behind = omega (arith, s.behind); above = omega (arith, s.above); reached = omega (arith, s.reached) }
    step false e s =
        rw e record { long = 8 * suc k; behind = omega arith; above = omega (arith, power_next k, stops_lt k (word k bs)); reached = omega (arith, power_next k) }

pub front_counted : (w : ℕ) (bs : List ℕ) → Octets bs → 8 ≤ length bs → w ≡ word 8 bs → count_leading_zeros 64 (stops 8 w) / 8 ≡ min 8 (length (front bs))
front_counted w bs o l e =
    let s = stopped 8 bs o l in
    let z = leading_unique 64 (stops 8 (word 8 bs)) (8 * min 8 (length (front bs))) s.long s.behind s.above s.reached in
    omega (arith, z, ap (λ (x : ℕ). count_leading_zeros 64 (stops 8 x)) e)

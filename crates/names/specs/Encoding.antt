-- What the encoding of section 3 of RFC 3629 gives, by the range of the character number, and the number that the bytes say. That the
-- grammar of section 4 takes exactly these bytes stands in proofs/Encoding.
use Rattle.std.specs.Prelude.{ℕ, ◌+◌, ◌-◌, ◌*◌, ◌/◌, ◌≤◌, ◌<◌, ◌≡◌, true, List, [], ◌∷◌, leb}
use Rattle.std.proofs.Common.{⊎_elim, arith, leb-true, leb-false, le-leb, lt-ltb, le-ltb}
use Rattle.std.proofs.lemmas.Bool.{lt-leb}
use Rattle.names.specs.Text.{within}
use Rattle.names.specs.Utf8.{to, tail, has, scalar, six, encode}
use Rattle.names.specs.Tests.{either, or_right, decide}
use Rattle.names.specs.Texts.{in_within}
use Rattle.names.specs.Lead.{tails}

-- ---- the encoding, by the range of the number

-- what holds in each of the four ranges of section 3's table holds
pub by_range : (c : ℕ) {P : Type 0} → (c ≤ 0x7F → P) → (0x7F < c → c ≤ 0x7FF → P) → (0x7FF < c → c ≤ 0xFFFF → P) → (0xFFFF < c → P) → P
by_range c one two three four =
    ⊎_elim (λ e. one (leb-true c 0x7F e))
    (λ e. ⊎_elim (λ f. two (leb-false c 0x7F e) (leb-true c 0x7FF f))
    (λ f. ⊎_elim (λ g. three (leb-false c 0x7FF f) (leb-true c 0xFFFF g)) (λ g. four (leb-false c 0xFFFF g)) (decide (leb c 0xFFFF))) (decide (leb c 0x7FF)))
    (decide (leb c 0x7F))

pub encode_one : (c : ℕ) → c ≤ 0x7F → encode c ≡ c ∷ []
unfolding encode
encode_one c h = rw (le-leb c 0x7F h)

pub encode_two : (c : ℕ) → 0x7F < c → c ≤ 0x7FF → encode c ≡ (0xC0 + c / 0x40) ∷ six c ∷ []
unfolding encode
encode_two c l h = rw (lt-leb c 0x7F l, le-leb c 0x7FF h)

pub encode_three : (c : ℕ) → 0x7FF < c → c ≤ 0xFFFF → encode c ≡ (0xE0 + c / 0x1000) ∷ six (c / 0x40) ∷ six c ∷ []
unfolding encode
encode_three c l h = rw (lt-leb c 0x7F (omega arith), lt-leb c 0x7FF l, le-leb c 0xFFFF h)

pub encode_four : (c : ℕ) → 0xFFFF < c → encode c ≡ (0xF0 + c / 0x40000) ∷ six (c / 0x1000) ∷ six (c / 0x40) ∷ six c ∷ []
unfolding encode
encode_four c l = rw (lt-leb c 0x7F (omega arith), lt-leb c 0x7FF (omega arith), lt-leb c 0xFFFF l)

-- a range in comparisons
pub in_range_lem : (l h b : ℕ) → has (to l h) b ≡ true → (l ≤ b) × (b ≤ h)
unfolding has to
in_range_lem l h b e = in_within l h b e

pub to_range : (l h b : ℕ) → l ≤ b → b ≤ h → has (to l h) b ≡ true
unfolding has to within
to_range l h b p q = rw (le-leb l b p, le-leb b h q)

pub in_tail : (b : ℕ) → has tail b ≡ true → (0x80 ≤ b) × (b ≤ 0xBF)
unfolding tail
in_tail b e = in_range_lem 0x80 0xBF b e

pub to_tail : (b : ℕ) → 0x80 ≤ b → b ≤ 0xBF → has tail b ≡ true
unfolding tail
to_tail b p q = to_range 0x80 0xBF b p q

pub six_tail : (x : ℕ) → has tail (six x) ≡ true
unfolding six
six_tail x = to_tail (six x) (omega arith) (omega arith)

-- the numbers that are encoded, in comparisons
pub to_scalar : (c : ℕ) → c ≤ 0x10FFFF → (0xD7FF < c → 0xE000 ≤ c) → scalar c ≡ true
unfolding scalar has to
to_scalar c h past =
    ⊎_elim (λ e. rw (to_range 0 0xD7FF c (omega arith) (leb-true c 0xD7FF e))) (λ e. or_right (within 0 0xD7FF c) _ (to_range 0xE000 0x10FFFF c (past (leb-false c 0xD7FF e)) h))
    (decide (leb c 0xD7FF))

pub by_scalar : (c : ℕ) {P : Type 0} → scalar c ≡ true → (c ≤ 0xD7FF → P) → (0xE000 ≤ c → c ≤ 0x10FFFF → P) → P
unfolding scalar
by_scalar c e low high =
    ⊎_elim (λ f. low (in_within 0 0xD7FF c f).1) (λ f. let k = in_within 0xE000 0x10FFFF c f in high k.0 k.1)
    (either (within 0 0xD7FF c) (within 0xE000 0x10FFFF c) e)

pub tails_two : (b : ℕ) → 0xC2 ≤ b → b < 0xE0 → tails b ≡ 1
tails_two b l h = rw (le-ltb b 0xC2 l, lt-ltb b 0xE0 h)

pub tails_three : (b : ℕ) → 0xE0 ≤ b → b < 0xF0 → tails b ≡ 2
tails_three b l h = rw (le-ltb b 0xC2 (omega arith), le-ltb b 0xE0 l, lt-ltb b 0xF0 h)

pub tails_four : (b : ℕ) → 0xF0 ≤ b → b < 0xF5 → tails b ≡ 3
tails_four b l h = rw (le-ltb b 0xC2 (omega arith), le-ltb b 0xE0 (omega arith), le-ltb b 0xF0 l, lt-ltb b 0xF5 h)

-- ---- one character: what the grammar takes is an encoding

-- the bytes are the encoding of a character number
abbrev pub Encoded : List ℕ → Type 0
Encoded p = (c : ℕ) × (scalar c ≡ true) × (encode c ≡ p)

-- the number that bytes say
abbrev pub two : ℕ → ℕ → ℕ
two b s = (b - 0xC0) * 0x40 + (s - 0x80)

abbrev pub three : ℕ → ℕ → ℕ → ℕ
three b s t = (b - 0xE0) * 0x1000 + (s - 0x80) * 0x40 + (t - 0x80)

abbrev pub four : ℕ → ℕ → ℕ → ℕ → ℕ
four b s t u = (b - 0xF0) * 0x40000 + (s - 0x80) * 0x1000 + (t - 0x80) * 0x40 + (u - 0x80)

-- The text of a line of kind 7 to 93: its word, and where it has an operand, the number and the end.
use Rattle.std.specs.Prelude.{ℕ, suc, ◌+◌, ◌-◌, ◌≤◌, ◌<◌, ◌≡◌, refl, Bool, ◌&&◌, List, [], ◌∷◌, ◌++◌, leb, ltb, take, set}
use Rattle.std.proofs.Common.{sym, ap, ◌∙◌, append_assoc, ltb-true, leb-true, le-leb, take-take, take_at, length-take-le}
use Rattle.std.proofs.Math.Bool.{true, false}
use native.Mathlib.Omega.{arith}
use Rattle.std.proofs.lemmas.Bool.{lt-leb}
use Rattle.std.proofs.Math.ListN.{length, length-append}
use Rattle.std.proofs.lemmas.List.Edits.{sets}
use Rattle.numbers.specs.Digits.{decimal, length_le}
use Rattle.names.specs.Tests.{both}
use Rattle.print_pen.specs.Pen.{pick_bytes}
use Rattle.print_pen.specs.Write.{Wrote, wrote_sets, then_wrote, wrote_same}
use Rattle.print_words.specs.Words.{word, word_short}
use Rattle.print_words.specs.Ends.{is_label, ending}

unfoldable pub plain_text : ℕ → ℕ → List ℕ
plain_text k x = pick_bytes (leb 21 k) (word k) (word k ++ (decimal x ++ ending k))

pub end_long : (k : ℕ) → length (ending k) ≡ 2
unfolding ending
end_long k = go (is_label k)
  where
    go : (t : Bool) → length (pick_bytes t (58 ∷ 10 ∷ []) (59 ∷ 10 ∷ [])) ≡ 2
    go true = refl
    go false = refl

module _ (k x : ℕ) where
  pub plain_bare : 21 ≤ k → word k ≡ plain_text k x
  unfolding plain_text
  plain_bare h = rw (le-leb 21 k h)

  pub plain_number : k < 21 → word k ++ (decimal x ++ ending k) ≡ plain_text k x
  unfolding plain_text
  plain_number h = rw (lt-leb 21 k h)

  pub plain_long : k < 21 → length (plain_text k x) ≡ length (word k) + length (decimal x) + 2
  plain_long h =
      omega (arith, ap length (plain_number h), length-append (word k) (decimal x ++ ending k), length-append (decimal x) (ending k), end_long k)

  -- the word is a part of it
  pub plain_word : length (word k) ≤ length (plain_text k x)
  unfolding plain_text
  plain_word = go (leb 21 k)
    where
      go : (t : Bool) → length (word k) ≤ length (pick_bytes t (word k) (word k ++ (decimal x ++ ending k)))
      go true = omega arith
      go false = omega (arith, length-append (word k) (decimal x ++ ending k))

-- ---- writing
-- where more is written, so are the bytes that it begins with
wrote_less : (bs cs : List ℕ) {x y : List ℕ} {at end r : ℕ} → Wrote (bs ++ cs) at end x y r → at ≤ length x → Wrote bs at end x y (at + length bs)
wrote_less bs cs {x} {y} {at} {end} {r} h g =
    let size : length (take at x ++ bs) ≡ at + length bs = omega (arith, length-append (take at x) bs, length-take-le at x g) in
    let most : at + length bs ≤ r = omega (arith, h.place, length-append bs cs) in
    let front = sym (take-take (at + length bs) r y most) ∙ ap (take (at + length bs)) (h.front ∙ sym (append_assoc (take at x) bs cs)) ∙ take_at (take at x ++ bs) cs (at + length bs) size in
    record { place = refl; long = h.long; front = front; back = h.back }

-- behind the word a number's digits and the end are stored, whether the line has them or not
module _ (k x : ℕ) {at end q r s : ℕ} {a b c d : List ℕ} (w : Wrote (word k) at end a b q) (digits : (r ≡ q + length (decimal x)) × (c ≡ sets b q (decimal x)))
    (last : (s ≡ r + length (ending k)) × (d ≡ sets c r (ending k))) (room : q + length (decimal x) + 2 ≤ end) (inside : end ≤ length a) where
  all_wrote : Wrote (word k ++ (decimal x ++ ending k)) at end a d s
  all_wrote =
      let number : Wrote (decimal x) q end b c r = wrote_sets end digits.0 digits.1 (omega arith) (omega (arith, w.long)) in
      let behind : Wrote (ending k) r end c d s = wrote_sets end last.0 last.1 (omega (arith, digits.0, end_long k)) (omega (arith, w.long, number.long)) in
      then_wrote w (then_wrote number behind)

  pub number_wrote : k < 21 → Wrote (plain_text k x) at end a d s
  number_wrote h = wrote_same (plain_number k x h) all_wrote

  pub bare_wrote : 21 ≤ k → Wrote (plain_text k x) at end a d q
  bare_wrote h =
      rw w.place (wrote_same (plain_bare k x h) (wrote_less (word k) (decimal x ++ ending k) all_wrote (omega (arith, w.place))))

-- where 32 bytes are left, there is room behind the word for two digits and the end
pub short_room : (k x at end q : ℕ) → k < 94 → (ltb x 100 && leb 32 (end - at)) ≡ true → q ≡ at + length (word k) → (x < 100) × (q + length (decimal x) + 2 ≤ end)
short_room k x at end q h t e =
    let w = both (ltb x 100) (leb 32 (end - at)) t in
    let few = ltb-true x 100 w.0 in
    (few, omega (arith, length_le 1 x few, word_short k h, leb-true 32 (end - at) w.1))

-- the end of a line: two bytes
module _ (k at b : ℕ) (t : List ℕ) where
  end_stored : ending k ≡ b ∷ 10 ∷ [] → (at + 2 ≡ at + length (ending k)) × (set (set t at b) (at + 1) 10 ≡ sets t at (ending k))
  end_stored e = let next : at + 1 ≡ suc at = omega arith in (omega (arith, end_long k), rw (e, next))

  pub colon_stored : is_label k ≡ true → b ≡ 58 → (at + 2 ≡ at + length (ending k)) × (set (set t at b) (at + 1) 10 ≡ sets t at (ending k))
  unfolding ending
  colon_stored h e = end_stored (rw (h, e))

  pub semicolon_stored : is_label k ≡ false → b ≡ 59 → (at + 2 ≡ at + length (ending k)) × (set (set t at b) (at + 1) 10 ≡ sets t at (ending k))
  unfolding ending
  semicolon_stored h e = end_stored (rw (h, e))

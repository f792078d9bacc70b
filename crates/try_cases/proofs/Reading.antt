-- A text from a place on: the bytes before one, and digits.
use Rattle.std.proofs.Common.{◌≡◌, ℕ, suc, ◌+◌, ◌-◌, ◌<◌, ◌≤◌, true, false, eqb, List, [], length, get_or, take, drop, sym, refl, ap, ◌∙◌, arith, length-drop, drop_of_length-le, length-take, take_all}
use lib.ListN.{get_or-eq_default}
use Rattle.names.specs.Name.{until}
use Rattle.names_spelling.proofs.Scan.{until_part, until_past, until_stop, until_pass}
use Rattle.try_cases.specs.declared.text.Number.{Number}
use Rattle.try_cases.specs.declared.text.Token.{Token}
use Rattle.try_cases.specs.Text.{up_to, no_digit, digits, with_digit, with_digits, number_in, token_in}

module _ (w : ℕ) (text : List ℕ) (i : ℕ) where
  pub up_past : length text ≤ i → length (up_to w (drop i text)) ≡ 0
  unfolding up_to
  up_past h = ap length (until_past (λ b. eqb b w) text i h)

  pub up_stop : i < length text → eqb (get_or text i 0) w ≡ true → length (up_to w (drop i text)) ≡ 0
  unfolding up_to
  up_stop l h = ap length (until_stop (λ b. eqb b w) text i l h)

  pub up_pass : i < length text → eqb (get_or text i 0) w ≡ false → length (up_to w (drop i text)) ≡ suc (length (up_to w (drop (i + 1) text)))
  unfolding up_to
  up_pass l h = ap length (until_pass (λ b. eqb b w) text i l h)

-- what is read from a place on, behind a number and so many digits
pub record Reached (text : List ℕ) (value at : ℕ) : Type 0 where
  pub inside : at ≤ length text
  pub count : length (digits text) ≡ at + length (digits (drop at text))
  pub number : with_digits 0 (digits text) ≡ with_digits value (digits (drop at text))

abbrev number_of : ℕ → ℕ → Number
number_of v n = record { value = v; digits = n }

module _ (text : List ℕ) where
  pub reached_first : Reached text 0 0
  reached_first = record { inside = omega arith; count = omega arith; number = refl }

  module _ (value at : ℕ) (r : Reached text value at) where
    pub reached_more : (next : ℕ) → at < length text → no_digit (get_or text at 0) ≡ false → next ≡ with_digit value (get_or text at 0) → Reached text next (at + 1)
    unfolding digits with_digits
    reached_more next l h e =
        let p = until_pass no_digit text at l h in
        record {
          inside = omega arith;
          count = omega (arith, r.count, ap length p);
          number = r.number ∙ ap (λ (d : List ℕ). with_digits value d) p ∙ ap (λ (v : ℕ). with_digits v (digits (drop (at + 1) text))) (sym e);
        }

    -- nothing more is read
    pub reached_end : digits (drop at text) ≡ [] → ◌≡◌ {A = Number} (record { value = value; digits = at }) (number_in text)
    unfolding number_in with_digits
    reached_end e =
        let n : length (digits text) ≡ at = omega (arith, r.count, ap length e) in
        let v : with_digits 0 (digits text) ≡ value = r.number ∙ ap (λ (d : List ℕ). with_digits value d) e in
        ap (λ (x : ℕ). number_of x at) (sym v) ∙ ap (λ (x : ℕ). number_of (with_digits 0 (digits text)) x) (sym n)

    pub digits_past : length text ≤ at → digits (drop at text) ≡ []
    unfolding digits
    digits_past h = until_past no_digit text at h

    pub digits_stop : at < length text → no_digit (get_or text at 0) ≡ true → digits (drop at text) ≡ []
    unfolding digits
    digits_stop l h = until_stop no_digit text at l h

-- a text from a place on, as a slice from there to its end
pub to_end : (text : List ℕ) (n : ℕ) → take (length text - n) (drop n text) ≡ drop n text
to_end text n = take_all (length text - n) (drop n text) (omega (arith, length-drop n text))

abbrev token_of : ℕ → ℕ → ℕ → Token
token_of a m b = record { first = a; mark = m; second = b }

module _ (word : List ℕ) where
  -- what is read in front and behind it makes the token
  pub token_parts : (a b : Number) → a ≡ number_in word → b ≡ number_in (drop (a.digits + 1) word)
      → ◌≡◌ {A = Token} (record { first = a.value; mark = get_or word a.digits 0; second = b.value }) (token_in word)
  unfolding token_in number_in
  token_parts a b p q =
      ap (λ (x : Number). token_of a.value (get_or word a.digits 0) x.value) q
      ∙ ap (λ (x : Number). token_of x.value (get_or word x.digits 0) (number_in (drop (x.digits + 1) word)).value) p

  -- nothing stands behind the number
  pub token_short : (a : Number) → a ≡ number_in word → length word ≤ a.digits
      → ◌≡◌ {A = Token} (record { first = a.value; mark = 0; second = 0 }) (token_in word)
  unfolding number_in digits until with_digits
  token_short a p h =
      let l : length word ≤ a.digits + 1 = omega arith in
      ap (λ (m : ℕ). token_of a.value m 0) (sym (get_or-eq_default word 0 h))
      ∙ ap (λ (t : List ℕ). token_of a.value (get_or word a.digits 0) (number_in t).value) (sym (drop_of_length-le word l))
      ∙ token_parts a (number_in (drop (a.digits + 1) word)) p refl

pub up_within : (w : ℕ) (text : List ℕ) → length (up_to w text) ≤ length text
unfolding up_to
up_within w text =
    let p = until_part (λ b. eqb b w) text in
    omega (arith, ap length p, length-take (length (until (λ b. eqb b w) text)) text)

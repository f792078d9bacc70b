-- Bytes that are UTF-8 have one reading only.
use Rattle.std.specs.Prelude.{ℕ, suc, ◌+◌, ◌/◌, ◌≤◌, ◌<◌, ◌≡◌, refl, true, cond, List, [], ◌∷◌, ◌++◌, ltb, get_or, drop}
use Rattle.std.proofs.Common.{sym, ap, ap₂, ◌∙◌}
use Rattle.std.proofs.lemmas.Bool.{false≢true}
use native.Mathlib.Omega.{arith}
use borrow.Author.Tests.{lt-ltb, le-ltb}
use Rattle.names.specs.Utf8.{scalar, six, encode, every_scalar, encodes}
use Rattle.names.specs.Tests.{both}
use Rattle.names.specs.Lead.{tails}
use Rattle.names.specs.Characters.{is_char}
use Rattle.names.specs.Encoding.{by_range, by_scalar, encode_one, encode_two, encode_three, encode_four, tails_two, tails_three, tails_four, two, three, four}
use Rattle.names.proofs.Encoding.{encoded_char}

-- the number of the character that the bytes begin with
abbrev number : ℕ → ℕ → ℕ → ℕ → ℕ
number b s t u = cond (ltb b 0x80) b (cond (ltb b 0xE0) (two b s) (cond (ltb b 0xF0) (three b s t) (four b s t u)))

first : List ℕ → ℕ
first bs = number (get_or bs 0 0) (get_or bs 1 0) (get_or bs 2 0) (get_or bs 3 0)

-- the bytes behind it
rest : List ℕ → List ℕ
rest bs = drop (suc (tails (get_or bs 0 0))) bs

module _ (c : ℕ) (e : scalar c ≡ true) (q : List ℕ) where
  first_four : 0xFFFF < c → first (encode c ++ q) ≡ c
  unfolding first six
  first_four l =
      let b = 0xF0 + c / 0x40000 in
      let m : c / 0x1000 ≡ c / 0x40 / 0x40 = omega arith in
      let n : c / 0x40000 ≡ c / 0x1000 / 0x40 = omega arith in
      rw (encode_four c l, le-ltb b 0x80 (omega arith), le-ltb b 0xE0 (omega arith), le-ltb b 0xF0 (omega arith)) (omega arith)

  first_of : first (encode c ++ q) ≡ c
  unfolding first six
  first_of =
      by_range c (λ h. rw (encode_one c h, lt-ltb c 0x80 (omega arith)))
      (λ l h. let b = 0xC0 + c / 0x40 in rw (encode_two c l h, le-ltb b 0x80 (omega arith), lt-ltb b 0xE0 (omega arith)) (omega arith))
      (λ l h. let b = 0xE0 + c / 0x1000 in rw (encode_three c l h, le-ltb b 0x80 (omega arith), le-ltb b 0xE0 (omega arith), lt-ltb b 0xF0 (omega arith)) (omega arith))
      first_four

  rest_of : rest (encode c ++ q) ≡ q
  unfolding rest
  rest_of =
      let most : c ≤ 0x10FFFF = by_scalar c e (omega arith) (omega arith) in
      by_range c (λ h. rw (encode_one c h, lt-ltb c 0xC2 (omega arith)))
      (λ l h. rw (encode_two c l h, tails_two (0xC0 + c / 0x40) (omega arith) (omega arith)))
      (λ l h. rw (encode_three c l h, tails_three (0xE0 + c / 0x1000) (omega arith) (omega arith)))
      (λ l. rw (encode_four c l, tails_four (0xF0 + c / 0x40000) (omega arith) (omega arith)))

-- a character has bytes
char_filled : (p q : List ℕ) → is_char p ≡ true → [] ≡ p ++ q → ⊥
unfolding is_char
char_filled [] q h e = false≢true h
char_filled (b ∷ p) q h e = let z : ◌≡◌ {A = ℕ} 0 1 = cc in omega arith

-- bytes are the encoding of one text only
pub encodes_once : (cs ds : List ℕ) → every_scalar cs ≡ true → every_scalar ds ≡ true → encodes cs ≡ encodes ds → cs ≡ ds
unfolding every_scalar encodes
encodes_once [] [] h k e = refl
encodes_once [] (d ∷ ds) h k e = absurd (char_filled (encode d) (encodes ds) (encoded_char d (both (scalar d) (every_scalar ds) k).0) e)
encodes_once (c ∷ cs) [] h k e = absurd (char_filled (encode c) (encodes cs) (encoded_char c (both (scalar c) (every_scalar cs) h).0) (sym e))
encodes_once (c ∷ cs) (d ∷ ds) h k e =
    let h' = both (scalar c) (every_scalar cs) h in
    let k' = both (scalar d) (every_scalar ds) k in
    let f = sym (first_of c h'.0 (encodes cs)) ∙ ap first e ∙ first_of d k'.0 (encodes ds) in
    let r = sym (rest_of c h'.0 (encodes cs)) ∙ ap rest e ∙ rest_of d k'.0 (encodes ds) in
    ap₂ (λ x xs. x ∷ xs) f (encodes_once cs ds h'.1 k'.1 r)

-- The spelling of a label: one character for each character of the name, and each a letter, a digit or `_`.
use Rattle.std.specs.Prelude.{ℕ, zero, suc, ◌+◌, ◌/◌, ◌≤◌, ◌<◌, ◌≡◌, refl, Bool, true, false, cond, List, [], ◌∷◌, ◌++◌, map, length, get_or, drop}
use Rattle.std.proofs.Common.{ap, ◌∙◌, arith, le-leb, ne_eqb, add-one, drop_of_length-le}
use Rattle.std.proofs.lemmas.Bool.{lt-leb}
use Rattle.std.proofs.Math.Seq.{drop-cons}
use Rattle.names.specs.Text.{within}
use Rattle.names.specs.Utf8.{to, tail, has, is_tail, six, encode, encodes}
use Rattle.names.specs.Spelling.{word_byte, clean_byte, sanitize}
use Rattle.names.specs.Encoding.{by_range, encode_one, encode_two, encode_three, encode_four, six_tail}

underscore : word_byte 95 ≡ true
unfolding word_byte within
underscore = refl

-- a character of a label is a letter, a digit or `_`
pub clean_word : (b : ℕ) → word_byte (clean_byte b) ≡ true
unfolding clean_byte
clean_word b = kept (word_byte b) refl
  where
    kept : (t : Bool) → word_byte b ≡ t → word_byte (cond t b 95) ≡ true
    kept true e = e
    kept false e = underscore

-- and so is every byte of it
pub sanitize_word : (s : List ℕ) (i : ℕ) → i < length (sanitize s) → word_byte (get_or (sanitize s) i 0) ≡ true
unfolding sanitize
sanitize_word [] i l = absurd (omega arith)
sanitize_word (b ∷ s) i l = behind_first_lem (is_tail b) (sanitize_word s) i l
  where
    behind_first_lem : (t : Bool) → ((j : ℕ) → j < length (sanitize s) → word_byte (get_or (sanitize s) j 0) ≡ true)
        → (j : ℕ) → j < length (cond t (sanitize s) (clean_byte b ∷ sanitize s)) → word_byte (get_or (cond t (sanitize s) (clean_byte b ∷ sanitize s)) j 0) ≡ true
    behind_first_lem true f j m = f j m
    behind_first_lem false f zero m = clean_word b
    behind_first_lem false f (suc j) m = f j (omega arith)

-- a label is no longer than its name
pub sanitize_length : (s : List ℕ) → length (sanitize s) ≤ length s
unfolding sanitize
sanitize_length [] = omega arith
sanitize_length (b ∷ s) = behind_first_lem (is_tail b) (sanitize_length s)
  where
    behind_first_lem : (t : Bool) → length (sanitize s) ≤ length s → length (cond t (sanitize s) (clean_byte b ∷ sanitize s)) ≤ suc (length s)
    behind_first_lem true h = omega arith
    behind_first_lem false h = omega arith

-- what a label spells of a name from the place i on
module _ (name : List ℕ) (i : ℕ) where
  pub clean_over : length name ≤ i → sanitize (drop i name) ≡ []
  unfolding sanitize
  clean_over h = rw (drop_of_length-le name h)

  pub clean_tail : i < length name → is_tail (get_or name i 0) ≡ true → sanitize (drop i name) ≡ sanitize (drop (i + 1) name)
  unfolding sanitize
  clean_tail l h = rw (add-one, drop-cons name i 0 l, h)

  pub clean_more : i < length name → is_tail (get_or name i 0) ≡ false → sanitize (drop i name) ≡ clean_byte (get_or name i 0) ∷ sanitize (drop (i + 1) name)
  unfolding sanitize
  clean_more l h = rw (add-one, drop-cons name i 0 l, h)

-- a character outside ASCII is one `_`
pub clean_outside : (c : ℕ) → 0x7F < c → clean_byte c ≡ 95
unfolding clean_byte word_byte within
clean_outside c l =
    rw (le-leb 48 c (omega arith), lt-leb c 57 (omega arith), le-leb 65 c (omega arith), lt-leb c 90 (omega arith), le-leb 97 c (omega arith), lt-leb c 122 (omega arith), ne_eqb c 95 (omega arith))

-- the first byte of a character is no tail, and the others are
under_tail : (b : ℕ) → b < 0x80 → is_tail b ≡ false
unfolding is_tail has tail to within
under_tail b h = rw (lt-leb 0x80 b h)

over_tail : (b : ℕ) → 0xBF < b → is_tail b ≡ false
unfolding is_tail has tail to within
over_tail b h = rw (le-leb 0x80 b (omega arith), lt-leb b 0xBF h)

sanitize_lead : (b : ℕ) (q : List ℕ) → 0xBF < b → sanitize (b ∷ q) ≡ 95 ∷ sanitize q
unfolding sanitize
sanitize_lead b q h = rw (over_tail b h, clean_outside b (omega arith))

sanitize_six : (x : ℕ) (q : List ℕ) → sanitize (six x ∷ q) ≡ sanitize q
unfolding sanitize is_tail
sanitize_six x q = rw (six_tail x)

sanitize_low : (b : ℕ) (q : List ℕ) → b < 0x80 → sanitize (b ∷ q) ≡ clean_byte b ∷ sanitize q
unfolding sanitize
sanitize_low b q h = rw (under_tail b h)

-- one character of a name is one of its label
sanitize_char : (c : ℕ) (q : List ℕ) → sanitize (encode c ++ q) ≡ clean_byte c ∷ sanitize q
sanitize_char c q =
    by_range c (λ h. rw (encode_one c h) (sanitize_low c q (omega arith)))
    (λ l h. rw (encode_two c l h, clean_outside c l) (sanitize_lead (0xC0 + c / 0x40) _ (omega arith) ∙ ap (λ t. 95 ∷ t) (sanitize_six c q)))
    (λ l h. rw (encode_three c l h, clean_outside c (omega arith))
    (sanitize_lead (0xE0 + c / 0x1000) _ (omega arith) ∙ ap (λ t. 95 ∷ t) (sanitize_six (c / 0x40) _ ∙ sanitize_six c q)))
    (λ l. rw (encode_four c l, clean_outside c (omega arith))
    (sanitize_lead (0xF0 + c / 0x40000) _ (omega arith) ∙ ap (λ t. 95 ∷ t) (sanitize_six (c / 0x1000) _ ∙ sanitize_six (c / 0x40) _ ∙ sanitize_six c q)))

-- a label has one character for each character of the name
pub sanitize_encoded : (cs : List ℕ) → sanitize (encodes cs) ≡ map clean_byte cs
unfolding sanitize encodes
sanitize_encoded [] = refl
sanitize_encoded (c ∷ cs) = sanitize_char c (encodes cs) ∙ ap (λ t. clean_byte c ∷ t) (sanitize_encoded cs)

-- an ASCII name keeps its length, and every byte its place
pub sanitize_ascii : (s : List ℕ) → ((i : ℕ) → i < length s → get_or s i 0 < 0x80) → sanitize s ≡ map clean_byte s
unfolding sanitize
sanitize_ascii [] h = refl
sanitize_ascii (b ∷ s) h = sanitize_low b s (h 0 (omega arith)) ∙ ap (λ t. clean_byte b ∷ t) (sanitize_ascii s (λ i l. h (suc i) (omega arith)))

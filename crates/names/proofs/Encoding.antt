-- UTF-8 by its grammar is UTF-8 by its encoding: the bytes that section 4 of RFC 3629 takes are exactly the encodings by section 3 of
-- the character numbers U+0000 to U+D7FF and U+E000 to U+10FFFF.
use Rattle.std.specs.Prelude.{ℕ, suc, ◌+◌, ◌/◌, ◌≤◌, ◌<◌, ◌≡◌, refl, ◌↔◌, ◌≢◌, Bool, true, false, ◌&&◌, cond, List, [], ◌∷◌, ◌++◌, eqb, ltb, replicate}
use Rattle.std.proofs.Common.{sym, ap, ◌∙◌, ⊎_elim, arith, eqb-true, ltb-true, ltb-false, lt-ltb}
use Rattle.std.proofs.Math.Path.{ap₂}
use Rattle.std.proofs.lemmas.Bool.{false≢true, eqb-false}
use Rattle.names.specs.Utf8.{Range, to, tail, table, has, begins, behind, follow, well_formed, scalar, six, encode, every_scalar, encodes}
use Rattle.names.specs.Tests.{both, either, or_right, decide}
use Rattle.names.specs.Lead.{tails, bound, lowest, highest, lead_octet}
use Rattle.names.proofs.Lead.{lead_behind, lead_begins}
use Rattle.names.specs.Characters.{exactly, is_char, char_first}
use Rattle.names.proofs.Characters.{char_alone, char_ascii}
use Rattle.names.specs.Encoding.{by_range, encode_one, encode_two, encode_three, encode_four, in_range_lem, to_range, in_tail, six_tail, to_scalar, by_scalar, tails_two, tails_three, tails_four, Encoded, two, three, four}

-- ---- one character: the grammar takes the encodings

-- the ranges of the others behind a first byte, where there are n + 1
char_many : (b n : ℕ) (p : List ℕ) → b < 256 → tails b ≡ suc n → is_char (b ∷ p) ≡ exactly (to (lowest b) (highest b) ∷ replicate n tail) p
unfolding is_char
char_many b n p l e = rw (lead_begins b l, lead_behind b l, e, lt-ltb 0 (suc n) (omega arith), or_right (ltb b 0x80) true refl)

-- where the second byte may lie, by the first: two first bytes have a bound of their own
module _ (b x p y q r : ℕ) where
  by_bound : {P : Type 0} → (b ≡ x → bound b x p y q r ≡ p → P) → (b ≡ y → bound b x p y q r ≡ q → P) → (b ≢ x → b ≢ y → bound b x p y q r ≡ r → P) → P
  by_bound one two other =
      ⊎_elim (λ e. one (eqb-true b x e) (rw e))
      (λ (e : eqb b x ≡ false). ⊎_elim (λ f. two (eqb-true b y f) (rw (e, f))) (λ f. other (eqb-false b x e) (eqb-false b y f) (rw (e, f))) (decide (eqb b y)))
      (decide (eqb b x))

by_lowest : (b : ℕ) {P : Type 0} → (b ≡ 0xE0 → lowest b ≡ 0xA0 → P) → (b ≡ 0xF0 → lowest b ≡ 0x90 → P) → (b ≢ 0xE0 → b ≢ 0xF0 → lowest b ≡ 0x80 → P) → P
by_lowest b = by_bound b 0xE0 0xA0 0xF0 0x90 0x80

by_highest : (b : ℕ) {P : Type 0} → (b ≡ 0xED → highest b ≡ 0x9F → P) → (b ≡ 0xF4 → highest b ≡ 0x8F → P) → (b ≢ 0xED → b ≢ 0xF4 → highest b ≡ 0xBF → P) → P
by_highest b = by_bound b 0xED 0x9F 0xF4 0x8F 0xBF

char_two : (b s : ℕ) → 0xC2 ≤ b → b < 0xE0 → lowest b ≤ s → s ≤ highest b → is_char (b ∷ s ∷ []) ≡ true
unfolding exactly
char_two b s l h p q = rw (char_many b 0 (s ∷ []) (omega arith) (tails_two b l h), to_range (lowest b) (highest b) s p q)

char_three : (b s t : ℕ) → 0xE0 ≤ b → b < 0xF0 → lowest b ≤ s → s ≤ highest b → has tail t ≡ true → is_char (b ∷ s ∷ t ∷ []) ≡ true
unfolding exactly
char_three b s t l h p q e = rw (char_many b 1 (s ∷ t ∷ []) (omega arith) (tails_three b l h), to_range (lowest b) (highest b) s p q, e)

char_four : (b s t u : ℕ) → 0xF0 ≤ b → b < 0xF5 → lowest b ≤ s → s ≤ highest b → has tail t ≡ true → has tail u ≡ true → is_char (b ∷ s ∷ t ∷ u ∷ []) ≡ true
unfolding exactly
char_four b s t u l h p q e f = rw (char_many b 2 (s ∷ t ∷ u ∷ []) (omega arith) (tails_four b l h), to_range (lowest b) (highest b) s p q, e, f)

module _ (c : ℕ) (e : scalar c ≡ true) where
  encoded_two : 0x7F < c → c ≤ 0x7FF → is_char (encode c) ≡ true
  unfolding six
  encoded_two l h =
      let b = 0xC0 + c / 0x40 in
      rw (encode_two c l h)
      (char_two b (six c) (omega arith) (omega arith)
      (by_lowest b (omega arith) (omega arith) (omega arith)) (by_highest b (omega arith) (omega arith) (omega arith)))

  encoded_three : 0x7FF < c → c ≤ 0xFFFF → is_char (encode c) ≡ true
  unfolding six
  encoded_three l h =
      let b = 0xE0 + c / 0x1000 in
      let under : six (c / 0x40) ≤ highest b = by_highest b (by_scalar c e (omega arith) (omega arith)) (omega arith) (omega arith) in
      rw (encode_three c l h) (char_three b (six (c / 0x40)) (six c) (omega arith) (omega arith) (by_lowest b (omega arith) (omega arith) (omega arith)) under (six_tail c))

  encoded_four : 0xFFFF < c → is_char (encode c) ≡ true
  unfolding six
  encoded_four l =
      let b = 0xF0 + c / 0x40000 in
      let most : c ≤ 0x10FFFF = by_scalar c e (omega arith) (omega arith) in
      rw (encode_four c l)
      (char_four b (six (c / 0x1000)) (six (c / 0x40)) (six c) (omega arith) (omega arith)
      (by_lowest b (omega arith) (omega arith) (omega arith)) (by_highest b (omega arith) (omega arith) (omega arith)) (six_tail (c / 0x40)) (six_tail c))

  pub encoded_char : is_char (encode c) ≡ true
  encoded_char = by_range c (λ h. rw (encode_one c h) (char_ascii c (omega arith))) encoded_two encoded_three encoded_four

-- every second byte is a tail
second_tail : (b s : ℕ) → has (to (lowest b) (highest b)) s ≡ true → (0x80 ≤ s) × (s ≤ 0xBF)
second_tail b s e =
    let r = in_range_lem (lowest b) (highest b) s e in
    (by_lowest b (omega arith) (omega arith) (omega arith), by_highest b (omega arith) (omega arith) (omega arith))

-- by the first byte: a range for each number of bytes
by_lead : (b : ℕ) {P : Type 0} → begins table b ≡ true → (b < 0x80 → P) → (0xC2 ≤ b → b < 0xE0 → P) → (0xE0 ≤ b → b < 0xF0 → P) → (0xF0 ≤ b → b < 0xF5 → P) → P
by_lead b {P} e one two three four =
    let l = lead_octet b e in
    ⊎_elim (λ f. one (ltb-true b 0x80 f)) (λ f. more _ _ _ _ refl refl refl refl (ltb-true 0 (tails b) f)) (either (ltb b 0x80) (ltb 0 (tails b)) (rw (lead_begins b l) at e))
  where
    more : (t u v w : Bool) → ltb b 0xC2 ≡ t → ltb b 0xE0 ≡ u → ltb b 0xF0 ≡ v → ltb b 0xF5 ≡ w → 0 < cond t 0 (cond u 1 (cond v 2 (cond w 3 0))) → P
    more true u v w t' u' v' w' m = absurd (omega arith)
    more false true v w t' u' v' w' m = two (ltb-false b 0xC2 t') (ltb-true b 0xE0 u')
    more false false true w t' u' v' w' m = three (ltb-false b 0xE0 u') (ltb-true b 0xF0 v')
    more false false false true t' u' v' w' m = four (ltb-false b 0xF0 v') (ltb-true b 0xF5 w')
    more false false false false t' u' v' w' m = absurd (omega arith)

-- what holds of every list with one of each of the ranges
abbrev Each : List Range → (List ℕ → Type 0) → Type 0
Each [] P = P []
Each (r ∷ rs) P = (b : ℕ) → has r b ≡ true → Each rs (λ p. P (b ∷ p))

by_exactly : (rs : List Range) (P : List ℕ → Type 0) → Each rs P → (p : List ℕ) → exactly rs p ≡ true → P p
unfolding exactly
by_exactly [] P f [] e = f
by_exactly [] P f (b ∷ p) e = absurd (false≢true e)
by_exactly (r ∷ rs) P f [] e = absurd (false≢true e)
by_exactly (r ∷ rs) P f (b ∷ p) e = let k = both (has r b) (exactly rs p) e in by_exactly rs (λ q. P (b ∷ q)) (f b k.0) p k.1

-- bytes, number by number
same_three : {x x' y y' z z' : ℕ} → x ≡ x' → y ≡ y' → z ≡ z' → x ∷ y ∷ z ∷ [] ≡ x' ∷ y' ∷ z' ∷ []
same_three p q r = cc

same_four : {w w' x x' y y' z z' : ℕ} → w ≡ w' → x ≡ x' → y ≡ y' → z ≡ z' → w ∷ x ∷ y ∷ z ∷ [] ≡ w' ∷ x' ∷ y' ∷ z' ∷ []
same_four p q r s = cc

module _ (b : ℕ) where
  read_two : 0xC2 ≤ b → b < 0xE0 → Each (to (lowest b) (highest b) ∷ []) (λ p. Encoded (b ∷ p))
  unfolding six
  read_two l h s e =
      let c = two b s in
      let s' = second_tail b s e in
      (c, to_scalar c (omega arith) (omega arith), encode_two c (omega arith) (omega arith) ∙ ap₂ (λ x y. x ∷ y ∷ []) (omega arith) (omega arith))

  read_three : 0xE0 ≤ b → b < 0xF0 → Each (to (lowest b) (highest b) ∷ tail ∷ []) (λ p. Encoded (b ∷ p))
  unfolding six
  read_three l h s e t f =
      let c = three b s t in
      let r = in_range_lem (lowest b) (highest b) s e in
      let s' = second_tail b s e in
      let t' = in_tail t f in
      let least : 0x7FF < c = by_lowest b (omega arith) (omega arith) (omega arith) in
      let past : 0xD7FF < c → 0xE000 ≤ c = by_highest b (omega arith) (omega arith) (omega arith) in
      (c, to_scalar c (omega arith) past, encode_three c least (omega arith) ∙ same_three (omega arith) (omega arith) (omega arith))

  read_four : 0xF0 ≤ b → b < 0xF5 → Each (to (lowest b) (highest b) ∷ tail ∷ tail ∷ []) (λ p. Encoded (b ∷ p))
  unfolding six
  read_four l h s e t f u g =
      let c = four b s t u in
      let r = in_range_lem (lowest b) (highest b) s e in
      let s' = second_tail b s e in
      let t' = in_tail t f in
      let u' = in_tail u g in
      let least : 0xFFFF < c = by_lowest b (omega arith) (omega arith) (omega arith) in
      let most : c ≤ 0x10FFFF = by_highest b (omega arith) (omega arith) (omega arith) in
      (c, to_scalar c most (omega arith), encode_four c least ∙ same_four (omega arith) (omega arith) (omega arith) (omega arith))

pub char_encoded : (p : List ℕ) → is_char p ≡ true → Encoded p
unfolding is_char
char_encoded [] e = absurd (false≢true e)
char_encoded (b ∷ p) e =
    by_lead b (both (begins table b) (exactly (behind table b) p) e).0
    (λ h. behind_first_lem [] (b, to_scalar b (omega arith) (omega arith), encode_one b (omega arith)) (sym (char_alone b p h) ∙ e))
    (λ l h. behind_first_lem _ (read_two b l h) (sym (char_many b 0 p (omega arith) (tails_two b l h)) ∙ e))
    (λ l h. behind_first_lem _ (read_three b l h) (sym (char_many b 1 p (omega arith) (tails_three b l h)) ∙ e))
    (λ l h. behind_first_lem _ (read_four b l h) (sym (char_many b 2 p (omega arith) (tails_four b l h)) ∙ e))
  where
    behind_first_lem : (rs : List Range) → Each rs (λ q. Encoded (b ∷ q)) → exactly rs p ≡ true → Encoded (b ∷ p)
    behind_first_lem rs f h = by_exactly rs (λ q. Encoded (b ∷ q)) f p h

-- UTF8-char is what section 3 encodes
pub char_iff : (p : List ℕ) → (is_char p ≡ true) ↔ Encoded p
char_iff p = (char_encoded p, λ x. rw x.2 at (encoded_char x.0 x.1))

-- ---- texts

joined : {a b : Bool} → a ≡ true → b ≡ true → (a && b) ≡ true
joined e f = rw (e, f)

-- what follows a character that was begun: its other bytes, then encodings
read : (rs : List Range) (bs : List ℕ) → follow rs bs ≡ true → (p cs : List ℕ) × (exactly rs p ≡ true) × (every_scalar cs ≡ true) × (bs ≡ p ++ encodes cs)
unfolding follow exactly is_char every_scalar encodes
read [] [] e = ([], [], refl, refl, refl)
read [] (b ∷ bs) e =
    let k = both (begins table b) (follow (behind table b) bs) e in
    let r = read (behind table b) bs k.1 in
    let x = char_encoded (b ∷ r.0) (joined k.0 r.2) in
    ([], x.0 ∷ r.1, refl, joined x.1 r.3, ap (λ t. b ∷ t) r.4 ∙ ap (λ t. t ++ encodes r.1) (sym x.2))
read (r ∷ rs) [] e = absurd (false≢true e)
read (r ∷ rs) (b ∷ bs) e =
    let k = both (has r b) (follow rs bs) e in
    let q = read rs bs k.1 in
    (b ∷ q.0, q.1, joined k.0 q.2, q.3, ap (λ t. b ∷ t) q.4)

encodes_well_formed : (cs : List ℕ) → every_scalar cs ≡ true → well_formed (encodes cs) ≡ true
unfolding every_scalar encodes well_formed follow
encodes_well_formed [] e = refl
encodes_well_formed (c ∷ cs) e =
    let k = both (scalar c) (every_scalar cs) e in
    char_first (encode c) (encodes cs) (encoded_char c k.0) ∙ encodes_well_formed cs k.1

well_formed_encodes : (bs : List ℕ) → well_formed bs ≡ true → (cs : List ℕ) × (every_scalar cs ≡ true) × (encodes cs ≡ bs)
unfolding well_formed
well_formed_encodes bs e =
    let r = read [] bs e in
    (r.1, r.3, by_exactly [] (λ p. bs ≡ p ++ encodes r.1 → encodes r.1 ≡ bs) (λ q. sym q) r.0 r.2 r.4)

-- the grammar takes exactly the encodings of the numbers U+0000 to U+D7FF and U+E000 to U+10FFFF
pub utf8_iff : (bs : List ℕ) → (well_formed bs ≡ true) ↔ ((cs : List ℕ) × (every_scalar cs ≡ true) × (encodes cs ≡ bs))
utf8_iff bs = (well_formed_encodes bs, λ x. rw x.2 at (encodes_well_formed x.0 x.1))

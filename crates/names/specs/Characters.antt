-- UTF-8 one character after the other: a character in front of other bytes, as a grammar has it and by its length.
use Rattle.std.specs.Prelude.{ℕ, suc, ◌<◌, ◌≤◌, ◌≡◌, refl, Bool, true, false, ◌&&◌, cond, List, [], ◌∷◌, ◌++◌, leb, length, take, drop}
use Rattle.std.proofs.Common.{sym, ◌∙◌, arith, leb-true, le-leb}
use Rattle.std.proofs.lemmas.Bool.{false≢true}
use Rattle.std.proofs.Math.Bool.{and_assoc}
use Rattle.names.specs.Utf8.{Range, to, tail, table, has, opens, others, begins, behind, follow, well_formed, fills, char_length}
use Rattle.names.specs.Text.{within}
use Rattle.names.specs.Name.{plain_byte, name_byte, every_byte}
use Rattle.names.specs.Texts.{in_within}
use Rattle.names.specs.Tests.{both, or_right, is_false}

-- the bytes are one of each of the ranges
unfoldable pub exactly : List Range → List ℕ → Bool
exactly [] [] = true
exactly [] (b ∷ bs) = false
exactly (r ∷ rs) [] = false
exactly (r ∷ rs) (b ∷ bs) = has r b && exactly rs bs

-- UTF8-char: the bytes are one character
unfoldable pub is_char : List ℕ → Bool
is_char [] = false
is_char (b ∷ bs) = begins table b && exactly (behind table b) bs

-- what follows a character that was begun: its other bytes, then characters
follow_fills : (rs : List Range) (bs : List ℕ) → follow rs bs ≡ (fills rs bs && follow [] (drop (length rs) bs))
unfolding follow fills
follow_fills [] bs = refl
follow_fills (r ∷ rs) [] = refl
follow_fills (r ∷ rs) (b ∷ bs) = rw (follow_fills rs bs) (sym (and_assoc (has r b) (fills rs bs) _))

follow_exactly : (rs : List Range) (p q : List ℕ) → exactly rs p ≡ true → follow rs (p ++ q) ≡ follow [] q
unfolding follow exactly
follow_exactly [] [] q h = refl
follow_exactly [] (b ∷ p) q h = absurd (false≢true h)
follow_exactly (r ∷ rs) [] q h = absurd (false≢true h)
follow_exactly (r ∷ rs) (b ∷ p) q h = let k = both (has r b) (exactly rs p) h in rw k.0 (follow_exactly rs p q k.1)

-- a character in front changes nothing
pub char_first : (p q : List ℕ) → is_char p ≡ true → well_formed (p ++ q) ≡ well_formed q
unfolding well_formed is_char follow
char_first [] q h = absurd (false≢true h)
char_first (b ∷ p) q h = let k = both (begins table b) (exactly (behind table b) p) h in rw k.0 (follow_exactly (behind table b) p q k.1)

-- ---- its bytes may stand in a name where the first one may

high_byte : (b : ℕ) → 128 ≤ b → b ≤ 255 → name_byte b ≡ true
unfolding name_byte within
high_byte b l h = or_right (plain_byte b) _ (rw (le-leb 128 b l) (le-leb b 255 h))

others_high : List Range → Bool
others_high [] = true
others_high (r ∷ rs) = leb 128 r.low && (leb r.high 255 && others_high rs)

every_high : List (List Range) → Bool
every_high [] = true
every_high (w ∷ ws) = others_high (others w) && every_high ws

behind_high : (ws : List (List Range)) (b : ℕ) → every_high ws ≡ true → others_high (behind ws b) ≡ true
unfolding behind every_high others_high
behind_high [] b h = refl
behind_high (w ∷ ws) b h = let k = both (others_high (others w)) (every_high ws) h in go (opens w b) k.0 (behind_high ws b k.1)
  where
    go : (t : Bool) → others_high (others w) ≡ true → others_high (behind ws b) ≡ true → others_high (cond t (others w) (behind ws b)) ≡ true
    go true k ih = k
    go false k ih = ih

table_high : every_high table ≡ true
unfolding every_high others_high others table to tail
table_high = refl

high_bytes : (rs : List Range) (p : List ℕ) → others_high rs ≡ true → exactly rs p ≡ true → every_byte p ≡ true
unfolding others_high exactly every_byte has
high_bytes [] [] h e = refl
high_bytes [] (b ∷ p) h e = absurd (false≢true e)
high_bytes (r ∷ rs) [] h e = absurd (false≢true e)
high_bytes (r ∷ rs) (b ∷ p) h e =
    let k = both (leb 128 r.low) _ h in
    let m = both (leb r.high 255) (others_high rs) k.1 in
    let f = both (within r.low r.high b) (exactly rs p) e in
    let w = in_within r.low r.high b f.0 in
    rw (high_byte b (omega (arith, leb-true 128 r.low k.0, w.0)) (omega (arith, leb-true r.high 255 m.0, w.1))) (high_bytes rs p m.1 f.1)

pub char_bytes : (b : ℕ) (p : List ℕ) → is_char (b ∷ p) ≡ true → name_byte b ≡ true → every_byte (b ∷ p) ≡ true
unfolding is_char every_byte
char_bytes b p h n =
    rw n (high_bytes (behind table b) p (behind_high table b table_high) (both (begins table b) (exactly (behind table b) p) h).1)

-- ---- by its length

fills_exactly : (rs : List Range) (bs : List ℕ) → fills rs bs ≡ true → (exactly rs (take (length rs) bs) ≡ true) × (length rs ≤ length bs)
unfolding fills exactly
fills_exactly [] bs h = (refl, omega arith)
fills_exactly (r ∷ rs) [] h = absurd (false≢true h)
fills_exactly (r ∷ rs) (b ∷ bs) h =
    let k = both (has r b) (fills rs bs) h in
    let e = fills_exactly rs bs k.1 in
    (rw k.0 e.0, omega (arith, e.1))

-- so many bytes are a character
pub char_taken : (bs : List ℕ) → 0 < char_length bs → (is_char (take (char_length bs) bs) ≡ true) × (char_length bs ≤ length bs)
unfolding char_length is_char
char_taken [] p = absurd (omega arith)
char_taken (b ∷ bs) p = go (begins table b && fills (behind table b) bs) refl p
  where
    go : (t : Bool) → (begins table b && fills (behind table b) bs) ≡ t → 0 < cond t (suc (length (behind table b))) 0
        → (is_char (take (cond t (suc (length (behind table b))) 0) (b ∷ bs)) ≡ true) × (cond t (suc (length (behind table b))) 0 ≤ suc (length bs))
    go true h q =
        let k = both (begins table b) (fills (behind table b) bs) h in
        let e = fills_exactly (behind table b) bs k.1 in
        (rw k.0 e.0, omega (arith, e.1))
    go false h q = absurd (omega arith)

fills_more : (rs : List Range) (p q : List ℕ) → fills rs p ≡ true → fills rs (p ++ q) ≡ true
unfolding fills
fills_more [] p q h = refl
fills_more (r ∷ rs) [] q h = absurd (false≢true h)
fills_more (r ∷ rs) (b ∷ p) q h = let k = both (has r b) (fills rs p) h in rw k.0 (fills_more rs p q k.1)

-- where the bytes begin with no character, none of their beginnings is UTF-8
pub char_missing : (b : ℕ) (p q : List ℕ) → char_length (b ∷ (p ++ q)) ≡ 0 → well_formed (b ∷ p) ≡ false
unfolding char_length well_formed follow
char_missing b p q z = is_false _ λ h.
    let k = both (begins table b) (follow (behind table b) p) h in
    let f = both (fills (behind table b) p) _ (sym (follow_fills (behind table b) p) ∙ k.1) in
    let e : suc (length (behind table b)) ≡ 0 = rw (k.0, fills_more (behind table b) p q f.0) at z in
    omega arith

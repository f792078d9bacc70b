-- A word of bytes, the first of them highest, and the order of names by such words.
use Rattle.std.specs.Prelude.{ℕ, zero, suc, ◌+◌, ◌*◌, ◌^◌, ◌<◌, ◌≤◌, ◌≡◌, refl, true, List, [], ◌∷◌, ◌++◌, ltb, length, get_or, take}
use Rattle.std.proofs.Common.{sym, ap, ◌∙◌, ⊎_elim, arith, le_of_lt, lt-ltb, le-ltb, ltb-true, eq-eqb, ne_eqb, pow_pos, pow-add}
use Rattle.std.proofs.Math.Arith.{digits_lt}
use Rattle.names.specs.Name.{name_byte, every_byte, before}
use Rattle.names.specs.Lines.{byte_range}
use Rattle.names.specs.Tests.{both, agree}
use Rattle.names.specs.Order.{compared}

-- the first k bytes as a number, the first of them highest; 0 in place of each that there is not
unfoldable pub word : ℕ → List ℕ → ℕ
word zero bs = 0
word (suc k) [] = 0
word (suc k) (b ∷ bs) = b * 2 ^ (8 * k) + word k bs

-- a name with the byte that ends it
abbrev pub closed : List ℕ → List ℕ
closed n = n ++ (10 ∷ [])

-- what a name is told by: its first eight bytes, the one that ends it among them
unfoldable pub key_of : List ℕ → ℕ
key_of n = word 8 (closed n)

-- every element is a byte
abbrev pub Octets : List ℕ → Type 0
Octets bs = (i : ℕ) → get_or bs i 0 < 256

-- ---- a word's size, and which bytes it has

pub power_next : (k : ℕ) → 2 ^ (8 * suc k) ≡ 256 * 2 ^ (8 * k)
power_next k = ap (λ (e : ℕ). 2 ^ e) more ∙ pow-add 2 8 (8 * k)
  where
    more : 8 * suc k ≡ 8 + 8 * k
    more = omega arith

pub word_lt : (k : ℕ) (bs : List ℕ) → Octets bs → word k bs < 2 ^ (8 * k)
unfolding word
word_lt zero bs o = omega arith
word_lt (suc k) [] o = pow_pos (8 * suc k)
word_lt (suc k) (b ∷ bs) o = rw power_next (digits_lt (o 0) (word_lt k bs (λ i. o (suc i))))

pub word_none : (k : ℕ) → word k [] ≡ 0
unfolding word
word_none zero = refl
word_none (suc k) = refl

-- bytes behind the first k count for nothing
pub word_take : (k : ℕ) (bs : List ℕ) → word k (take k bs) ≡ word k bs
unfolding word
word_take zero bs = refl
word_take (suc k) [] = refl
word_take (suc k) (b ∷ bs) = rw (word_take k bs)

-- ---- the order of words is that of bytes

-- where the first bytes differ, they decide
word_first : (k x y : ℕ) (xs ys : List ℕ) → x < y → Octets xs → word (suc k) (x ∷ xs) < word (suc k) (y ∷ ys)
unfolding word
word_first k x y xs ys l o = omega (arith, digits_lt l (word_lt k xs o))

ltb_behind : (c u v : ℕ) → ltb (c + u) (c + v) ≡ ltb u v
ltb_behind c u v = agree (ltb (c + u) (c + v)) (ltb u v) (λ h. lt-ltb u v (omega (arith, ltb-true (c + u) (c + v) h))) (λ h. lt-ltb (c + u) (c + v) (omega (arith, ltb-true u v h)))

-- of two texts with first bytes, these decide, or what is behind equal ones does
by_first : (k x y : ℕ) (xs ys us vs : List ℕ) → Octets us → Octets vs → (x ≡ y → before xs ys ≡ ltb (word k us) (word k vs))
    → before (x ∷ xs) (y ∷ ys) ≡ ltb (word (suc k) (x ∷ us)) (word (suc k) (y ∷ vs))
unfolding word before
by_first k x y xs ys us vs ou ov rest =
    ⊎_elim (λ l. rw (lt-ltb x y l) (sym (lt-ltb _ _ (word_first k x y us vs l ou))))
    (⊎_elim (λ e. rw (e, le-ltb y y (omega arith), eq-eqb y y refl, ltb_behind) (rest e))
    (λ l. rw (le-ltb x y (le_of_lt l), ne_eqb x y (λ e. omega arith)) (sym (le-ltb _ _ (le_of_lt (word_first k y x vs us l ov))))))
    (compared x y)

-- words that differ tell the order of two texts
pub word_order : (k : ℕ) (a b : List ℕ) → Octets a → Octets b → (word k a ≡ word k b → ⊥) → before a b ≡ ltb (word k a) (word k b)
unfolding word before
word_order zero a b oa ob d = absurd (d refl)
word_order (suc k) a [] oa ob d = sym (le-ltb (word (suc k) a) 0 (omega arith))
word_order (suc k) [] (y ∷ ys) oa ob d = sym (lt-ltb 0 (word (suc k) (y ∷ ys)) (omega (arith, d)))
word_order (suc k) (x ∷ xs) (y ∷ ys) oa ob d =
    by_first k x y xs ys xs ys (λ i. oa (suc i)) (λ i. ob (suc i)) (λ e. word_order k xs ys (λ i. oa (suc i)) (λ i. ob (suc i)) (λ w. d (rw (e, w))))

-- and words that are equal have the same bytes
pub word_same : (k : ℕ) (a b : List ℕ) → Octets a → Octets b → k ≤ length a → k ≤ length b → word k a ≡ word k b → take k a ≡ take k b
unfolding word
word_same zero a b oa ob la lb e = refl
word_same (suc k) [] b oa ob la lb e = absurd (omega arith)
word_same (suc k) (x ∷ xs) [] oa ob la lb e = absurd (omega arith)
word_same (suc k) (x ∷ xs) (y ∷ ys) oa ob la lb e =
    ⊎_elim (λ l. absurd (omega (arith, word_first k x y xs ys l (λ i. oa (suc i)))))
    (⊎_elim
    (λ s. rw (s, word_same k xs ys (λ i. oa (suc i)) (λ i. ob (suc i)) (omega arith) (omega arith) (omega (arith, rw s at e))))
    (λ l. absurd (omega (arith, word_first k y x ys xs l (λ i. ob (suc i))))))
    (compared x y)

-- ---- the order of keys is that of names

octets_closed : (n : List ℕ) → every_byte n ≡ true → Octets (closed n)
unfolding every_byte
octets_closed [] h zero = omega arith
octets_closed [] h (suc i) = omega arith
octets_closed (b ∷ n) h zero = omega (arith, byte_range b (both (name_byte b) (every_byte n) h).0)
octets_closed (b ∷ n) h (suc i) = octets_closed n (both (name_byte b) (every_byte n) h).1 i

-- names are told apart by their first k bytes, their ends among them, or the second one ends there
closed_order : (k : ℕ) (a b : List ℕ) → every_byte a ≡ true → every_byte b ≡ true → (word k (closed a) ≡ word k (closed b) → length b < k)
    → before a b ≡ ltb (word k (closed a)) (word k (closed b))
unfolding word before every_byte
closed_order zero a b ea eb q = absurd (omega (arith, q refl))
closed_order (suc k) [] [] ea eb q = let e = word (suc k) (10 ∷ []) in sym (le-ltb e e (omega arith))
closed_order (suc k) [] (y ∷ ys) ea eb q =
    sym (lt-ltb _ _ (word_first k 10 y [] (closed ys) (omega (arith, byte_range y (both (name_byte y) (every_byte ys) eb).0)) (λ i. omega arith)))
closed_order (suc k) (x ∷ xs) [] ea eb q =
    sym (le-ltb _ _ (le_of_lt (word_first k 10 x [] (closed xs) (omega (arith, byte_range x (both (name_byte x) (every_byte xs) ea).0)) (λ i. omega arith))))
closed_order (suc k) (x ∷ xs) (y ∷ ys) ea eb q =
    let ha = (both (name_byte x) (every_byte xs) ea).1 in
    let hb = (both (name_byte y) (every_byte ys) eb).1 in
    by_first k x y xs ys (closed xs) (closed ys) (octets_closed xs ha) (octets_closed ys hb) (λ e. closed_order k xs ys ha hb (λ w. omega (arith, q (rw (e, w)))))

-- keys that differ tell the order of two names, and so do any where the second name is short
pub key_order : (a b : List ℕ) → every_byte a ≡ true → every_byte b ≡ true → (key_of a ≡ key_of b → length b < 8) → before a b ≡ ltb (key_of a) (key_of b)
unfolding key_of
key_order = closed_order 8

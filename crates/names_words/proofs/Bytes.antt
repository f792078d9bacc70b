-- A word cut behind some of its bytes.
use Prim.Native.Nat.{ℕ, zero, suc, ◌+◌, ◌-◌, ◌*◌, ◌/◌, ◌%◌, ◌^◌, ◌<◌}
use mathlib.Core.Path.{◌≡◌, sym, ap, ◌∙◌}
use mathlib.Core.List.{List, [], ◌∷◌}
use native.Mathlib.Nat.{mul_assoc, add_comm, add-mul, add-mul-div_right, div-eq_of_lt, zero-div, mod-eq_of_lt}
use native.Mathlib.Omega.{arith}
use lib.Pow.{pow_pos, pow-add}
use lib.ListN.{take}
use Rattle.names_words.specs.Word.{word, Octets, word_lt, word_none}

-- a word of which k bytes are cleared
pub word_cut : (m j k : ℕ) (bs : List ℕ) → m ≡ j + k → Octets bs → word m bs / 2 ^ (8 * k) * 2 ^ (8 * k) ≡ word m (take j bs)
unfolding word
word_cut zero j k bs e o = rw (zero-div (2 ^ (8 * k))) (omega arith)
word_cut (suc m) zero k bs e o =
    let e' : suc m ≡ k = omega arith in
    rw (word_none (suc m), ← e', div-eq_of_lt (word_lt (suc m) bs o)) (omega arith)
word_cut (suc m) (suc j) k [] e o = rw (zero-div (2 ^ (8 * k))) (omega arith)
word_cut (suc m) (suc j) k (b ∷ bs) e o =
    ap (λ (x : ℕ). x / p * p) shifted ∙ ap (λ (x : ℕ). x * p) (add-mul-div_right (word m bs) q (pow_pos (8 * k)))
    ∙ add-mul (word m bs / p) q p ∙ rw (word_cut m j k bs (omega arith) (λ i. o (suc i))) (add_comm (word m (take j bs)) (q * p) ∙ ap (λ (x : ℕ). x + word m (take j bs)) (sym split))
  where
    p : ℕ
    p = 2 ^ (8 * k)

    q : ℕ
    q = b * 2 ^ (8 * j)

    sum : 8 * m ≡ 8 * j + 8 * k
    sum = omega arith

    split : b * 2 ^ (8 * m) ≡ q * p
    split = rw (sum, pow-add) (sym (mul_assoc b (2 ^ (8 * j)) (2 ^ (8 * k))))

    shifted : b * 2 ^ (8 * m) + word m bs ≡ word m bs + q * p
    shifted = ap (λ (x : ℕ). x + word m bs) split ∙ add_comm (q * p) (word m bs)

-- a part of bytes has bytes alone
pub octets_take : (j : ℕ) (bs : List ℕ) → Octets bs → Octets (take j bs)
octets_take zero bs o i = omega arith
octets_take (suc j) [] o i = omega arith
octets_take (suc j) (b ∷ bs) o zero = o 0
octets_take (suc j) (b ∷ bs) o (suc i) = octets_take j bs (λ x. o (suc x)) i

-- the key that the code makes of the first n bytes and the one behind them
pub key_cut : (n w : ℕ) (bs : List ℕ) → n < 8 → Octets bs → w ≡ word 8 bs → w / 2 ^ (8 * (7 - n)) * 2 ^ (8 * (7 - n)) % 2 ^ 64 ≡ word 8 (take (n + 1) bs)
key_cut n w bs l o e =
    rw (e, word_cut 8 (n + 1) (7 - n) bs (omega arith) o) (mod-eq_of_lt (word_lt 8 (take (n + 1) bs) (octets_take (n + 1) bs o)))

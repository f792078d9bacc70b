-- Words read one behind the other.
use Prim.Native.Nat.{ℕ, zero, suc, ◌+◌, ◌*◌, ◌-◌, ◌<◌}
use mathlib.Core.Path.{◌≡◌, refl, sym, ap, ◌∙◌}
use mathlib.Core.List.{List, [], ◌∷◌, ◌++◌}
use native.Mathlib.Numerals.{add-one}
use native.Mathlib.Omega.{arith}
use lib.Seq.{drop-drop, take-suc-set, take_all}
use lib.ListN.{length, take, drop, set, length-drop}
use Rattle.lines.specs.Shown.{word, words}

-- a word more
words_more : (n : ℕ) (bs : List ℕ) → words (suc n) bs ≡ words n bs ++ (word (drop (8 * n) bs) ∷ [])
unfolding words
words_more zero bs = refl
words_more (suc n) bs =
    let k : 8 + 8 * n ≡ 8 * suc n = omega arith in
    ap (λ (r : List ℕ). word bs ∷ r)
    (words_more n (drop 8 bs)
    ∙ ap (λ (d : List ℕ). words n (drop 8 bs) ++ (word d ∷ [])) (drop-drop (8 * n) 8 bs ∙ ap (λ (j : ℕ). drop j bs) k))

-- the rest of a list, as it is lent
pub rest_is : (bs : List ℕ) (k : ℕ) → take (length bs - k) (drop k bs) ≡ drop k bs
rest_is bs k = take_all (length bs - k) (drop k bs) (omega (arith, length-drop k bs))

-- the book with one word more
pub word_put : (bs book : List ℕ) (i v : ℕ) → i < length book → take i book ≡ words i bs → v ≡ word (take (length bs - 8 * i) (drop (8 * i) bs))
    → take (i + 1) (set book i v) ≡ words (i + 1) bs
word_put bs book i v h e w =
    rw (add-one i)
    (take-suc-set book i v h
    ∙ ap (λ (r : List ℕ). r ++ (v ∷ [])) e
    ∙ ap (λ (x : ℕ). words i bs ++ (x ∷ [])) (w ∙ ap (λ (d : List ℕ). word d) (rest_is bs (8 * i)))
    ∙ sym (words_more i bs))

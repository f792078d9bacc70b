-- The slice of a book and the limits that it keeps. That a slice decodes to a book exactly when it is this stands in proofs/AgreeInput.
use Rattle.std.specs.Prelude.{ℕ, suc, ◌≤◌, ◌≡◌, refl, List, [], ◌∷◌, ◌++◌, length}
use Rattle.std.proofs.Common.{ap, arith}
use Rattle.book.specs.Entry.{Entry, entries, kinds_of, words_of}
use Rattle.book.specs.Encode.{encode}
use Rattle.book.specs.Limits.{Limits}
use Rattle.book.specs.Input.{Counted}

-- "entry count N .., name count .., N kinds, N words, nothing after"
unfoldable pub slice : Counted → List ℕ
slice c = length (encode c.book) ∷ c.count ∷ (kinds_of (encode c.book) ++ words_of (encode c.book))

pub record SliceLimits (c : Counted) : Type 0 where
  pub entries : length (encode c.book) ≤ 1048576
  pub names : c.count ≤ 131072
  pub book : Limits c.count c.book

-- ---- kinds and words apart
pub kinds_back : (ks ws : List ℕ) → length ks ≡ length ws → kinds_of (entries ks ws) ≡ ks
unfolding entries kinds_of
kinds_back [] ws h = refl
kinds_back (k ∷ ks) [] h = absurd (omega arith)
kinds_back (k ∷ ks) (w ∷ ws) h = ap (λ r. k ∷ r) (kinds_back ks ws (omega arith))

pub words_back : (ks ws : List ℕ) → length ks ≡ length ws → words_of (entries ks ws) ≡ ws
unfolding entries words_of
words_back [] [] h = refl
words_back [] (w ∷ ws) h = absurd (omega arith)
words_back (k ∷ ks) [] h = absurd (omega arith)
words_back (k ∷ ks) (w ∷ ws) h = ap (λ r. w ∷ r) (words_back ks ws (omega arith))

pub length_back : (ks ws : List ℕ) → length ks ≡ length ws → length (entries ks ws) ≡ length ks
unfolding entries
length_back [] ws h = refl
length_back (k ∷ ks) [] h = absurd (omega arith)
length_back (k ∷ ks) (w ∷ ws) h = ap suc (length_back ks ws (omega arith))

pub entries_back : (es : List Entry) → entries (kinds_of es) (words_of es) ≡ es
unfolding entries kinds_of words_of
entries_back [] = refl
entries_back (e ∷ es) = ap (λ r. e ∷ r) (entries_back es)

pub length_kinds : (es : List Entry) → length (kinds_of es) ≡ length es
unfolding kinds_of
length_kinds [] = refl
length_kinds (e ∷ es) = ap suc (length_kinds es)

pub length_words : (es : List Entry) → length (words_of es) ≡ length es
unfolding words_of
length_words [] = refl
length_words (e ∷ es) = ap suc (length_words es)

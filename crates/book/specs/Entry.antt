-- "The book": an entry is a kind and a word; the book lists all kinds, then all words.
use Rattle.std.specs.Prelude.{ℕ, List, [], ◌∷◌}

pub record Entry : Type 0 where
  pub kind : ℕ
  pub word : ℕ

abbrev pub entry : ℕ → ℕ → Entry
entry k w = record { kind = k; word = w }

-- the entries of equally many kinds and words
unfoldable pub entries : List ℕ → List ℕ → List Entry
entries [] ws = []
entries (k ∷ ks) [] = []
entries (k ∷ ks) (w ∷ ws) = entry k w ∷ entries ks ws

unfoldable pub kinds_of : List Entry → List ℕ
kinds_of [] = []
kinds_of (e ∷ es) = e.kind ∷ kinds_of es

unfoldable pub words_of : List Entry → List ℕ
words_of [] = []
words_of (e ∷ es) = e.word ∷ words_of es

-- What ends a line.
use Rattle.std.specs.Prelude.{ℕ, Bool, ◌&&◌, ◌||◌, List, [], ◌∷◌, ◌++◌, leb}
use Rattle.numbers.specs.Digits.{decimal}
use Rattle.names.specs.Text.{bytes}
use Rattle.print_pen.specs.Pen.{pick_bytes}
use Rattle.print_words.specs.Words.{ended}

-- whether the line is a label
unfoldable pub is_label : ℕ → Bool
is_label k = (leb 1 k && leb k 2) || (leb 13 k && leb k 16)

-- `:` or `;`, and byte 10
unfoldable pub ending : ℕ → List ℕ
ending k = pick_bytes (is_label k) (58 ∷ 10 ∷ []) (59 ∷ 10 ∷ [])

-- what ends a comment: how many parameters there are
unfoldable pub params_text : ℕ → List ℕ
params_text n = bytes "(" ++ (decimal n ++ ended " params)")

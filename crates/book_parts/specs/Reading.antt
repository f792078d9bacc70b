-- What a pass over a book's entries finds: items that each change a state or are refused, then an end.
use Rattle.std.specs.Prelude.{ℕ, Bool, true, false, ◌&&◌, ◌||◌, List, [], ◌∷◌, replicate, leb, ltb}
use Rattle.std.proofs.Math.Option.{Option, none, some}
use Rattle.numbers.specs.Bits.{bit_at, set_bit_at}
use Rattle.book.specs.Ast.{Mark, StructType, Function}
use Rattle.book.specs.Rule.{when}
use Rattle.book.specs.Read.{Read, got, bad}
use Rattle.book.specs.Decode.{mark_name}
use Rattle.book.specs.Forbidden.{forbidden_function}
use Rattle.book_marks.specs.Once.{is_new}
use Rattle.book_types.specs.Found.{found}
use Rattle.book_types.specs.declared.Found.{Found}
use Rattle.std.specs.Prelude as code
use Rattle.std.specs.Prelude.{Some, None}

abbrev pub goes : {A B : Type 0} → Option A → (A → Option B) → Option B
goes none k = none
goes (some a) k = k a

-- so many entries, forbidden or not, or refused
abbrev pub answered : ℕ → Option Bool → code.Option Found
answered n none = None
answered n (some f) = Some (found n f)

unfoldable pub folded : {S A : Type 0} → (S → A → Option S) → S → List A → Option S
folded taken s [] = some s
folded taken s (a ∷ as') = goes (taken s a) (λ t. folded taken t as')

abbrev pub end_found : {S B : Type 0} → (S → B → Option Bool) → S → Read B → code.Option Found
end_found ended s (got b n) = answered n (ended s b)
end_found ended s bad = None

abbrev pub all_found : {S A B : Type 0} → (S → A → Option S) → (S → B → Option Bool) → S → Read (List A × B) → code.Option Found
all_found taken ended s (got r n) = answered n (goes (folded taken s r.0) (λ t. ended t r.1))
all_found taken ended s bad = None

-- ---- functions: the state is the map of the names that occurred, whether there was one, and whether something in them is forbidden
module _ (barred : List ℕ) where
  abbrev pub function_taken : List ℕ × (Bool × Bool) → Function → Option (List ℕ × (Bool × Bool))
  function_taken s f = when (is_new s.0 f.name) (set_bit_at s.0 f.name, (true, s.1.1 || forbidden_function (bit_at barred) f))

  -- "one or more"
  abbrev pub functions_closed : List ℕ × (Bool × Bool) → Unit {0} → Option Bool
  functions_closed s u = when s.1.0 s.1.1

  abbrev pub functions_ended : List ℕ → List Function → Option Bool
  functions_ended defined fs = goes (folded function_taken (defined, (false, false)) fs) (λ s. functions_closed s tt)

  abbrev pub functions_found : List ℕ → Read (List Function) → code.Option Found
  functions_found = end_found functions_ended

-- ---- named structs: the state is the map of the names that occurred
abbrev pub struct_taken : List ℕ → StructType → Option (List ℕ)
struct_taken named s = when (is_new named s.name) (set_bit_at named s.name)

module _ (barred defined : List ℕ) where
  abbrev pub structs_closed : List ℕ → List Function → Option Bool
  structs_closed named fs = functions_ended barred defined fs

  abbrev pub named_found : List ℕ → Read (List StructType × List Function) → code.Option Found
  named_found = all_found struct_taken structs_closed

-- ---- marks: the state is the map of the marked names, and that of the names that may not be called
abbrev pub now_barred : Mark → List ℕ → List ℕ
now_barred (Mark.defined x) barred = barred
now_barred (Mark.reserved x) barred = set_bit_at barred x

abbrev pub marked_by : List ℕ × List ℕ → Mark → Option (List ℕ × List ℕ)
marked_by s k = when (is_new s.0 (mark_name k)) (set_bit_at s.0 (mark_name k), now_barred k s.1)

module _ (named defined : List ℕ) where
  abbrev pub structs_ended : List ℕ × List ℕ → List StructType × List Function → Option Bool
  structs_ended s r = goes (folded struct_taken named r.0) (λ t. structs_closed s.1 defined t r.1)

  abbrev pub marks_found : List ℕ → List ℕ → Read (List Mark × (List StructType × List Function)) → code.Option Found
  marks_found marked barred = all_found marked_by structs_ended (marked, barred)

-- no name is marked at first; maps have a bit for each of 131,072 names
abbrev pub parts_found : List ℕ → Read (List Mark × (List StructType × List Function)) → code.Option Found
parts_found barred = marks_found (replicate 2048 0) (replicate 2048 0) (replicate 2048 0) barred

-- whether the entry is a name's first mark
abbrev pub mark_taken : ℕ → List ℕ → ℕ → ℕ → Bool
mark_taken m marked k w = (leb 1 k && leb k 2) && (ltb w m && is_new marked w)

-- Worked examples, by computation.
use Rattle.std.specs.Prelude.{ℕ, ◌≡◌, refl, true, false, List, [], ◌∷◌, ◌++◌}
use Prim.Native.String.{String}
use Rattle.std.proofs.Math.Option.{none, some}
use Rattle.names.specs.Text.{bytes, open_text}
use Rattle.names.specs.Name.{names_of, accepted, join, name_from, start_of, open_name}
use Rattle.names.specs.Spelling.{sanitize, is_intrinsic, is_syscall, has_overflow, is_bcmp, is_memcmp, open_spelling}
use Rattle.names.specs.Prefix.{first_with, past_with, open_prefix}
use Rattle.names.specs.Compare.{Order, order, steps, open_compare}

unfoldable pub texts : List String → List (List ℕ)
texts [] = []
texts (t ∷ ts) = bytes t ∷ texts ts

unfoldable pub given : List String → List ℕ
given ts = join (texts ts)

unfoldable pub open_cases : Unit {0}
unfolding open_text open_name open_spelling open_prefix open_compare texts given
open_cases = tt

empty_slice : names_of [] ≡ some []
unfolding open_cases
empty_slice = refl

-- document 01's example of a 2
descending : names_of (given ("b" ∷ "a" ∷ [])) ≡ none
unfolding open_cases
descending = refl

repeated : names_of (given ("a" ∷ "a" ∷ [])) ≡ none
unfolding open_cases
repeated = refl

longer_last : names_of (given ("a" ∷ "ab" ∷ "b" ∷ [])) ≡ some (texts ("a" ∷ "ab" ∷ "b" ∷ []))
unfolding open_cases
longer_last = refl

longer_first : names_of (given ("ab" ∷ "a" ∷ [])) ≡ none
unfolding open_cases
longer_first = refl

empty_name : names_of (given ("" ∷ "a" ∷ [])) ≡ none
unfolding open_cases
empty_name = refl

unended : names_of (given ("a" ∷ []) ++ bytes "b") ≡ none
unfolding open_cases
unended = refl

byte_31 : names_of (31 ∷ 10 ∷ []) ≡ none
unfolding open_cases
byte_31 = refl

byte_32 : names_of (32 ∷ 10 ∷ []) ≡ some ((32 ∷ []) ∷ [])
unfolding open_cases
byte_32 = refl

byte_126 : names_of (126 ∷ 10 ∷ []) ≡ some ((126 ∷ []) ∷ [])
unfolding open_cases
byte_126 = refl

byte_127 : names_of (127 ∷ 10 ∷ []) ≡ none
unfolding open_cases
byte_127 = refl

counted : accepted (given ("a" ∷ "ab" ∷ [])) 2 ≡ true
unfolding open_cases
counted = refl

miscounted : accepted (given ("a" ∷ "ab" ∷ [])) 3 ≡ false
unfolding open_cases
miscounted = refl

third_name : name_from (given ("a" ∷ "ab" ∷ "b.c" ∷ [])) (start_of (texts ("a" ∷ "ab" ∷ "b.c" ∷ [])) 2) ≡ bytes "b.c"
unfolding open_cases
third_name = refl

label : sanitize (bytes "a.b-1_Z") ≡ bytes "a_b_1_Z"
unfolding open_cases
label = refl

intrinsic : is_intrinsic (bytes "llvm.trap") ≡ true
unfolding open_cases
intrinsic = refl

no_intrinsic : is_intrinsic (bytes "llvm") ≡ false
unfolding open_cases
no_intrinsic = refl

syscall : is_syscall (bytes "__uvm_print") ≡ true
unfolding open_cases
syscall = refl

overflow : has_overflow (bytes "llvm.umul.with.overflow.i64") ≡ true
unfolding open_cases
overflow = refl

no_overflow : has_overflow (bytes "with.overflow.") ≡ false
unfolding open_cases
no_overflow = refl

byte_compare : is_bcmp (bytes "bcmp") ≡ true
unfolding open_cases
byte_compare = refl

no_byte_compare : is_memcmp (bytes "memcmp2") ≡ false
unfolding open_cases
no_byte_compare = refl

-- the names that start with `llvm.` are those numbered 1 and 2
range_first : first_with (bytes "llvm.") (texts ("a" ∷ "llvm.a" ∷ "llvm.b" ∷ "z" ∷ [])) ≡ 1
unfolding open_cases
range_first = refl

range_past : past_with (bytes "llvm.") (texts ("a" ∷ "llvm.a" ∷ "llvm.b" ∷ "z" ∷ [])) ≡ 3
unfolding open_cases
range_past = refl

-- a text and a longer one that it begins: one word, no byte pair
order_shorter : order (bytes "arrayidx") (bytes "arrayidx12") ≡ Order.less
unfolding open_cases
order_shorter = refl

steps_shorter : steps (bytes "arrayidx") (bytes "arrayidx12") ≡ 1
unfolding open_cases
steps_shorter = refl

-- the second word differs, in its first byte
order_second_word : order (bytes "arrayidxcopycopy") (bytes "arrayidxbodybody") ≡ Order.greater
unfolding open_cases
order_second_word = refl

steps_second_word : steps (bytes "arrayidxcopycopy") (bytes "arrayidxbodybody") ≡ 2
unfolding open_cases
steps_second_word = refl

-- the same with seven bytes in the second place: a word, and a byte pair
steps_behind_words : steps (bytes "arrayidxcopycop") (bytes "arrayidxbodybody") ≡ 2
unfolding open_cases
steps_behind_words = refl

-- as many as there may be: 15 / 8 + 7
order_equal : order (bytes "arrayidxcopycop") (bytes "arrayidxcopycop") ≡ Order.equal
unfolding open_cases
order_equal = refl

steps_equal : steps (bytes "arrayidxcopycop") (bytes "arrayidxcopycop") ≡ 8
unfolding open_cases
steps_equal = refl

steps_none : steps [] (bytes "a") ≡ 0
unfolding open_cases
steps_none = refl

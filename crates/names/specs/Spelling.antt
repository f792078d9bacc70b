-- What the translation reads off a name's spelling, after codegen.rs, and the spelling of a label (document 01, "Lowering that is
-- easily bent": "`sanitize` gives one `_` for each other character"; document 02, card 6: "A character outside ASCII prints [..] elsewhere
-- as one underscore").
use Rattle.std.specs.Prelude.{ℕ, Bool, ◌||◌, cond, List, [], ◌∷◌, eqb}
use Rattle.names.specs.Text.{bytes, within, same, starts, contains}
use Rattle.names.specs.Utf8.{is_tail, open_utf8}

-- a digit, an ASCII letter or `_`
unfoldable pub word_byte : ℕ → Bool
word_byte b = within 48 57 b || within 65 90 b || within 97 122 b || eqb b 95

-- a character of a label
unfoldable pub clean_byte : ℕ → ℕ
clean_byte b = cond (word_byte b) b 95

-- a name as a label spells it: of a character outside ASCII the first byte gives the `_`, the others give nothing
unfoldable pub sanitize : List ℕ → List ℕ
sanitize [] = []
sanitize (b ∷ bs) = cond (is_tail b) (sanitize bs) (clean_byte b ∷ sanitize bs)

-- document 01, refusal 3: "callee starting `llvm.`"
unfoldable pub is_intrinsic : List ℕ → Bool
is_intrinsic n = starts (bytes "llvm.") n

-- "The two runs": "`__uvm_` names without the prefix" are listed as syscalls
unfoldable pub is_syscall : List ℕ → Bool
is_syscall n = starts (bytes "__uvm_") n

-- "Lowering that is easily bent": "a call of a global containing `.with.overflow.`" takes two slots
unfoldable pub has_overflow : List ℕ → Bool
has_overflow n = contains (bytes ".with.overflow.") n

-- "The two runs": "bcmp and memcmp are listed as syscall memcmp"
unfoldable pub is_bcmp : List ℕ → Bool
is_bcmp n = same n (bytes "bcmp")

unfoldable pub is_memcmp : List ℕ → Bool
is_memcmp n = same n (bytes "memcmp")

-- opens every definition of this file, for an example that computes
unfoldable pub open_spelling : Unit {0}
unfolding open_utf8 word_byte clean_byte sanitize is_intrinsic is_syscall has_overflow is_bcmp is_memcmp
open_spelling = tt

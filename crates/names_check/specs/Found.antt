-- A name and the one before it, by where their bytes stand.
use Rattle.std.specs.Prelude.{ℕ, ◌+◌, ◌-◌, ◌<◌, ◌≤◌, ◌≡◌, true, false, Some, None, List, length, get_or, take, drop}
use Rattle.std.specs.declared.option.Option.{Option}
use Rattle.names.specs.Name.{every_byte, spelled, before, name_from}
use Rattle.names_words.specs.Word.{key_of}
use Rattle.names_check.specs.declared.Next.{Next}

-- the bytes from one place up to another
abbrev pub part : List ℕ → ℕ → ℕ → List ℕ
part names at end = take (end - at) (drop at names)

-- the bytes from `at` up to `end` are characters that may stand in a name, so that those behind them decide
pub record Through (names : List ℕ) (at end : ℕ) : Type 0 where
  pub starts : at ≤ end
  pub ends : end ≤ length names
  pub bytes : every_byte (part names at end) ≡ true
  pub rest : spelled (name_from names at) ≡ spelled (name_from names end)

-- and at `end` the name ends, or what is left of the line is no name. Of a line that is no name `end` is not fixed further: whatever it is, the list is
-- refused there
pub record Spelled (names : List ℕ) (at end : ℕ) : Type 0 where
  pub through : Through names at end
  pub stuck : end < length names → (get_or names end 0 ≡ 10 → ⊥) → spelled (name_from names end) ≡ false

-- what is known of the name that stands from `last` to `end`: it is one, and its key, where there are eight bytes from `at` on
pub record Kept (names : List ℕ) (last end key at : ℕ) : Type 0 where
  pub starts : last ≤ end
  pub ends : end ≤ length names
  pub bytes : every_byte (part names last end) ≡ true
  pub keyed : at + 8 ≤ length names → key ≡ key_of (part names last end)

-- the name at `at`, which comes after the last one, and what is known of it
pub record Named (names : List ℕ) (last last_end at end key : ℕ) : Type 0 where
  pub reached : Spelled names at end
  pub inside : end < length names
  pub ended : get_or names end 0 ≡ 10
  pub ordered : before (part names last last_end) (part names at end) ≡ true
  pub kept : Kept names at end key (end + 1)

-- the characters at `at` that may stand in a name are none that comes after the last one
pub record Unnamed (names : List ℕ) (last last_end at : ℕ) : Type 0 where
  pub end : ℕ
  pub reached : Spelled names at end
  pub unordered : end < length names → get_or names end 0 ≡ 10 → before (part names last last_end) (part names at end) ≡ false

-- which of the two it is
abbrev pub Found : List ℕ → ℕ → ℕ → ℕ → Option Next → Type 0
Found names last last_end at (Some next) = Named names last last_end at next.end next.key
Found names last last_end at None = Unnamed names last last_end at

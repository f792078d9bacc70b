-- Whether the lines that a pass has counted fit two slices: "the shorter line slice counts".
use Rattle.std.specs.Prelude.{ℕ, min, ◌<◌, ◌≤◌, ◌≡◌, ◌⊎◌, Result, Ok, Err}
use Rattle.gen_lines.specs.declared.Reached.{Reached}

-- the pass's own refusal, or 20, or so many lines
abbrev pub FitOf : (s : Reached) (lines operands : ℕ) → Result ℕ ℕ → Type 0
FitOf s lines operands (Err e) = ((s.refused ≡ 0 → ⊥) × (e ≡ s.refused)) ⊎ ((s.refused ≡ 0) × ((min lines operands < s.at) × (e ≡ 20)))
FitOf s lines operands (Ok n) = (s.refused ≡ 0) × ((n ≡ s.at) × (n ≤ min lines operands))

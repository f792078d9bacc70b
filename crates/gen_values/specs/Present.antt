-- Numbers of which 0 stands for none, as the code answers them; widths among them.
use Rattle.std.specs.Prelude.{◌≡◌, ◌≢◌, ℕ, Option, None, Some, MatchOption, unwrap_or}
use Rattle.std.proofs.Common.{sym, ◌∙◌, subst, arith}
use Rattle.book.specs.Result.{Result, ok, err}
use Rattle.gen_lines.specs.declared.Reached.{Reached}
use Rattle.gen_lines.specs.Puts.{made_refused}
use Rattle.gen_lines.specs.Follow.{Asked, asked_ok, asked_err}
use Rattle.gen_values.specs.Fields.{WidthSays}

-- none for 0
abbrev pub Present : ℕ → Option ℕ → Type 0
Present w r = MatchOption r (w ≡ 0) (λ n. (n ≡ w) × (n ≢ 0))

pub width_or_0 : {w : ℕ} (r : Option ℕ) → Present w r → unwrap_or r 0 ≡ w
width_or_0 None h = sym h
width_or_0 (Some n) h = h.0

-- what the entry says is asked for
pub says_width : (r : Result ℕ) (s : Reached) {w x : ℕ} → x ≡ w → (x ≢ 0) → WidthSays w r → Asked r s s x
says_width (ok v) s {w} {x} e z says = subst (λ (y : ℕ). Asked (ok y) s s x) (e ∙ says.0) (asked_ok s x)
says_width (err n) s e z says = absurd (z (e ∙ says.0))

-- a refusal where it says that there is none
pub says_none : (r : Result ℕ) (s : Reached) {t : Reached} {w : ℕ} → w ≡ 0 → WidthSays w r → t ≡ made_refused s 9 → Asked {A = ℕ} r s t 0
says_none (ok v) s e says h = absurd (says.1 (sym says.0 ∙ e))
says_none (err n) s {t} e says h = subst (λ (y : ℕ). Asked {A = ℕ} (err y) s t 0) (sym says.1) (asked_err 9 (omega arith) s 0 h)

-- The width that a `freeze` pushes its value at.
use Rattle.std.specs.Prelude.{◌≡◌, ℕ, ◌*◌, Option, None, Some, unwrap_or}
use Rattle.std.proofs.Math.Path.{refl}
use Rattle.std.proofs.Common.{sym, ◌∙◌}
use Rattle.book.specs.Ast.{Ty}
use Rattle.book.specs.Result.{Result, ok, err}
use Rattle.lowering.specs.Operand.{int_width}
use Rattle.lowering.specs.Arith.{width_or}
use Rattle.gen_values.specs.Fields.{WidthSays}
use Rattle.gen_values.specs.Present.{Present}

pub width_from : (t : Ty) (n w : ℕ) (o : Option ℕ) → Present w o → WidthSays w (int_width t) → unwrap_or o (n * 8) ≡ width_or (int_width t) n
unfolding width_or
width_from t n w None h = at (int_width t)
  where
    at : (r : Result ℕ) → WidthSays w r → n * 8 ≡ width_or r n
    at (ok v) q = absurd (q.1 (sym q.0 ∙ h))
    at (err e) q = refl
width_from t n w (Some x) h = at (int_width t)
  where
    at : (r : Result ℕ) → WidthSays w r → x ≡ width_or r n
    at (ok v) q = h.0 ∙ q.0
    at (err e) q = absurd (h.1 (h.0 ∙ q.0))

-- `name_byte` meets its contract: a byte from 128 on is one up to 255.
use Prim.Native.Nat.{ℕ, ◌<◌}
use mathlib.Core.Path.{◌≡◌, ap, ◌∙◌}
use mathlib.Core.Bool.{not}
use native.Mathlib.Omega.{arith}
use borrow.Author.Tests.{le-leb, lt-leb}
use Rattle.std.specs.Char.{is_ascii_control}
use Rattle.names.specs.Text.{within}
use Rattle.names.specs.Name.{plain_byte, name_byte}
use Rattle.names_check.proofs.name_byte.Goals as goal

no_control : (b : ℕ) → b < 256 → not (is_ascii_control b) ≡ name_byte b
unfolding name_byte plain_byte within
no_control b h = grind (arith, le-leb, lt-leb)

pub returns : goal.returns
returns c = ap not c.is_ascii_control.ensures.value ∙ no_control c.args.b (omega arith)

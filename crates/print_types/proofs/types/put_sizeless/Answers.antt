-- `put_sizeless` meets its contract by the kind.
use Rattle.std.proofs.Common.{◌≡◌, arith}
use borrow.Author.Tests.{ne_eqb}
use Rattle.names.specs.Text.{bytes}
use Rattle.print_pen.specs.Pen.{put_same}
use Rattle.print_types.specs.Types.{sizeless_text}
use Rattle.print_types.proofs.types.put_sizeless.Goals as goal

pub returns-in-18 : goal.returns-in-18
unfolding sizeless_text bytes
returns-in-18 c = put_same (rw c.in-18.is) c.put_bytes.ensures

pub returns-in-19 : goal.returns-in-19
unfolding sizeless_text bytes
returns-in-19 c = put_same (rw c.in-19.is) c.put_bytes-in-19.ensures

pub returns-in_default : goal.returns-in_default
unfolding sizeless_text bytes
returns-in_default c =
    let fn : c.args.kind ≡ 18 → ⊥ = λ e. omega arith in
    let label : c.args.kind ≡ 19 → ⊥ = λ e. omega arith in
    put_same (rw (ne_eqb _ 18 fn, ne_eqb _ 19 label)) c.put_bytes-in_default.ensures

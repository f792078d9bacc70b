-- `weigh_number` meets its contract by its tests.
use mathlib.Core.Path.{sym, ◌∙◌}
use native.Mathlib.Omega.{arith}
use Rattle.print_forms.specs.Kinds.{known_form}
use Rattle.print_lines.specs.Weigh.{bytes_are, short_alone, barred_is}
use Rattle.print_lines.proofs.weigh.weigh_number.Goals as goal

pub returns-then-not-number_allowed : goal.returns-then-not-number_allowed
returns-then-not-number_allowed c =
    λ m f a b. barred_is _ _ _ (sym (c.number_allowed.ensures m f a b) ∙ c.if-not-number_allowed.true)

pub plain_len-more-requires-clause-kind_bound : goal.plain_len-more-requires-clause-kind_bound
plain_len-more-requires-clause-kind_bound c =
    known_form _ c.args.x 0 0 0 0 (sym (c.number_allowed.ensures 0 0 0 0) ∙ c.if-not-number_allowed.false)

pub returns-then-room-n : goal.returns-then-room-n
returns-then-room-n c =
    λ m f a b.
    short_alone _ _ _ (sym (c.number_allowed.ensures m f a b) ∙ c.if-not-number_allowed.false) (omega (arith, c.if-room-n.true, c.plain_len-more.ensures))

pub returns : goal.returns
returns c =
    let size = c.plain_len-more.ensures in
    λ m f a b.
    rw size
    (bytes_are _ _ _ (sym (c.number_allowed.ensures m f a b) ∙ c.if-not-number_allowed.false) (omega (arith, c.if-room-n.false, size, c.requires.n_le_room)))

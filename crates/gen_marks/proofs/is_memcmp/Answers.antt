-- `gen_marks::is_memcmp` meets its contract: a text of another length is not the name.
use mathlib.Core.Path.{◌∙◌}
use Rattle.names.specs.Text.{bytes}
use Rattle.gen_marks.proofs.Scan.{memcmp_four, memcmp_six, memcmp_other}
use Rattle.gen_marks.proofs.is_memcmp.Goals as goal

pub returns-then-long-eq4 : goal.returns-then-long-eq4
unfolding bytes
returns-then-long-eq4 c =
    c.name_starts.ensures ∙ memcmp_four _ _ _ c.requires.ends c.if-long-eq4.true

pub returns-then-long-eq6 : goal.returns-then-long-eq6
unfolding bytes
returns-then-long-eq6 c =
    c.name_starts-then-long-eq6.ensures ∙ memcmp_six _ _ _ c.requires.ends c.if-long-eq6.true

pub returns : goal.returns
returns c =
    memcmp_other _ _ _ c.requires.ends c.if-long-eq4.false c.if-long-eq6.false

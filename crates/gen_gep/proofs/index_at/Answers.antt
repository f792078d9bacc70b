-- `gen_gep::index_at` meets its contract: kind 32 is an integer, and no other kind.
use mathlib.Core.Path.{sym, ap, ◌∙◌}
use lib.ListN.{get_or}
use Rattle.layout.specs.Step.{const_int}
use Rattle.gen_gep.specs.Indices.{constant_is, varying_is}
use Rattle.gen_gep.proofs.index_at.Goals as goal

pub returns-then-kinds-at-eq-INTEGER : goal.returns-then-kinds-at-eq-INTEGER
returns-then-kinds-at-eq-INTEGER c =
    let at = c.args.at in
    λ m v q. sym (constant_is (get_or c.args.kinds.now at 0) (get_or c.args.words.now at 0) c.if-kinds-at-eq-INTEGER.true) ∙ ap const_int q.is

pub returns : goal.returns
returns c =
    let at = c.args.at in
    λ m v q. sym (varying_is (get_or c.args.kinds.now at 0) (get_or c.args.words.now at 0) c.if-kinds-at-eq-INTEGER.false) ∙ ap const_int q.is

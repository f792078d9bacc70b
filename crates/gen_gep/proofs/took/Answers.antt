-- `gen_gep::took` meets its contract, one law for each kind of step.
use mathlib.Core.Path.{refl, subst}
use Rattle.book.specs.Entry.{entries}
use Rattle.book.specs.Refusal.{number_positive}
use Rattle.std.specs.Prelude.{Ok}
use Rattle.layout_step.specs.Steps.{Stepping, Steps}
use Rattle.layout_step.specs.declared.Step.{Step}
use Rattle.gen_gep.specs.Indices.{index_in}
use Rattle.gen_gep.specs.Walks.{refused_went, constant_went, varying_went}
use Rattle.gen_gep.proofs.took.Goals as goal

pub returns-in-Err : goal.returns-in-Err
returns-in-Err c =
    let a = c.args in
    let es = entries a.book_kinds.now a.book_words.now in
    λ p k answer f ready front says at.
    refused_went (index_in p) ready at front _ (number_positive c.in-Err.e)
    (subst (λ (t : Stepping). Steps a.names es answer t) c.in-Err.is says) c.refuse.ensures

pub returns-in-Constant : goal.returns-in-Constant
returns-in-Constant c =
    let a = c.args in
    let es = entries a.book_kinds.now a.book_words.now in
    λ p k answer f ready front says at.
    let q = subst (λ (t : Stepping). Steps a.names es answer t) c.in-Ok.is says in
    constant_went (index_in p) ready at _ _ (subst (λ (t : Step). Steps a.names es answer (Ok t)) c.in-Constant.is q) refl

pub returns-in-Varying : goal.returns-in-Varying
returns-in-Varying c =
    let a = c.args in
    let es = entries a.book_kinds.now a.book_words.now in
    λ p k answer f ready front says at.
    let o = subst (λ (t : Stepping). Steps a.names es answer t) c.in-Ok.is says in
    let q = subst (λ (t : Step). Steps a.names es answer (Ok t)) c.in-Varying.is o in
    varying_went k (index_in p) _ _ q (c.vary.ensures p k f ready q.front at)

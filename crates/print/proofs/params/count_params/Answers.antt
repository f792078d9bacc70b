-- `count_params` meets its contract: those that pass are counted.
use Rattle.std.proofs.Common.{◌≡◌, eqb, count_by, sym, ◌∙◌, rules}
use Rattle.print.specs.Function.{sixes_counted}
use Rattle.print.proofs.params.count_params.Goals as goal

pub returns : goal.returns
returns c =
    let all : c.count.result ≡ count_by (λ k. eqb k 6) c.args.kinds.now = search rules in
    all ∙ sym (sixes_counted c.args.kinds.now)

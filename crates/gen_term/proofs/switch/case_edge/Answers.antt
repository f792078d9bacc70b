-- `gen_term::switch::case_edge` meets its contract.
use Rattle.gen_term.specs.Switches as laws
use Rattle.gen_term.proofs.switch.case_edge.Goals as goal

-- src/switch.rt:103:1
pub returns : goal.returns
returns c = λ k l case more maps label target.
    laws.case_edge_puts k c.args.pred l case more label target c.put-labelled.ensures (c.edge.ensures k maps)

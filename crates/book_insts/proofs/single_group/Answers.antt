-- `book_insts::single_group` meets its contract: each kind is looked up, and no other one is a group of its own.
use Rattle.std.proofs.Math.Path.{sym, ap}
use Rattle.std.proofs.Common.{arith}
use Rattle.book.specs.Rule.{find}
use Rattle.book.specs.Kinds.{inst_tag, inst_tags}
use Rattle.book_insts.specs.Insts.{single_of}
use Rattle.book_insts.specs.Groups.{no_group}
use Rattle.book_insts.proofs.single_group.Goals as goal

pub returns-in-70 : goal.returns-in-70
unfolding inst_tag find inst_tags
returns-in-70 c = ap (λ k. single_of (inst_tag k)) (sym c.in-70.is)

pub returns-in-71 : goal.returns-in-71
unfolding inst_tag find inst_tags
returns-in-71 c = ap (λ k. single_of (inst_tag k)) (sym c.in-71.is)

pub returns-in-72 : goal.returns-in-72
unfolding inst_tag find inst_tags
returns-in-72 c = ap (λ k. single_of (inst_tag k)) (sym c.in-72.is)

pub returns-in-73 : goal.returns-in-73
unfolding inst_tag find inst_tags
returns-in-73 c = ap (λ k. single_of (inst_tag k)) (sym c.in-73.is)

pub returns-in-74 : goal.returns-in-74
unfolding inst_tag find inst_tags
returns-in-74 c = ap (λ k. single_of (inst_tag k)) (sym c.in-74.is)

pub returns-in-75 : goal.returns-in-75
unfolding inst_tag find inst_tags
returns-in-75 c = ap (λ k. single_of (inst_tag k)) (sym c.in-75.is)

pub returns-in-76 : goal.returns-in-76
unfolding inst_tag find inst_tags
returns-in-76 c = ap (λ k. single_of (inst_tag k)) (sym c.in-76.is)

pub returns-in-77 : goal.returns-in-77
unfolding inst_tag find inst_tags
returns-in-77 c = ap (λ k. single_of (inst_tag k)) (sym c.in-77.is)

pub returns-in-78 : goal.returns-in-78
unfolding inst_tag find inst_tags
returns-in-78 c = ap (λ k. single_of (inst_tag k)) (sym c.in-78.is)

pub returns-in-79 : goal.returns-in-79
unfolding inst_tag find inst_tags
returns-in-79 c = ap (λ k. single_of (inst_tag k)) (sym c.in-79.is)

pub returns-in-80 : goal.returns-in-80
unfolding inst_tag find inst_tags
returns-in-80 c = ap (λ k. single_of (inst_tag k)) (sym c.in-80.is)

pub returns-in-81 : goal.returns-in-81
unfolding inst_tag find inst_tags
returns-in-81 c = ap (λ k. single_of (inst_tag k)) (sym c.in-81.is)

pub returns-in-82 : goal.returns-in-82
unfolding inst_tag find inst_tags
returns-in-82 c = ap (λ k. single_of (inst_tag k)) (sym c.in-82.is)

pub returns-in_default : goal.returns-in_default
returns-in_default c = no_group c.args.kind (λ l. omega arith)

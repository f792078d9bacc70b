-- `book_insts::inst_group` meets its contract: in each range the kind is decoded, and none of it is refused.
use Rattle.std.proofs.Common.{◌∙◌, arith}
use Rattle.book_insts.specs.Groups.{bin_group, conv_group, icmp_group, some_bin, some_conv, some_icmp, outside_ranges}
use Rattle.book_insts.proofs.inst_group.Goals as goal

pub returns-in-Ok : goal.returns-in-Ok
returns-in-Ok c = bin_group c.args.kind c.in-Ok.op c.in-Ok.ensures

pub returns-in-Err : goal.returns-in-Err
returns-in-Err c = absurd (some_bin c.args.kind (omega arith) (omega arith) c.in-Err.ensures.1)

pub returns-in-Ok-try_from : goal.returns-in-Ok-try_from
returns-in-Ok-try_from c = conv_group c.args.kind c.in-Ok-try_from.op c.in-Ok-try_from.ensures

pub returns-in-Err-try_from : goal.returns-in-Err-try_from
returns-in-Err-try_from c = absurd (some_conv c.args.kind (omega arith) (omega arith) c.in-Err-try_from.ensures.1)

pub returns-in-Ok-try_from-2 : goal.returns-in-Ok-try_from-2
returns-in-Ok-try_from-2 c = icmp_group c.args.kind c.in-Ok-try_from-2.pred c.in-Ok-try_from-2.ensures

pub returns-in-Err-try_from-2 : goal.returns-in-Err-try_from-2
returns-in-Err-try_from-2 c = absurd (some_icmp c.args.kind (omega arith) (omega arith) c.in-Err-try_from-2.ensures.1)

pub returns-in_default : goal.returns-in_default
returns-in_default c = c.single_group.ensures ∙ outside_ranges c.args.kind (λ p q. grind arith) (λ p q. grind arith)

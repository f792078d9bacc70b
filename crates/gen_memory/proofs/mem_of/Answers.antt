-- `gen_memory::mem_of` meets its contract.
use Rattle.gen_memory.specs.Memory as laws
use Rattle.gen_memory.proofs.mem_of.Goals as goal

pub returns-in-1 : goal.returns-in-1
returns-in-1 c =
    rw c.in-1.is (laws.mem_1 c.args.s)

pub returns-in-2 : goal.returns-in-2
returns-in-2 c =
    rw c.in-2.is (laws.mem_2 c.args.s)

pub returns-in-4 : goal.returns-in-4
returns-in-4 c =
    rw c.in-4.is (laws.mem_4 c.args.s)

pub returns-in-8 : goal.returns-in-8
returns-in-8 c =
    rw c.in-8.is (laws.mem_8 c.args.s)

pub returns-in_default : goal.returns-in_default
returns-in_default c =
    laws.mem_none c.args.s c.args.bytes
    c.in_default.in_default-own.rest.0.0.0.1 c.in_default.in_default-own.rest.0.0.1 c.in_default.in_default-own.rest.0.1 c.in_default.in_default-own.rest.1
    c.refuse.ensures

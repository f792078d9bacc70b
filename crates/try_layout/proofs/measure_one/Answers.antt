-- `try_layout::measure_one` meets its contract.
use Rattle.std.proofs.Common.{arith}
use Rattle.try_layout.specs.Laws as laws
use Rattle.try_layout.proofs.measure_one.Goals as goal

pub size_of-size-requires : goal.size_of-size-requires
size_of-size-requires g c =
    laws.ask c.args.names c.args.kinds.now c.args.words.now c.args.at c.requires.few _ c.type_len.ensures _ c.in-Some.is
    c.requires

pub align_of-align-requires : goal.align_of-align-requires
align_of-align-requires g c =
    laws.ask c.args.names c.args.kinds.now c.args.words.now c.args.at c.requires.few _ c.type_len.ensures _ c.in-Some.is
    c.size_of-size.ensures.after.ready

pub overflow_add-result : goal.overflow_add-result
overflow_add-result g c =
    omega (
      arith,
      laws.read_few c.args.names c.args.kinds.now c.args.words.now c.args.at c.requires.few _ c.type_len.ensures _
          c.in-Some.is,
      laws.at_few c.args.kinds.now c.args.words.now c.args.at c.requires.few c.if-kinds-at.false c.if-words-at.false,
    )

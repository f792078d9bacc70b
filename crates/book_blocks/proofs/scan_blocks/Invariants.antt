-- `book_blocks::scan_blocks` meets its contract: at each place what is still to come tells what the whole is, and each turn takes an entry at least.
use Prim.Native.Nat.{◌-◌}
use Rattle.numbers.specs.Bits.{bit_at}
use Rattle.book_blocks.specs.Scan.{Ends, Scan}
use Rattle.book_blocks.proofs.scan_blocks.Given as goal

abbrev pub invariant-loop-at : goal.invariant-loop-at
invariant-loop-at l =
    Ends l.kinds l.words l.end × Scan (bit_at l.barred) l.names l.kinds l.words l.at l.need l.inside l.seen

abbrev pub decreases-loop-at : goal.decreases-loop-at
decreases-loop-at l = l.end - l.at

-- `put_type` meets its contract, by the group of its first entry. The level falls.
use Rattle.print_types.proofs.types.+put_type.Given as goal

abbrev pub decreases-put_type : goal.decreases-put_type
decreases-put_type l = l.level

-- `book_parts::maps_len` meets its contract: each length of maps finds the same. The room grows up to a bound.
use Prim.Native.Nat.{◌-◌}
use Rattle.book_parts.proofs.+maps_len.Given as goal

abbrev pub decreases-maps_len : goal.decreases-maps_len
decreases-maps_len l = 131072 - l.room

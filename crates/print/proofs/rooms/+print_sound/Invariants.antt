-- `print_sound` meets its contract: each room is enough for its starts. The measure is how far the room is from the largest.
use Prim.Native.Nat.{◌-◌}
use Rattle.print.proofs.rooms.+print_sound.Given as goal

abbrev pub decreases-print_sound : goal.decreases-print_sound
decreases-print_sound l = 16384 - l.room

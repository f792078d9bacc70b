-- A repeat is as many zeros as it says.
use mathlib.Core.Path.{refl}
use Rattle.lines.specs.Shown.{zeros}
use Rattle.lines.proofs.room_for_text.Goals as goal

pub returns : goal.returns
unfolding zeros
returns c = refl

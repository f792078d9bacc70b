-- What the types at the limits of 2^24 bytes and 64 levels measure.
use Rattle.std.specs.Prelude.{◌≡◌, refl, [], ◌∷◌, map}
use Rattle.book.specs.Result.{ok, err}
use Rattle.layout.specs.Layout.{size_of}
use Rattle.layout.specs.Cases.{open_cases, deep, some_structs, limits}

pub limits_hold : map (size_of some_structs) limits ≡ ok 16777216 ∷ err 7 ∷ ok 1 ∷ err 7 ∷ ok 1 ∷ err 7 ∷ err 7 ∷ err 6 ∷ err 7 ∷ err 6 ∷ err 6 ∷ []
unfolding open_cases deep some_structs limits
limits_hold = refl

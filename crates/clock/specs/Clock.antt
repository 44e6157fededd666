-- What the code's clock vectors and comparisons stand for. Assumes nothing.
use Rattle.std.specs.Prelude.{List, ℕ, get_or, Result, Ok, Err}
use Rattle.clock.specs.declared.Clock.{Clock}
use Rattle.clock.specs.declared.Beyond.{Beyond}
use Rattle.clock.specs.Map.{when◌then◌else◌, any, least, mask}
use Rattle.clock.specs.Vector.{Vector, beyond}

-- an array as the map of its places, 0 past its end
abbrev pub cells : List ℕ → Vector
cells a j = get_or a j 0

abbrev pub columns : Clock → Vector
columns c = cells c.col

-- the lowest of the eight columns of v that is greater than the same column of w, with its number in v, and the mask of all that are
abbrev pub lowest_beyond : Vector → Vector → Beyond
lowest_beyond v w = let j = least 8 (beyond v w) in record { column = j; number = v j; mask = mask 8 (beyond v w) }

unfoldable pub compare : Vector → Vector → Result Unit Beyond
compare v w = when any 8 (beyond v w) then Err (lowest_beyond v w) else Ok tt

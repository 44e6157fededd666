-- A part of touch's list of refusals, over what the code has at hand. Assumes nothing.
use Rattle.std.specs.Prelude.{not, ◌&&◌, [], ◌∷◌, ℕ}
use Rattle.layout.specs.State.{Entry}
use Rattle.rules.specs.Touch.{keeps_hour, recorded}
use Rattle.rules.specs.Refusals.{Refusals}

abbrev pub record_in : Entry → (toucher : ℕ) → Refusals
record_in e u = (13, keeps_hour u && not (recorded e)) ∷ []

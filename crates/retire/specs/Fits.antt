-- What the step of a retirement relies on. Assumes nothing.
use Rattle.std.specs.Prelude.{ℕ, ◌+◌, ◌^◌, ◌<◌}
use Rattle.layout.specs.State.{State}

-- a site whose bit byte 2 has room for
pub record RetireFits (S : State) (s : ℕ) : Type 0 where
  pub site : s < 8
  pub room : S.retired + 2 ^ s < 256

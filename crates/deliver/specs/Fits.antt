-- What the step of a delivery relies on. Assumes nothing.
use Rattle.std.specs.Prelude.{◌≡◌, ℕ, ◌<◌}
use Rattle.layout.specs.State.{State}
use Rattle.layout.specs.declared.Record.{Record}
use Rattle.layout.specs.Records.{update_of}
use Rattle.rules.specs.Steps.{waiting, next}

-- the update u is the next of o for s, and c its clock
pub record DeliverFits (S : State) (s o : ℕ) (u : Record) (c : ℕ) : Type 0 where
  pub site : s < 8
  pub origin : o < 8
  pub key : u.tag < 64
  pub update : update_of u ≡ waiting S s o
  pub clock : c ≡ next S s o

-- What the step of a put relies on. Assumes nothing.
use Rattle.std.specs.Prelude.{◌≡◌, ◌≢◌, ℕ, ◌<◌}
use Rattle.layout.specs.State.{State, last_clock}
use Rattle.rules.specs.Engine.{Engine}

-- the site has taken on what its put overwrites: it sends the row as it is
pub record PutFits (E : Engine) (S : State) (s x : ℕ) : Type 0 where
  pub site : s < 8
  pub key : x < 64
  pub clock : S.applied s s ≢ last_clock
  pub taken : E.sent (S.depends s) (S.store s x) ≡ S.depends s

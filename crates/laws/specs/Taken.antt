-- What an engine may count on: what a site has taken on once is taken on. Assumes nothing.
use Rattle.std.specs.Prelude.{◌≡◌}
use Rattle.clock.specs.Vector.{Vector}
use Rattle.layout.specs.State.{Entry}
use Rattle.rules.specs.Engine.{Engine}

pub record Takes (E : Engine) : Type 0 where
  -- a put that overwrites e adds nothing after another one that did, nor after a get of it
  pub again : (d : Vector) (e : Entry) → E.sent (E.sent d e) e ≡ E.sent d e
  pub got : (d : Vector) (e : Entry) → E.sent (E.learned d e) e ≡ E.learned d e
  -- nor where e was never written
  pub never : (d : Vector) (e : Entry) → e.clock ≡ 0 → E.sent d e ≡ d

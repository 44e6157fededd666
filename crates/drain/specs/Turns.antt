-- What the code's turn stands for, and what the passes rely on. Assumes nothing.
use Rattle.std.specs.Prelude.{◌≡◌, false, ℕ, ◌<◌, Option, Some, None}
use Rattle.layout.specs.State.{State}
use Rattle.rules.specs.Live.{gone}
use Rattle.rules.specs.Sound.{Sound}
use Rattle.rules.specs.Drain as rules
use Rattle.rules.specs.Drain.{end, due}
use Rattle.drain.specs.declared.Turn.{Turn}

-- a try is due, or none is
abbrev pub turn_of : Option Turn → rules.Turn
turn_of (Some t) = due t.origin t.delivered
turn_of None = end

-- a sound table of n sites, and a live one of them
pub record Drains (S : State) (n s : ℕ) : Type 0 where
  pub sound : Sound S
  pub sites : n ≡ S.n
  pub site : s < n
  pub live : gone S s ≡ false

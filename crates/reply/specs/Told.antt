-- What a written reply stands for. Assumes nothing.
use Rattle.std.specs.Prelude.{◌≡◌, List, ℕ, eqb}
use Rattle.clock.specs.Map.{when◌then◌else◌}
use Rattle.rules.specs.Steps.{Numbers}
use Rattle.reply.specs.Reply.{reply_of}

-- the numbers a stand in the reply r, and their code came back
pub record Replied (code : ℕ) (r : List ℕ) (a : Numbers) : Type 0 where
  pub returned : code ≡ a.code
  pub written : r ≡ reply_of a

-- a code, and 1 behind it where there is none
abbrev pub behind : ℕ → ℕ
behind e = when eqb e 0 then 1 else e

-- What a call with short lists from a C program returns, and what it leaves in the two buffers. Assumes nothing.
use Rattle.std.specs.Prelude.{◌≡◌, List, ℕ}
use Rattle.rules.specs.Engine.{short}
use Rattle.rules.specs.Calls.{Call}
use Rattle.host.specs.Host.{Hosted, host}

-- the promise of every call with short lists: what `host` says of the short engine
abbrev pub Promise : (table reply : List ℕ) → Call → Hosted → Type 0
Promise t r c o = o ≡ host short t r c

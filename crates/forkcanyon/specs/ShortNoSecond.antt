-- No second outcome of a call with short lists: two outcomes that satisfy its promise are equal, and one exists. Assumes nothing.
use Rattle.std.specs.Prelude.{◌≡◌, refl, List, ℕ, min}
use Rattle.std.proofs.Common.{sym, ◌∙◌}
use Rattle.rules.specs.Engine.{short}
use Rattle.rules.specs.Calls.{Call, Put, Get, Deliver, Drain, Touch, Adopt}
use Rattle.host.specs.Host.{Hosted, host, most_tries}
use Rattle.forkcanyon.specs.ShortHost.{Promise}

abbrev pub NoSecond : Call → Type 0
NoSecond c = (t r : List ℕ) (o o' : Hosted) → Promise t r c o → Promise t r c o' → o ≡ o'

abbrev pub One : Call → Type 0
One c = (t r : List ℕ) → (o : Hosted) × Promise t r c o

no_second : (c : Call) → NoSecond c × One c
no_second c = ((λ t r o o' p q. p ∙ sym q), λ t r. (host short t r c, refl))

pub fc_short_put_no_second : (site key value : ℕ) → NoSecond (Put site key value) × One (Put site key value)
fc_short_put_no_second s x v = no_second (Put s x v)

pub fc_short_get_no_second : (site key : ℕ) → NoSecond (Get site key) × One (Get site key)
fc_short_get_no_second s x = no_second (Get s x)

pub fc_short_adopt_no_second : (site key origin clock : ℕ) → NoSecond (Adopt site key origin clock) × One (Adopt site key origin clock)
fc_short_adopt_no_second s x o c = no_second (Adopt s x o c)

pub fc_short_deliver_no_second : (site origin : ℕ) → NoSecond (Deliver site origin) × One (Deliver site origin)
fc_short_deliver_no_second s o = no_second (Deliver s o)

pub fc_short_drain_no_second : (site budget : ℕ) → NoSecond (Drain site (min budget most_tries)) × One (Drain site (min budget most_tries))
fc_short_drain_no_second s b = no_second (Drain s (min b most_tries))

pub fc_short_touch_no_second : (site key hour toucher tier : ℕ) → NoSecond (Touch site key hour toucher tier) × One (Touch site key hour toucher tier)
fc_short_touch_no_second s x hour u r = no_second (Touch s x hour u r)

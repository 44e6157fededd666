-- No second outcome: two outcomes that satisfy the promise in a call's `ensures` are equal, and one exists. Assumes nothing.
use Rattle.std.specs.Prelude.{◌≡◌, refl, List, ℕ, min}
use Rattle.std.proofs.Common.{sym, ◌∙◌}
use Rattle.rules.specs.Engine.{ours}
use Rattle.rules.specs.Calls.{Call, Open, Put, Get, Deliver, Drain, Touch, Look, Adopt, Retire}
use Rattle.host.specs.Host.{Hosted, host, Promise, most_tries}

abbrev pub NoSecond : Call → Type 0
NoSecond c = (t r : List ℕ) (o o' : Hosted) → Promise t r c o → Promise t r c o' → o ≡ o'

abbrev pub One : Call → Type 0
One c = (t r : List ℕ) → (o : Hosted) × Promise t r c o

no_second : (c : Call) → NoSecond c × One c
no_second c = ((λ t r o o' p q. p ∙ sym q), λ t r. (host ours t r c, refl))

pub fc_open_no_second : (sites keys : ℕ) → NoSecond (Open sites keys) × One (Open sites keys)
fc_open_no_second n k = no_second (Open n k)

pub fc_put_no_second : (site key value : ℕ) → NoSecond (Put site key value) × One (Put site key value)
fc_put_no_second s x v = no_second (Put s x v)

pub fc_get_no_second : (site key : ℕ) → NoSecond (Get site key) × One (Get site key)
fc_get_no_second s x = no_second (Get s x)

pub fc_deliver_no_second : (site origin : ℕ) → NoSecond (Deliver site origin) × One (Deliver site origin)
fc_deliver_no_second s o = no_second (Deliver s o)

pub fc_drain_no_second : (site budget : ℕ) → NoSecond (Drain site (min budget most_tries)) × One (Drain site (min budget most_tries))
fc_drain_no_second s b = no_second (Drain s (min b most_tries))

pub fc_touch_no_second : (site key hour toucher tier : ℕ) → NoSecond (Touch site key hour toucher tier) × One (Touch site key hour toucher tier)
fc_touch_no_second s x hour u r = no_second (Touch s x hour u r)

pub fc_look_no_second : (site key : ℕ) → NoSecond (Look site key) × One (Look site key)
fc_look_no_second s x = no_second (Look s x)

pub fc_adopt_no_second : (site key origin clock : ℕ) → NoSecond (Adopt site key origin clock) × One (Adopt site key origin clock)
fc_adopt_no_second s x o c = no_second (Adopt s x o c)

pub fc_retire_no_second : (site : ℕ) → NoSecond (Retire site) × One (Retire site)
fc_retire_no_second s = no_second (Retire s)

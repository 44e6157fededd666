-- No second outcome: two outcomes that satisfy the promise in a call's `ensures` are equal, and one exists. Assumes nothing.
use Rattle.std.specs.Prelude.{◌≡◌, refl, List, ℕ}
use Rattle.std.proofs.Common.{sym, ◌∙◌}
use Rattle.rules.specs.Engine.{Engine, ours}
use Rattle.rules.specs.Calls.{Call, Open, Put, Get, Deliver, Drain, Touch, Look, Adopt, Retire, Served, serve}
use Rattle.answers.specs.Answers.{Promise, PromiseBy}

abbrev pub NoSecond : Call → Type 0
NoSecond c = (t : List ℕ) (w w' : Served) → Promise t c w → Promise t c w' → w ≡ w'

abbrev pub One : Call → Type 0
One c = (t : List ℕ) → (w : Served) × Promise t c w

no_second : (c : Call) → NoSecond c × One c
no_second c = ((λ t w w' p q. p ∙ sym q), λ t. (serve ours t c, refl))

-- of the calls that take their engine
abbrev pub NoSecondBy : Engine → Call → Type 0
NoSecondBy e c = (t : List ℕ) (w w' : Served) → PromiseBy e t c w → PromiseBy e t c w' → w ≡ w'

abbrev pub OneBy : Engine → Call → Type 0
OneBy e c = (t : List ℕ) → (w : Served) × PromiseBy e t c w

no_second_by : (e : Engine) (c : Call) → NoSecondBy e c × OneBy e c
no_second_by e c = ((λ t w w' p q. p ∙ sym q), λ t. (serve e t c, refl))

pub open_no_second : (n k : ℕ) → NoSecond (Open n k) × One (Open n k)
open_no_second n k = no_second (Open n k)

pub put_no_second : (e : Engine) (s x v : ℕ) → NoSecondBy e (Put s x v) × OneBy e (Put s x v)
put_no_second e s x v = no_second_by e (Put s x v)

pub get_no_second : (e : Engine) (s x : ℕ) → NoSecondBy e (Get s x) × OneBy e (Get s x)
get_no_second e s x = no_second_by e (Get s x)

pub deliver_no_second : (e : Engine) (s o : ℕ) → NoSecondBy e (Deliver s o) × OneBy e (Deliver s o)
deliver_no_second e s o = no_second_by e (Deliver s o)

pub drain_no_second : (e : Engine) (s b : ℕ) → NoSecondBy e (Drain s b) × OneBy e (Drain s b)
drain_no_second e s b = no_second_by e (Drain s b)

pub touch_no_second : (e : Engine) (s x hour u r : ℕ) → NoSecondBy e (Touch s x hour u r) × OneBy e (Touch s x hour u r)
touch_no_second e s x hour u r = no_second_by e (Touch s x hour u r)

pub look_no_second : (s x : ℕ) → NoSecond (Look s x) × One (Look s x)
look_no_second s x = no_second (Look s x)

pub adopt_no_second : (e : Engine) (s x o c : ℕ) → NoSecondBy e (Adopt s x o c) × OneBy e (Adopt s x o c)
adopt_no_second e s x o c = no_second_by e (Adopt s x o c)

pub retire_no_second : (s : ℕ) → NoSecond (Retire s) × One (Retire s)
retire_no_second s = no_second (Retire s)

-- No second outcome, with the engine that is given: two outcomes that satisfy the promise of a call are equal, and one exists. Assumes nothing.
use Rattle.std.specs.Prelude.{◌≡◌, refl, List, ℕ}
use Rattle.std.proofs.Common.{sym, ◌∙◌}
use Rattle.rules.specs.Engine.{Engine}
use Rattle.rules.specs.Calls.{Call}
use Rattle.host.specs.Host.{Hosted, host, PromiseBy}

abbrev pub NoSecondBy : Engine → Call → Type 0
NoSecondBy e c = (t r : List ℕ) (o o' : Hosted) → PromiseBy e t r c o → PromiseBy e t r c o' → o ≡ o'

abbrev pub OneBy : Engine → Call → Type 0
OneBy e c = (t r : List ℕ) → (o : Hosted) × PromiseBy e t r c o

pub host_no_second : (e : Engine) (c : Call) → NoSecondBy e c × OneBy e c
host_no_second e c = ((λ t r o o' p q. p ∙ sym q), λ t r. (host e t r c, refl))

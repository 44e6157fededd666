-- No second outcome: two outcomes that satisfy the promise in fc_cold's `ensures` are equal, and one exists. Assumes nothing.
use Rattle.std.specs.Prelude.{◌≡◌, refl, List, ℕ}
use Rattle.std.proofs.Common.{sym, ◌∙◌}
use Rattle.both.specs.ColdHost.{Hosted, host, Promise}

pub fc_cold_no_second : (t l r : List ℕ) (site hour threshold : ℕ)
    → ((o o' : Hosted) → Promise t l r site hour threshold o → Promise t l r site hour threshold o' → o ≡ o') × ((o : Hosted) × Promise t l r site hour threshold o)
fc_cold_no_second t l r s hour T = ((λ o o' p q. p ∙ sym q), (host t l r s hour T, refl))

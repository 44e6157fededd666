-- No second outcome: two outcomes that satisfy the promise in cold's `ensures` are equal, and one exists. Assumes nothing.
use Rattle.std.specs.Prelude.{◌≡◌, ℕ, List, refl}
use Rattle.std.proofs.Common.{sym, ◌∙◌}
use Rattle.rules.specs.Calls.{Listed, serve_list}
use Rattle.cold.specs.Listing.{Promise}

pub cold_no_second : (t l : List ℕ) (s hour T : ℕ)
    → ((o o' : Listed) → Promise t l s hour T o → Promise t l s hour T o' → o ≡ o') × ((o : Listed) × Promise t l s hour T o)
cold_no_second t l s hour T = ((λ o o' p q. p ∙ sym q), (serve_list t l s hour T, refl))

-- What the loop over the keys keeps: the list and the counts of the keys passed. Assumes nothing.
use Rattle.std.specs.Prelude.{◌≡◌, ℕ, List, length}
use Rattle.rules.specs.Touch.{Kind, cold, ahead, malformed, is, chosen, padded}
use Rattle.cold.specs.declared.Tallies.{Tallies}

-- the keys below x of a kind
abbrev pub those : Kind → (ℕ → Kind) → ℕ → List ℕ
those j f = chosen (λ y. is j (f y))

-- f has the kinds of the keys; those below x are in the list and counted
pub record Tally (f : ℕ → Kind) (x : ℕ) (l : List ℕ) (c : Tallies) : Type 0 where
  pub list : l ≡ padded (those cold f x)
  pub listed : c.listed ≡ length (those cold f x)
  pub ahead : c.ahead ≡ length (those ahead f x)
  pub malformed : c.malformed ≡ length (those malformed f x)

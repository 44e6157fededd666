-- What stands in a list, and what stood there before what. Assumes nothing.
use Rattle.std.specs.Prelude.{◌≡◌, List, [], ◌∷◌, ◌⊎◌}

infix 40 ◌∈◌
abbrev pub ◌∈◌ : {A : Type 0} → A → List A → Type 0
◌∈◌ a [] = ⊥
◌∈◌ a (x ∷ l) = (a ≡ x) ⊎ (a ∈ l)

-- in l, whose newest element stands first, an a came before some b
abbrev pub Before : {A : Type 0} → List A → A → A → Type 0
Before [] a b = ⊥
Before (x ∷ l) a b = ((b ≡ x) × (a ∈ l)) ⊎ Before l a b

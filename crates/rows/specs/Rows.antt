-- What the code stores for a step: a row, an update, an entry, and what that relies on. Assumes nothing.
use Rattle.std.specs.Prelude.{◌≡◌, ℕ, ◌<◌}
use Rattle.clock.specs.Map.{when◌then◌else◌, ◌⟨◌≔◌⟩, ◌⟨◌⟩⟨◌≔◌⟩}
use Rattle.clock.specs.Vector.{Vector}
use Rattle.layout.specs.State.{State, Update, with_depends, with_store, with_updates}
use Rattle.rules.specs.Sound.{place}
use Rattle.rules.specs.Engine.{Engine}

-- the dependency row of s is v, and nothing else changed
abbrev pub Row : State → (s : ℕ) → Vector → State → Type 0
Row S s v T = T ≡ with_depends S (S.depends ⟨ s ≔ v ⟩)

-- the update of the put (s, c) stands at its place, with the row of its site
abbrev pub Sent : State → (s x v c : ℕ) → State → Type 0
Sent S s x v c T = T ≡ with_updates S (S.updates ⟨ s ⟩⟨ place c ≔ record { value = v; key = x; zero = 0; clock = c; depends = S.depends s } ⟩)

-- the entry of x at s is the put (o, c) with the vector d
abbrev pub Stored : State → (s x o v c : ℕ) → (d : Vector) → State → Type 0
Stored S s x o v c d T = T ≡ with_store S (S.store ⟨ s ⟩⟨ x ≔ record { value = v; origin = o; zero = 0; clock = c; depends = d } ⟩)

-- the entry of the update's key at s is the put (o, c), if the engine replaces it, and nothing else changed
abbrev pub Replaced : Engine → State → (s o : ℕ) → Update → (c : ℕ) → State → Type 0
Replaced E S s o u c T =
    let M = S.store ⟨ s ⟩⟨ u.key ≔ record { value = u.value; origin = o; zero = 0; clock = c; depends = u.depends } ⟩ in
    T ≡ with_store S (when E.replaces u o (S.store s u.key) then M else S.store)

-- a site, a key, and the entry there: its origin is a site
pub record GetFits (S : State) (s x : ℕ) : Type 0 where
  pub site : s < 8
  pub key : x < 64
  pub origin : (S.store s x).origin < 8

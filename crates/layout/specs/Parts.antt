-- The two squares of the table and its two shelves of records: where each begins, and what it is in the state. Assumes nothing.
use Rattle.std.specs.Prelude.{ℕ}
use Rattle.clock.specs.Map.{◌⟨◌⟩⟨◌≔◌⟩}
use Rattle.clock.specs.Vector.{Vector}
use Rattle.layout.specs.State.{State, Fields, applied_at, depends_at, store_at, updates_at, of_entry, to_entry, of_update, to_update, with_applied, with_depends, with_store, with_updates}

pub data Square : Type 0 where
  applied : Square
  depends : Square

abbrev pub square_at : Square → ℕ
square_at applied = applied_at
square_at depends = depends_at

abbrev pub square_of : Square → State → ℕ → Vector
square_of applied S = S.applied
square_of depends S = S.depends

abbrev pub with_square : Square → State → (ℕ → Vector) → State
with_square applied = with_applied
with_square depends = with_depends

-- the entries of each site by key, and the updates of each origin by place
pub data Shelves : Type 0 where
  entries : Shelves
  updates : Shelves

abbrev pub shelves_at : Shelves → ℕ
shelves_at entries = store_at
shelves_at updates = updates_at

abbrev pub places : Shelves → ℕ
places entries = 64
places updates = 16

abbrev pub shelves_of : Shelves → State → ℕ → ℕ → Fields
shelves_of entries S s x = of_entry (S.store s x)
shelves_of updates S o p = of_update (S.updates o p)

-- with one record another
abbrev pub with_record : Shelves → State → (s x : ℕ) → Fields → State
with_record entries S s x p = with_store S (S.store ⟨ s ⟩⟨ x ≔ to_entry p ⟩)
with_record updates S o x p = with_updates S (S.updates ⟨ o ⟩⟨ x ≔ to_update p ⟩)

-- The refusals of adopt, over the numbers that the code has at hand. Assumes nothing.
use Rattle.std.specs.Prelude.{not, ◌&&◌, ◌||◌, [], ◌∷◌, ℕ, eqb, leb}
use Rattle.layout.specs.State.{State, Entry}
use Rattle.rules.specs.Live.{gone}
use Rattle.rules.specs.Refusals.{Refusals}

abbrev pub entry_in : Entry → (o c : ℕ) → Refusals
entry_in e o c = (15, not (eqb e.origin o && eqb e.clock c)) ∷ []

abbrev pub named_in : State → (n k s x o c : ℕ) → Refusals
named_in S n k s x o c = (4, leb n s || leb n o) ∷ (16, gone S s) ∷ (6, leb k x) ∷ entry_in (S.store s x) o c

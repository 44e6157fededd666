-- Soundness fact by fact: for each a table that breaks it and a neighbour that is sound, with the code that a get answers; no other
-- fact breaks with it, but at a lag of 17, where two retained clocks share a place. Assumes nothing.
use Rattle.std.specs.Prelude.{◌≡◌, refl, List, [], ◌∷◌, map, ℕ, suc, ◌+◌, ◌-◌, ◌%◌}
use Rattle.clock.specs.Map.{◌⟨◌≔◌⟩, ◌⟨◌⟩⟨◌≔◌⟩}
use Rattle.clock.specs.Vector.{Vector, zeros}
use Rattle.layout.specs.State.{State, Update, with_retired, with_applied, with_store, with_updates}
use Rattle.rules.specs.Engine.{ours}
use Rattle.rules.specs.Steps.{opened}
use Rattle.rules.specs.Calls.{Get, run}
use Rattle.rules.specs.Cases.{rules}

-- an update whose other numbers may be anything
abbrev some : (clock key : ℕ) → Update
some c x = record { value = 5; key = x; zero = 9; clock = c; depends = λ j. 99 }

-- of the sixteen clocks above m, the one whose place is p
abbrev pub clock_in : (m p : ℕ) → ℕ
clock_in m p = m + suc ((p + (16 - m % 16)) % 16)

-- three sites, two keys; all have applied 18 puts of each origin, but site 1 only c of origin 0, whose last sixteen stand in their places
abbrev lagging : (c : ℕ) → State
lagging c = with_applied (with_updates (opened 3 2) (λ o p. some (clock_in 2 p) 1)) ((λ s o. 18) ⟨ 1 ⟩⟨ 0 ≔ c ⟩)

-- only clock 18 of origin 0 is retained, in place 1
abbrev base : State
base = lagging 17

-- the base with one count, one entry or one update changed
abbrev counts : (s o c : ℕ) → State
counts s o c = with_applied base (base.applied ⟨ s ⟩⟨ o ≔ c ⟩)

abbrev stores : (s x value origin zero clock : ℕ) → Vector → State
stores s x v o z c d = with_store base (base.store ⟨ s ⟩⟨ x ≔ record { value = v; origin = o; zero = z; clock = c; depends = d } ⟩)

-- an entry that is not blank
abbrev writes : (s x origin clock : ℕ) → State
writes s x o c = stores s x 5 o 9 c (λ j. 99)

-- an entry that is blank but for one column
abbrev column : (j : ℕ) → State
column j = stores 1 1 0 0 0 0 (zeros ⟨ j ≔ 1 ⟩)

abbrev keeps : (o p clock key : ℕ) → State
keeps o p c x = with_updates base (base.updates ⟨ o ⟩⟨ p ≔ some c x ⟩)

-- a header before a table in which no clock is retained
abbrev header : (n k retired byte3 : ℕ) → State
header n k b₂ b₃ =
    let S = lagging 18 in
    record { n = n; k = k; retired = b₂; byte3 = b₃; applied = S.applied; depends = S.depends; store = S.store; updates = S.updates }

pub data Fact : Type 0 where
  sites keys retired byte_3 most room blank origin clock applied held key : Fact

-- the fact is broken where the code is 2
unfoldable pub tables : Fact → List (State × ℕ)
-- n and k are in range
tables sites = (header 0 2 0 0, 2) ∷ (header 1 2 0 0, 0) ∷ (header 8 2 0 0, 0) ∷ (header 9 2 0 0, 2) ∷ []
tables keys = (header 3 0 0 0, 2) ∷ (header 3 2 0 0, 0) ∷ (header 3 64 0 0, 0) ∷ (header 3 65 0 0, 2) ∷ []
-- retired sites are all below n, and not all n; a retired site's get answers 16
tables retired =
    (header 3 2 0 0, 0) ∷ (header 3 2 2 0, 0) ∷ (header 3 2 6 0, 0) ∷ (header 3 2 1 0, 16) ∷ (header 3 2 7 0, 2) ∷ (header 3 2 8 0, 2) ∷ (header 3 2 10 0, 2)
    ∷ (header 8 2 254 0, 0) ∷ (header 8 2 255 0, 2) ∷ []
-- byte 3 is zero
tables byte_3 = (header 3 2 0 0, 0) ∷ (header 3 2 0 1, 2) ∷ []
-- applied[s][o] is at most applied[o][o], where s and o are below n
tables most = (lagging 18, 0) ∷ (lagging 19, 2) ∷ (with_retired (lagging 19) 2, 2) ∷ (counts 2 1 19, 2) ∷ (counts 3 1 19, 0) ∷ (counts 2 3 19, 0) ∷ []
-- and of a live site less than it by at most 16; at 17 clocks 2 and 18 would share a place
tables room = (lagging 2, 0) ∷ (lagging 1, 2) ∷ (with_retired (lagging 1) 2, 0) ∷ (with_retired (lagging 1) 4, 2) ∷ (counts 3 1 0, 0) ∷ (counts 2 3 0, 0) ∷ []
-- the entry is 24 zero bytes, where its site is below n and its key below k
tables blank =
    (stores 2 1 0 0 0 0 zeros, 0)
    ∷ (stores 2 1 1 0 0 0 zeros, 2)
    ∷ (stores 2 1 0 1 0 0 zeros, 2)
    ∷ (stores 2 1 0 0 1 0 zeros, 2)
    ∷ (stores 2 1 0 0 0 19 zeros, 2)
    ∷ (with_retired (stores 2 1 1 0 0 0 zeros) 4, 2)
    ∷ (stores 3 1 1 0 0 0 zeros, 0)
    ∷ (stores 2 2 1 0 0 0 zeros, 0)
    ∷ (column 0, 2) ∷ (column 1, 2) ∷ (column 2, 2) ∷ (column 3, 2) ∷ (column 4, 2) ∷ (column 5, 2) ∷ (column 6, 2) ∷ (column 7, 2) ∷ (column 8, 0)
    ∷ []
-- or its origin is below n
tables origin = (writes 1 1 2 18, 0) ∷ (writes 1 1 3 18, 2) ∷ []
-- and its clock is from 1
tables clock = (writes 1 1 0 0, 2) ∷ (writes 1 1 0 1, 0) ∷ []
-- to applied[s][origin]
tables applied = (writes 1 1 0 17, 0) ∷ (writes 1 1 0 18, 2) ∷ (writes 1 1 1 18, 0) ∷ (writes 2 1 0 18, 0) ∷ []
-- the place of each retained clock, which some live site lacks, holds it; other places anything
tables held = (keeps 0 1 18 1, 0) ∷ (keeps 0 1 2 1, 2) ∷ (with_retired (keeps 0 1 2 1) 2, 0) ∷ (with_retired (keeps 0 1 2 1) 4, 2) ∷ (with_retired (keeps 0 1 2 1) 1, 2) ∷ (keeps 0 1 19 1, 2) ∷ (keeps 0 0 99 1, 0) ∷ (keeps 0 2 99 1, 0) ∷ (keeps 2 1 99 1, 0) ∷ []
-- and a key below k
tables key = (keeps 0 1 18 1, 0) ∷ (keeps 0 1 18 2, 2) ∷ (keeps 0 0 17 99, 0) ∷ []

abbrev pub answered : State × ℕ → ℕ
answered t = (run ours t.0 (Get 0 0)).answer.code

abbrev pub expected : State × ℕ → ℕ
expected t = t.1

pub fact_by_fact : (f : Fact) → map answered (tables f) ≡ map expected (tables f)
unfolding rules tables
fact_by_fact sites = refl
fact_by_fact keys = refl
fact_by_fact retired = refl
fact_by_fact byte_3 = refl
fact_by_fact most = refl
fact_by_fact room = refl
fact_by_fact blank = refl
fact_by_fact origin = refl
fact_by_fact clock = refl
fact_by_fact applied = refl
fact_by_fact held = refl
fact_by_fact key = refl

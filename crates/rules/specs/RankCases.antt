-- One winner, worked: what a put learns of the entry it overwrites, and which deliveries replace. Assumes nothing.
use Rattle.std.specs.Prelude.{refl, List, [], ◌∷◌, ◌++◌, ℕ}
use Rattle.clock.specs.Map.{◌⟨◌⟩⟨◌≔◌⟩}
use Rattle.clock.specs.Vector.{zeros}
use Rattle.layout.specs.State.{State, with_applied, with_store, with_updates}
use Rattle.rules.specs.Engine.{ours}
use Rattle.rules.specs.Steps.{done, opened}
use Rattle.rules.specs.Calls.{Put, Get, Deliver, Drain}
use Rattle.rules.specs.Cases.{rules, Case, case_of, ten, Computed}

-- the value, origin and first three columns of an entry
abbrev held : State → (s x : ℕ) → List ℕ
held S s x = let e = S.store s x in e.value ∷ e.origin ∷ e.depends 0 ∷ e.depends 1 ∷ e.depends 2 ∷ []

abbrev row : State → (s : ℕ) → List ℕ
row S s = S.depends s 0 ∷ S.depends s 1 ∷ S.depends s 2 ∷ []

unfoldable pub ranks : List Case
ranks =
    -- 1 overwrites 0's put without a get: it depends on it, sends that and stores it, and its site depends on both
    case_of 0 (opened 3 2) (Put 0 0 5 ∷ Deliver 1 0 ∷ Put 1 0 6 ∷ []) (done 0 0 1 5 ∷ done 0 0 1 5 ∷ done 0 1 1 6 ∷ [])
    (λ S T. held T 1 0 ++ row S 1 ++ row T 1) ((6 ∷ 1 ∷ 1 ∷ 0 ∷ 0 ∷ []) ++ (0 ∷ 0 ∷ 0 ∷ []) ++ (1 ∷ 1 ∷ 0 ∷ []))
    -- so 2 waits for 0's put
    ∷ case_of 0 (opened 3 2) (Put 0 0 5 ∷ Deliver 1 0 ∷ Put 1 0 6 ∷ Deliver 2 1 ∷ Deliver 2 0 ∷ Deliver 2 1 ∷ [])
    (done 0 0 1 5 ∷ done 0 0 1 5 ∷ done 0 1 1 6 ∷ ten 0 1 1 ∷ done 0 0 1 5 ∷ done 0 1 1 6 ∷ []) (λ S T. held T 2 0) (6 ∷ 1 ∷ 1 ∷ 0 ∷ 0 ∷ [])
    -- ranks 1 and 0: the higher stays, whatever comes later, and the count rises
    ∷ case_of 0 (opened 2 2) (Put 0 0 5 ∷ Put 0 0 7 ∷ Put 1 0 6 ∷ Deliver 0 1 ∷ Drain 1 903 ∷ [])
    (done 0 0 1 5 ∷ done 0 0 2 7 ∷ done 0 1 1 6 ∷ done 0 1 1 6 ∷ done 0 0 2 4 ∷ [])
    (λ S T. held T 0 0 ++ held T 1 0 ++ (T.applied 0 1 ∷ T.applied 1 0 ∷ [])) ((7 ∷ 0 ∷ 1 ∷ 0 ∷ 0 ∷ []) ++ (7 ∷ 0 ∷ 1 ∷ 0 ∷ 0 ∷ []) ++ (1 ∷ 2 ∷ []))
    -- equal ranks: the higher origin, both ways; a never-written key takes any
    ∷ case_of 0 (opened 2 2) (Put 0 0 5 ∷ Put 1 0 6 ∷ Put 1 1 8 ∷ Drain 0 903 ∷ Drain 1 903 ∷ [])
    (done 0 0 1 5 ∷ done 0 1 1 6 ∷ done 1 1 2 8 ∷ done 0 0 2 4 ∷ done 0 0 1 3 ∷ [])
    (λ S T. held T 0 0 ++ held T 1 0 ++ held T 0 1) ((6 ∷ 1 ∷ 0 ∷ 0 ∷ 0 ∷ []) ++ (6 ∷ 1 ∷ 0 ∷ 0 ∷ 0 ∷ []) ++ (8 ∷ 1 ∷ 0 ∷ 1 ∷ 0 ∷ []))
    -- "an origin not lower": of the entry's own origin and rank, which only a damaged table has, the update replaces
    ∷ case_of 0 (with_store (with_updates (with_applied (opened 2 2) ((λ s o. 1) ⟨ 1 ⟩⟨ 1 ≔ 2 ⟩)) (λ o p. record { value = 9; key = 0; zero = 0; clock = 2; depends = zeros }))
    (λ s x. record { value = 5; origin = 1; zero = 0; clock = 1; depends = zeros }))
    (Deliver 0 1 ∷ []) (done 0 1 2 9 ∷ []) (λ S T. held S 0 0 ++ held T 0 0) ((5 ∷ 1 ∷ 0 ∷ 0 ∷ 0 ∷ []) ++ (9 ∷ 1 ∷ 0 ∷ 0 ∷ 0 ∷ []))
    -- a rank is a sum: two causes of two sites outrank one
    ∷ case_of 0 (opened 3 3) (Put 0 1 1 ∷ Put 1 2 2 ∷ Drain 2 903 ∷ Get 2 1 ∷ Get 2 2 ∷ Put 2 0 9 ∷ Put 1 0 8 ∷ Drain 1 903 ∷ [])
    (done 1 0 1 1 ∷ done 2 1 1 2 ∷ done 0 0 2 6 ∷ done 1 0 1 1 ∷ done 2 1 1 2 ∷ done 0 2 1 9 ∷ done 0 1 2 8 ∷ done 0 0 2 6 ∷ [])
    (λ S T. held S 1 0 ++ held T 1 0) ((8 ∷ 1 ∷ 0 ∷ 1 ∷ 0 ∷ []) ++ (9 ∷ 2 ∷ 1 ∷ 1 ∷ 0 ∷ []))
    ∷ []

pub ranked_so : Computed ours ranks
unfolding rules ranks
ranked_so = (refl, (refl, (refl, (refl, (refl, (refl, tt))))))

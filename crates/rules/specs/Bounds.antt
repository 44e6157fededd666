-- The rules at their bounds: each condition on both sides of its number, which of two is answered, and each number that a step writes. Assumes nothing.
use Rattle.std.specs.Prelude.{◌≡◌, refl, true, false, List, [], ◌∷◌, ◌++◌, map, ℕ, ◌+◌}
use Rattle.clock.specs.Map.{◌⟨◌≔◌⟩, ◌⟨◌⟩⟨◌≔◌⟩}
use Rattle.clock.specs.Vector.{Vector, zeros}
use Rattle.layout.specs.State.{State, Entry, Update, with_applied, with_depends, with_store, with_updates}
use Rattle.rules.specs.Engine.{ours}
use Rattle.rules.specs.Steps.{refused, done, opened}
use Rattle.rules.specs.Refusals.{order, follows}
use Rattle.rules.specs.Calls.{Open, Put, Get, Deliver, Drain}
use Rattle.rules.specs.Cases.{rules, Case, case, case_of, ten, spent, Computed}
use Rattle.rules.specs.SoundCases.{clock_in}

-- two sites that have applied c puts of each origin, and depend on d of each
abbrev even : (c d : ℕ) → State
even c d = with_depends (with_applied (opened 2 2) (λ s o. c)) (λ s o. d)

-- n sites that lack the last sixteen puts of site 0, from clock m + 1
abbrev behind : (n m : ℕ) → State
behind n m =
    let U = with_updates (opened n 2) (λ o p. record { value = 5; key = 0; zero = 9; clock = clock_in m p; depends = zeros }) in
    with_applied U ((λ s o. m) ⟨ 0 ⟩⟨ 0 ≔ m + 16 ⟩)

-- two sites of which site 1 has 3 puts of each origin and lacks clock 4 of site 0, with this vector
abbrev waits : Vector → State
waits v = with_updates (with_applied (even 3 7) ((λ s o. 3) ⟨ 0 ⟩⟨ 0 ≔ 4 ⟩)) (λ o p. record { value = 5; key = 1; zero = 9; clock = 4; depends = v })

-- site 0 holds clock 3 of site 1 in key 1, with its column numbers as its vector
abbrev holds : (d : ℕ) → State
holds d = with_store (even 3 d) (λ s x. record { value = 5; origin = 1; zero = 9; clock = 3; depends = λ j. j })

abbrev eight : Vector → List ℕ
eight v = v 0 ∷ v 1 ∷ v 2 ∷ v 3 ∷ v 4 ∷ v 5 ∷ v 6 ∷ v 7 ∷ []

abbrev in_entry : Entry → List ℕ
in_entry e = e.value ∷ e.origin ∷ e.zero ∷ e.clock ∷ eight e.depends

abbrev in_update : Update → List ℕ
in_update u = u.value ∷ u.key ∷ u.zero ∷ u.clock ∷ eight u.depends

-- each under the code that it is about
unfoldable pub bounds : List Case
bounds =
    case 2 (opened 9 1) (Put 9 1 5 ∷ Get 9 1 ∷ Deliver 9 9 ∷ Drain 9 0 ∷ Open 1 1 ∷ []) (refused 2 ∷ refused 2 ∷ refused 2 ∷ refused 2 ∷ refused 0 ∷ [])
    ∷ case 3 (opened 1 1) (Open 0 1 ∷ Open 9 1 ∷ Open 1 0 ∷ Open 1 65 ∷ Open 8 64 ∷ Open 1 1 ∷ [])
    (refused 3 ∷ refused 3 ∷ refused 3 ∷ refused 3 ∷ refused 0 ∷ refused 0 ∷ [])
    ∷ case 4 (opened 2 2) (Get 1 1 ∷ Get 2 1 ∷ Deliver 1 0 ∷ Deliver 2 0 ∷ Deliver 0 1 ∷ Deliver 0 2 ∷ Drain 1 1 ∷ Drain 2 1 ∷ [])
    (done 1 0 0 0 ∷ refused 4 ∷ refused 9 ∷ refused 4 ∷ refused 9 ∷ refused 4 ∷ done 0 0 0 1 ∷ refused 4 ∷ [])
    -- 4 before 5 and 6
    ∷ case 4 (opened 2 2) (Deliver 2 2 ∷ Get 2 2 ∷ Put 2 2 5 ∷ []) (refused 4 ∷ refused 4 ∷ refused 4 ∷ [])
    ∷ case 6 (opened 2 2) (Get 0 1 ∷ Get 0 2 ∷ []) (done 1 0 0 0 ∷ refused 6 ∷ [])
    -- 6 before 7
    ∷ case 6 (even 65535 0) (Put 0 1 5 ∷ Put 0 2 5 ∷ []) (refused 7 ∷ refused 6 ∷ [])
    ∷ case 7 (even 65534 0) (Put 0 1 5 ∷ Put 0 1 5 ∷ []) (done 1 0 65535 5 ∷ refused 7 ∷ [])
    -- 7 before 8
    ∷ case 7 (behind 2 65519) (Put 0 0 5 ∷ []) (refused 7 ∷ [])
    ∷ case 8 (behind 2 65518) (Put 0 0 5 ∷ Deliver 1 0 ∷ Put 0 0 5 ∷ []) (refused 8 ∷ done 0 0 65519 5 ∷ done 0 0 65535 5 ∷ [])
    -- some site is enough for 8, and another site's puts do not count
    ∷ case 8 (behind 3 0) (Deliver 1 0 ∷ Put 0 0 5 ∷ Put 1 0 6 ∷ Deliver 2 0 ∷ Put 0 0 5 ∷ [])
    (done 0 0 1 5 ∷ refused 8 ∷ done 0 1 1 6 ∷ done 0 0 1 5 ∷ done 0 0 17 5 ∷ [])
    -- 9 before 10
    ∷ case 9 (waits zeros) (Deliver 1 0 ∷ Deliver 1 0 ∷ []) (done 1 0 4 5 ∷ refused 9 ∷ [])
    ∷ case 9 (with_applied (waits (λ j. 99)) (λ s o. 3)) (Deliver 1 0 ∷ []) (refused 9 ∷ [])
    -- each of the eight columns; the lowest is named with its number, and all of them by the mask
    ∷ case 10 (waits (λ j. 3)) (Deliver 1 0 ∷ []) (done 1 0 4 5 ∷ [])
    ∷ case 10 (waits (zeros ⟨ 0 ≔ 4 ⟩)) (Deliver 1 0 ∷ []) (ten 0 4 1 ∷ [])
    ∷ case 10 (waits (zeros ⟨ 7 ≔ 9 ⟩)) (Deliver 1 0 ∷ []) (ten 7 9 128 ∷ [])
    ∷ case 10 (waits (zeros ⟨ 5 ≔ 8 ⟩ ⟨ 3 ≔ 6 ⟩)) (Deliver 1 0 ∷ []) (ten 3 6 40 ∷ [])
    ∷ case 10 (waits (λ j. 4)) (Deliver 1 0 ∷ []) (ten 0 4 255 ∷ [])
    ∷ case 10 (waits ((λ j. 3) ⟨ 2 ≔ 4 ⟩)) (Deliver 1 0 ∷ []) (ten 2 4 4 ∷ [])
    -- 3 has got puts of 0, 1 and 7 when it puts; 4 waits for all three, then not for 1, whose column equals its count, then for 7 alone
    ∷ case 10 (opened 8 3)
    (Put 0 0 5 ∷ Put 1 1 6 ∷ Put 7 2 7 ∷ Drain 3 903 ∷ Get 3 0 ∷ Get 3 1 ∷ Get 3 2 ∷ Put 3 0 8
    ∷ Deliver 4 3 ∷ Deliver 4 1 ∷ Deliver 4 3 ∷ Deliver 4 0 ∷ Deliver 4 3 ∷ Deliver 4 7 ∷ Deliver 4 3 ∷ [])
    (done 0 0 1 5 ∷ done 1 1 1 6 ∷ done 2 7 1 7 ∷ done 0 0 3 17 ∷ done 0 0 1 5 ∷ done 1 1 1 6 ∷ done 2 7 1 7 ∷ done 0 3 1 8
    ∷ ten 0 1 131 ∷ done 1 1 1 6 ∷ ten 0 1 129 ∷ done 0 0 1 5 ∷ ten 7 1 128 ∷ done 2 7 1 7 ∷ done 0 3 1 8 ∷ [])
    -- case 14
    ∷ case 11 (opened 3 4) (Put 0 1 7 ∷ Deliver 1 0 ∷ Get 1 1 ∷ Put 1 2 9 ∷ Drain 2 5 ∷ []) (done 1 0 1 7 ∷ done 1 0 1 7 ∷ done 1 0 1 7 ∷ done 2 1 1 9 ∷ spent 2 5 ∷ [])
    ∷ case 11 (opened 3 4) (Put 0 1 7 ∷ Deliver 1 0 ∷ Get 1 1 ∷ Put 1 2 9 ∷ Drain 2 6 ∷ []) (done 1 0 1 7 ∷ done 1 0 1 7 ∷ done 1 0 1 7 ∷ done 2 1 1 9 ∷ done 0 0 2 6 ∷ [])
    -- a put: its update and its entry with the row before it, the counts and the row of its site
    ∷ case_of 0 (even 3 2) (Put 0 1 5 ∷ []) (done 1 0 4 5 ∷ [])
    (λ S T. in_update (T.updates 0 3) ++ in_entry (T.store 0 1) ++ eight (T.applied 0) ++ eight (T.applied 1) ++ eight (T.depends 0) ++ eight (T.depends 1))
    (5 ∷ 1 ∷ 0 ∷ 4 ∷ eight (λ j. 2) ++ (5 ∷ 0 ∷ 0 ∷ 4 ∷ eight (λ j. 2)) ++ eight ((λ j. 3) ⟨ 0 ≔ 4 ⟩) ++ eight (λ j. 3) ++ eight ((λ j. 2) ⟨ 0 ≔ 4 ⟩) ++ eight (λ j. 2))
    -- the greater of its clock and the number there
    ∷ case_of 0 (even 3 7) (Put 0 1 5 ∷ []) (done 1 0 4 5 ∷ []) (λ S T. eight (T.depends 0)) (eight (λ j. 7))
    -- a get: the entry's vector and its pair, in the row of its site
    ∷ case_of 0 (holds 0) (Get 0 1 ∷ []) (done 1 1 3 5 ∷ []) (λ S T. eight (T.depends 0) ++ eight (T.depends 1)) ((0 ∷ 3 ∷ 2 ∷ 3 ∷ 4 ∷ 5 ∷ 6 ∷ 7 ∷ []) ++ eight zeros)
    ∷ case_of 0 (holds 4) (Get 0 1 ∷ []) (done 1 1 3 5 ∷ []) (λ S T. eight (T.depends 0)) (4 ∷ 4 ∷ 4 ∷ 4 ∷ 4 ∷ 5 ∷ 6 ∷ 7 ∷ [])
    -- a delivery: its entry and the counts of its site, and no row
    ∷ case_of 0 (waits (λ j. 3)) (Deliver 1 0 ∷ []) (done 1 0 4 5 ∷ [])
    (λ S T. in_entry (T.store 1 1) ++ in_entry (T.store 0 1) ++ eight (T.applied 1) ++ eight (T.applied 0) ++ eight (T.depends 1))
    (5 ∷ 0 ∷ 0 ∷ 4 ∷ eight (λ j. 3) ++ in_entry ((opened 2 2).store 0 1) ++ eight ((λ j. 3) ⟨ 0 ≔ 4 ⟩) ++ eight ((λ j. 3) ⟨ 0 ≔ 4 ⟩) ++ eight (λ j. 7))
    ∷ []

pub at_bounds : Computed ours bounds
unfolding rules bounds
at_bounds =
    (refl, (refl, (refl, (refl, (refl, (refl, (refl, (refl, (refl, (refl, (refl, (refl, (refl, (refl, (refl, (refl, (refl, (refl, (refl, (refl, (refl, (refl, (refl, (refl, (refl, (refl, tt))))))))))))))))))))))))))

-- document 02's places in the order: 14 before 1, 16 and 17 after 5, 19, 15 and 13 after 6, 18 between 7 and 8; no code twice, and no other
in_order :
    map (λ l. follows l order)
    ((12 ∷ 14 ∷ 1 ∷ []) ∷ (5 ∷ 16 ∷ 17 ∷ 6 ∷ []) ∷ (6 ∷ 19 ∷ 15 ∷ 13 ∷ 7 ∷ 18 ∷ 8 ∷ []) ∷ (10 ∷ 20 ∷ 21 ∷ 11 ∷ []) ∷ (7 ∷ 6 ∷ []) ∷ (6 ∷ 6 ∷ []) ∷ (23 ∷ []) ∷ [])
    ≡ true ∷ true ∷ true ∷ true ∷ false ∷ false ∷ false ∷ []
in_order = refl

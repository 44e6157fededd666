-- Look and adopt, at their edges, computed. Assumes nothing.
use Rattle.std.specs.Prelude.{refl, List, [], ◌∷◌, ◌++◌}
use Rattle.rules.specs.Engine.{ours}
use Rattle.rules.specs.Steps.{Numbers, refused, done, opened}
use Rattle.rules.specs.Calls.{Call, Put, Get, Deliver, Look, Adopt}
use Rattle.rules.specs.Cases.{rules, Case, case, case_of, unchanged, ten, Computed}

-- 1 has 0's put of key 0
abbrev handed : List Call
handed = Put 0 0 7 ∷ Deliver 1 0 ∷ []

abbrev handed_so : List Numbers
handed_so = done 0 0 1 7 ∷ done 0 0 1 7 ∷ []

unfoldable pub looks : List Case
looks =
    -- a look answers as get and leaves every byte, and so does the adopt of a never-written key
    case_of 0 (opened 3 2) (handed ++ (Look 1 0 ∷ [])) (handed_so ++ (done 0 0 1 7 ∷ [])) unchanged (1 ∷ [])
    ∷ case_of 0 (opened 3 2) (handed ++ (Adopt 1 1 0 0 ∷ [])) (handed_so ++ (done 1 0 0 0 ∷ [])) unchanged (1 ∷ [])
    -- what was looked at is not waited for, what was adopted is
    ∷ case 0 (opened 3 2) (handed ++ (Look 1 0 ∷ Put 1 1 9 ∷ Deliver 2 1 ∷ [])) (handed_so ++ (done 0 0 1 7 ∷ done 1 1 1 9 ∷ done 1 1 1 9 ∷ []))
    ∷ case 10 (opened 3 2) (handed ++ (Look 1 0 ∷ Adopt 1 0 0 1 ∷ Put 1 1 9 ∷ Deliver 2 1 ∷ [])) (handed_so ++ (done 0 0 1 7 ∷ done 0 0 1 7 ∷ done 1 1 1 9 ∷ ten 0 1 1 ∷ []))
    -- an adopt takes on the entry's vector and its pair: 2 adopts 1's put, which depends on 0's
    ∷ case_of 0 (opened 3 2) (handed ++ (Get 1 0 ∷ Put 1 1 9 ∷ Deliver 2 0 ∷ Deliver 2 1 ∷ Adopt 2 1 1 1 ∷ []))
    (handed_so ++ (done 0 0 1 7 ∷ done 1 1 1 9 ∷ done 0 0 1 7 ∷ done 1 1 1 9 ∷ done 1 1 1 9 ∷ []))
    (λ S T. S.depends 2 0 ∷ S.depends 2 1 ∷ T.depends 2 0 ∷ T.depends 2 1 ∷ []) (0 ∷ 0 ∷ 1 ∷ 1 ∷ [])
    -- 15: another clock, another origin, a clock that no entry can have, and an entry that was overwritten since
    ∷ case 15 (opened 3 2) (handed ++ (Adopt 1 0 0 2 ∷ Adopt 1 0 1 1 ∷ Adopt 1 0 0 0 ∷ Adopt 1 0 0 65537 ∷ Adopt 1 1 0 65536 ∷ Adopt 1 1 0 1 ∷ Adopt 1 1 2 0 ∷ []))
    (handed_so ++ (refused 15 ∷ refused 15 ∷ refused 15 ∷ refused 15 ∷ refused 15 ∷ refused 15 ∷ refused 15 ∷ []))
    ∷ case 15 (opened 3 2) (handed ++ (Look 1 0 ∷ Put 1 0 8 ∷ Adopt 1 0 0 1 ∷ Adopt 1 0 1 1 ∷ []))
    (handed_so ++ (done 0 0 1 7 ∷ done 0 1 1 8 ∷ refused 15 ∷ done 0 1 1 8 ∷ []))
    -- 4 of either name before 6, 6 before 15
    ∷ case 4 (opened 2 2) (Look 2 2 ∷ Look 1 2 ∷ Adopt 2 2 1 1 ∷ Adopt 1 2 2 1 ∷ Adopt 1 2 1 1 ∷ Adopt 1 1 1 1 ∷ [])
    (refused 4 ∷ refused 6 ∷ refused 4 ∷ refused 4 ∷ refused 6 ∷ refused 15 ∷ [])
    ∷ []

pub looked_so : Computed ours looks
unfolding rules looks
looked_so = (refl, (refl, (refl, (refl, (refl, (refl, (refl, (refl, tt))))))))

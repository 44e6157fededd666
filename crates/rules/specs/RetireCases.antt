-- Retirement, worked: who is refused, who counts no longer, and what stays. Assumes nothing.
use Rattle.std.specs.Prelude.{refl, List, [], ◌∷◌, ◌++◌, replicate}
use Rattle.rules.specs.Engine.{ours}
use Rattle.rules.specs.Steps.{refused, done, opened}
use Rattle.rules.specs.Calls.{Put, Get, Look, Adopt, Deliver, Drain, Cold, Touch, Retire}
use Rattle.rules.specs.Cases.{rules, Case, case, case_of, fives, unchanged, Computed}

unfoldable pub retirements : List Case
retirements =
    -- the bit, zeros, and no other number; again it is 16, of no site 4, and the last live site is 17
    case_of 16 (opened 3 2) (Retire 1 ∷ Retire 1 ∷ Retire 3 ∷ Retire 0 ∷ Retire 2 ∷ []) (refused 0 ∷ refused 16 ∷ refused 4 ∷ refused 0 ∷ refused 17 ∷ [])
    (λ S T. T.retired ∷ []) (3 ∷ [])
    ∷ case 17 (opened 1 2) (Retire 0 ∷ Retire 1 ∷ []) (refused 17 ∷ refused 4 ∷ [])
    -- every call at a retired site, after 4 and 5 and before 6
    ∷ case_of 16 (opened 3 2)
    (Retire 1 ∷ Put 1 0 5 ∷ Put 1 9 5 ∷ Get 1 0 ∷ Get 1 9 ∷ Look 1 0 ∷ Adopt 1 0 0 0 ∷ Adopt 1 0 3 0 ∷ Deliver 1 0 ∷ Deliver 1 1 ∷ Deliver 1 3 ∷ Drain 1 0 ∷ Cold 1 5 1 64 ∷ Touch 1 0 5 1 0 ∷ [])
    (refused 0 ∷ refused 16 ∷ refused 16 ∷ refused 16 ∷ refused 16 ∷ refused 16 ∷ refused 16 ∷ refused 4 ∷ refused 16 ∷ refused 5 ∷ refused 4 ∷ refused 16 ∷ refused 16 ∷ refused 16 ∷ [])
    unchanged (1 ∷ [])
    -- its own undelivered puts stay for the others
    ∷ case 0 (opened 3 2) (Put 1 0 5 ∷ Retire 1 ∷ Deliver 0 1 ∷ Deliver 2 1 ∷ Get 2 0 ∷ []) (done 0 1 1 5 ∷ refused 0 ∷ done 0 1 1 5 ∷ done 0 1 1 5 ∷ done 0 1 1 5 ∷ [])
    -- "every put answered 8": it no longer counts, and others do
    ∷ case 8 (opened 2 2) (replicate 16 (Put 0 0 5) ++ (Put 0 0 5 ∷ Retire 1 ∷ Put 0 0 5 ∷ [])) (fives ++ (refused 8 ∷ refused 0 ∷ done 0 0 17 5 ∷ []))
    ∷ case 8 (opened 3 2) (replicate 16 (Put 0 0 5) ++ (Retire 1 ∷ Put 0 0 5 ∷ Deliver 2 0 ∷ Put 0 0 5 ∷ []))
    (fives ++ (refused 0 ∷ refused 8 ∷ done 0 0 1 5 ∷ done 0 0 17 5 ∷ []))
    ∷ []

pub retired_so : Computed ours retirements
unfolding rules retirements
retired_so = (refl, (refl, (refl, (refl, (refl, (refl, tt))))))

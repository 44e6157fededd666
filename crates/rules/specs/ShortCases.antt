-- Short lists, worked: what a put sends and leaves, and what a get or an adopt adds. Assumes nothing.
use Rattle.std.specs.Prelude.{refl, List, [], ◌∷◌, ◌++◌, ℕ}
use Rattle.layout.specs.State.{State}
use Rattle.rules.specs.Engine.{long, short}
use Rattle.rules.specs.Steps.{Numbers, done, opened}
use Rattle.rules.specs.Calls.{Call, Put, Get, Deliver, Adopt, Touch}
use Rattle.rules.specs.Touch.{touch_of}
use Rattle.rules.specs.Cases.{rules, Case, case, case_of, ten, Computed}

-- the first three columns of a row, and of the vector at a place
abbrev row : State → (s : ℕ) → List ℕ
row S s = S.depends s 0 ∷ S.depends s 1 ∷ S.depends s 2 ∷ []

abbrev sent : State → (o p : ℕ) → List ℕ
sent S o p = let v = (S.updates o p).depends in v 0 ∷ v 1 ∷ v 2 ∷ []

-- 0 puts; 1 has it, gets it and puts; 2 has both, gets 1's and puts
abbrev chain : List Call
chain = Put 0 0 7 ∷ Deliver 1 0 ∷ Get 1 0 ∷ Put 1 1 8 ∷ Deliver 2 0 ∷ Deliver 2 1 ∷ Get 2 1 ∷ Put 2 2 9 ∷ []

abbrev chain_so : List Numbers
chain_so = done 0 0 1 7 ∷ done 0 0 1 7 ∷ done 0 0 1 7 ∷ done 1 1 1 8 ∷ done 0 0 1 7 ∷ done 1 1 1 8 ∷ done 1 1 1 8 ∷ done 2 2 1 9 ∷ []

-- what the three sites depend on, and what their puts sent, with this last row of 2 and vector of its put
abbrev chained : (last vector : List ℕ) → List Case
chained last vector =
    case_of 0 (opened 3 3) chain chain_so (λ S T. row T 2 ++ sent T 2 0) (last ++ vector) ∷ []

-- long, 2 sends 0's put and 1's; short, only the one that it read, and then only its own is left
pub long_chain : Computed long (chained (1 ∷ 1 ∷ 1 ∷ []) (1 ∷ 1 ∷ 0 ∷ []))
unfolding rules
long_chain = (refl, tt)

pub short_chain : Computed short (chained (0 ∷ 0 ∷ 1 ∷ []) (0 ∷ 1 ∷ 0 ∷ []))
unfolding rules
short_chain = (refl, tt)

unfoldable pub shorts : List Case
shorts =
    -- a put sends the row as it was, and leaves its own pair alone; the next sends that pair
    case_of 0 (opened 3 3) (Put 0 0 7 ∷ Put 0 1 8 ∷ Put 0 2 9 ∷ []) (done 0 0 1 7 ∷ done 1 0 2 8 ∷ done 2 0 3 9 ∷ [])
    (λ S T. row T 0 ++ sent T 0 0 ++ sent T 0 1 ++ sent T 0 2) (3 ∷ 0 ∷ 0 ∷ 0 ∷ 0 ∷ 0 ∷ 1 ∷ 0 ∷ 0 ∷ 2 ∷ 0 ∷ 0 ∷ [])
    -- a get adds the pair that it read, and nothing of the entry's vector; so does an adopt, of what it names
    ∷ case_of 0 (opened 3 3) (chain ++ (Deliver 0 1 ∷ Deliver 0 2 ∷ Get 0 2 ∷ Adopt 0 1 1 1 ∷ []))
    (chain_so ++ (done 1 1 1 8 ∷ done 2 2 1 9 ∷ done 2 2 1 9 ∷ done 1 1 1 8 ∷ []))
    (λ S T. row S 0 ++ row T 0) (1 ∷ 0 ∷ 1 ∷ 1 ∷ 1 ∷ 1 ∷ [])
    -- a get of a never-written key adds nothing
    ∷ case_of 0 (opened 3 3) (Put 0 0 7 ∷ Get 0 1 ∷ []) (done 0 0 1 7 ∷ done 1 0 0 0 ∷ []) (λ S T. row T 0) (1 ∷ 0 ∷ 0 ∷ [])
    -- a touch is its short get and its short put
    ∷ case_of 0 (opened 3 3) (Put 0 0 (touch_of 7 0 0) ∷ Deliver 1 0 ∷ Put 1 1 5 ∷ Touch 1 0 9 1 2 ∷ [])
    (done 0 0 1 (touch_of 7 0 0) ∷ done 0 0 1 (touch_of 7 0 0) ∷ done 1 1 1 5 ∷ done 0 1 2 (touch_of 7 1 2) ∷ [])
    (λ S T. row T 1 ++ sent T 1 1) (0 ∷ 2 ∷ 0 ∷ 1 ∷ 1 ∷ 0 ∷ [])
    -- beside a 10, only what the update lists is named: 3's causes are 0's, 1's and 2's puts, and it lists 2's
    ∷ case 10 (opened 4 3) (chain ++ (Deliver 3 2 ∷ Deliver 3 1 ∷ Deliver 3 0 ∷ Deliver 3 1 ∷ Deliver 3 2 ∷ []))
    (chain_so ++ (ten 1 1 2 ∷ ten 0 1 1 ∷ done 0 0 1 7 ∷ done 1 1 1 8 ∷ done 2 2 1 9 ∷ []))
    ∷ []

pub short_so : Computed short shorts
unfolding rules shorts
short_so = (refl, (refl, (refl, (refl, (refl, tt)))))

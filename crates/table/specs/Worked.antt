-- The bytes of one worked table, at the places that document 01 gives; the numbers of a record are all different. Assumes nothing.
use Rattle.std.specs.Prelude.{◌≡◌, refl, List, [], ◌∷◌, ◌++◌, ℕ, ◌+◌, ◌*◌, length, take, drop, replicate}
use Rattle.layout.specs.State.{State, bytes_of}
use Rattle.rules.specs.Engine.{ours}
use Rattle.rules.specs.Steps.{opened}
use Rattle.rules.specs.Calls.{Call, Put, Get, Deliver, Retire, run}
use Rattle.rules.specs.Cases.{rules}

-- the table that calls leave
abbrev pub after : State → List Call → State
after S [] = S
after S (c ∷ cs) = after (run ours S c).after cs

-- 0 puts five times; 1 applies four of them, gets the fourth and puts three times; 2 applies all of that and puts twice; 0 applies three puts
pub calls : List Call
calls =
    replicate 5 (Put 0 1 7)
    ++ (replicate 4 (Deliver 1 0)
    ++ (Get 1 1 ∷ Put 1 2 8 ∷ Put 1 2 8 ∷ Put 1 6 0x0A0B0C0D
    ∷ (replicate 4 (Deliver 2 0) ++ (replicate 3 (Deliver 2 1) ++ (Put 2 5 9 ∷ Put 2 5 9 ∷ Deliver 0 1 ∷ Deliver 0 2 ∷ Deliver 0 2 ∷ [])))))

pub bytes : List ℕ
bytes = bytes_of (after (opened 3 7) calls)

-- the bytes from a place on, as many as said
abbrev pub from : (place many : ℕ) → List ℕ
from p m = take m (drop p bytes)

-- "exactly 15,620 bytes"; "site count n", "key count k", the retired sites, a zero byte
pub long : length bytes ≡ 15620
unfolding rules bytes_of calls bytes
long = refl

pub header : from 0 4 ≡ 3 ∷ 7 ∷ 0 ∷ 0 ∷ []
unfolding rules bytes_of calls bytes
header = refl

-- "bit m worth 2 to the power m": with the sites 1 and 2 retired
pub retired : take 4 (bytes_of (after (opened 3 7) (Retire 1 ∷ Retire 2 ∷ []))) ≡ 3 ∷ 7 ∷ 6 ∷ 0 ∷ []
unfolding rules bytes_of
retired = refl

-- "row is the site, column the origin, 2 bytes each": the first two rows of the applied counts, and of the dependencies
pub applied : from 4 16 ∷ from 20 16 ∷ []
    ≡ (0 ∷ 5 ∷ 0 ∷ 1 ∷ 0 ∷ 2 ∷ 0 ∷ 0 ∷ 0 ∷ 0 ∷ 0 ∷ 0 ∷ 0 ∷ 0 ∷ 0 ∷ 0 ∷ []) ∷ (0 ∷ 4 ∷ 0 ∷ 3 ∷ 0 ∷ 0 ∷ 0 ∷ 0 ∷ 0 ∷ 0 ∷ 0 ∷ 0 ∷ 0 ∷ 0 ∷ 0 ∷ 0 ∷ []) ∷ []
unfolding rules bytes_of calls bytes
applied = refl

pub depends : from 132 16 ∷ from 148 16 ∷ []
    ≡ (0 ∷ 5 ∷ 0 ∷ 0 ∷ 0 ∷ 0 ∷ 0 ∷ 0 ∷ 0 ∷ 0 ∷ 0 ∷ 0 ∷ 0 ∷ 0 ∷ 0 ∷ 0 ∷ []) ∷ (0 ∷ 4 ∷ 0 ∷ 3 ∷ 0 ∷ 0 ∷ 0 ∷ 0 ∷ 0 ∷ 0 ∷ 0 ∷ 0 ∷ 0 ∷ 0 ∷ 0 ∷ 0 ∷ []) ∷ []
unfolding rules bytes_of calls bytes
depends = refl

-- "value (4 bytes), origin (1), zero (1), clock (2), dependency vector": the entry of key 6 at site 2
pub entry : from (260 + (2 * 64 + 6) * 24) 24
    ≡ 0x0A ∷ 0x0B ∷ 0x0C ∷ 0x0D ∷ 1 ∷ 0 ∷ 0 ∷ 3 ∷ 0 ∷ 4 ∷ 0 ∷ 2 ∷ 0 ∷ 0 ∷ 0 ∷ 0 ∷ 0 ∷ 0 ∷ 0 ∷ 0 ∷ 0 ∷ 0 ∷ 0 ∷ 0 ∷ []
unfolding rules bytes_of calls bytes
entry = refl

-- "value (4), key (1), zero (1), clock (2), dependency vector": the third update of site 1
pub update : from (12548 + (1 * 16 + 2) * 24) 24
    ≡ 0x0A ∷ 0x0B ∷ 0x0C ∷ 0x0D ∷ 6 ∷ 0 ∷ 0 ∷ 3 ∷ 0 ∷ 4 ∷ 0 ∷ 2 ∷ 0 ∷ 0 ∷ 0 ∷ 0 ∷ 0 ∷ 0 ∷ 0 ∷ 0 ∷ 0 ∷ 0 ∷ 0 ∷ 0 ∷ []
unfolding rules bytes_of calls bytes
update = refl

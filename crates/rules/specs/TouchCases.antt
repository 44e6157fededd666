-- Touch records, the cold list and touch, at their edges, computed. Assumes nothing.
use Rattle.std.specs.Prelude.{◌≡◌, refl, List, [], ◌∷◌, ◌++◌, map, ℕ, ◌+◌, replicate}
use Rattle.layout.specs.State.{State}
use Rattle.rules.specs.Touch.{hour_of, toucher_of, tier_of, touch_of, well_formed, fresh, cold, ahead, kind_of, tag, cold_list}
use Rattle.rules.specs.Engine.{ours}
use Rattle.rules.specs.Steps.{Numbers, refused, done, opened}
use Rattle.rules.specs.Refusals.{first}
use Rattle.rules.specs.Calls.{Call, Put, Deliver, Cold, Touch, asks, run}
use Rattle.rules.specs.Cases.{rules, Case, case, case_of, Computed}

-- ## Records and kinds

-- hour 0x1234, toucher 2, tier 3
pub parts : hour_of 0x12345800 ∷ toucher_of 0x12345800 ∷ tier_of 0x12345800 ∷ touch_of 0x1234 2 3 ∷ [] ≡ 0x1234 ∷ 2 ∷ 3 ∷ 0x12345800 ∷ []
parts = refl

-- toucher 4, and each of the eleven zero bits' ends
pub forms : map well_formed (touch_of 9 3 3 ∷ touch_of 9 4 0 ∷ 1 ∷ 1024 ∷ 2048 ∷ []) ≡ map well_formed (0 ∷ 1 ∷ 1 ∷ 1 ∷ 0 ∷ [])
forms = refl

-- at threshold 24, by now and hour: just below, at it, the last cold hour, the first clock ahead, and round after 65,535
pub kinds : map (λ (p : ℕ × ℕ). tag (kind_of p.0 24 (touch_of p.1 0 1))) ((30, 7) ∷ (31, 7) ∷ (32774, 7) ∷ (32775, 7) ∷ (6, 7) ∷ (22, 65535) ∷ (23, 65535) ∷ [])
    ≡ map tag (fresh ∷ cold ∷ cold ∷ ahead ∷ ahead ∷ fresh ∷ cold ∷ [])
kinds = refl

-- ## Calls

-- site 0 of two: key 0 is cold from hour 150 on at 50, key 1 has a clock ahead, key 2 is malformed, key 3 was never written
abbrev some_puts : List Call
some_puts = Put 0 0 (touch_of 100 0 1) ∷ Put 0 1 (touch_of 200 0 1) ∷ Put 0 2 1 ∷ []

abbrev put_so : List Numbers
put_so = done 0 0 1 (touch_of 100 0 1) ∷ done 1 0 2 (touch_of 200 0 1) ∷ done 2 0 3 1 ∷ []

abbrev row : State → (s : ℕ) → List ℕ
row S s = S.depends s 0 ∷ S.depends s 1 ∷ []

-- .. of three: keys 0, 4 and 5 are cold at hour 150 and threshold 50, 1 and 2 ahead, 3 malformed
abbrev five : List (ℕ × ℕ)
five = (0, touch_of 100 0 1) ∷ (1, touch_of 200 0 1) ∷ (2, touch_of 201 0 1) ∷ (3, 1) ∷ (4, touch_of 10 0 1) ∷ []

abbrev six_puts : List Call
six_puts = map (λ (p : ℕ × ℕ). Put 0 p.0 p.1) five ++ (Put 1 5 (touch_of 50 0 1) ∷ [])

abbrev five_so : List Numbers
five_so = map (λ (p : ℕ × ℕ). done p.0 0 (p.0 + 1) p.1) five

abbrev six_so : List Numbers
six_so = five_so ++ (done 5 1 1 (touch_of 50 0 1) ∷ [])

unfoldable pub touches : List Case
touches =
    -- now, the old hour for the backup scan and migration, now for restore
    case 0 (opened 2 4) (Touch 0 0 100 0 1 ∷ Touch 0 0 130 1 2 ∷ Touch 0 0 140 2 3 ∷ Touch 0 0 150 3 0 ∷ [])
    (done 0 0 1 (touch_of 100 0 1) ∷ done 0 0 2 (touch_of 100 1 2) ∷ done 0 0 3 (touch_of 100 2 3) ∷ done 0 0 4 (touch_of 150 3 0) ∷ [])
    -- 13 for toucher 1 or 2 alone: never written, malformed
    ∷ case 13 (opened 2 4) (Touch 0 1 100 1 0 ∷ Touch 0 1 100 2 0 ∷ Put 0 1 1 ∷ Touch 0 1 100 2 0 ∷ Touch 0 1 100 3 0 ∷ Touch 0 1 200 2 0 ∷ [])
    (refused 13 ∷ refused 13 ∷ done 1 0 1 1 ∷ refused 13 ∷ done 1 0 2 (touch_of 100 3 0) ∷ done 1 0 3 (touch_of 100 2 0) ∷ [])
    -- 4 and 6 before 13
    ∷ case 6 (opened 2 4) (Touch 2 4 0 1 0 ∷ Touch 1 4 0 1 0 ∷ Touch 1 3 0 1 0 ∷ []) (refused 4 ∷ refused 6 ∷ refused 13 ∷ [])
    -- 14 before all, at its bounds
    ∷ case 14 (opened 2 4) (Touch 9 9 0 4 0 ∷ Touch 9 9 0 0 4 ∷ Touch 9 9 65536 0 0 ∷ Touch 0 0 65535 3 3 ∷ [])
    (refused 14 ∷ refused 14 ∷ refused 14 ∷ done 0 0 1 (touch_of 65535 3 3) ∷ [])
    -- a refusal undoes the get: site 0 has 1's put of key 0, and no room
    ∷ case_of 8 (opened 2 4) (Put 1 0 (touch_of 7 0 0) ∷ Deliver 0 1 ∷ (replicate 16 (Put 0 1 5) ++ (Touch 0 0 9 1 0 ∷ [])))
    (done 0 1 1 (touch_of 7 0 0) ∷ done 0 1 1 (touch_of 7 0 0) ∷ (map (λ (c : ℕ). done 1 0 c 5) (1 ∷ 2 ∷ 3 ∷ 4 ∷ 5 ∷ 6 ∷ 7 ∷ 8 ∷ 9 ∷ 10 ∷ 11 ∷ 12 ∷ 13 ∷ 14 ∷ 15 ∷ 16 ∷ []) ++ (refused 8 ∷ [])))
    (λ S T. row S 0 ++ row T 0) (16 ∷ 0 ∷ 16 ∷ 0 ∷ [])
    -- a touch depends on what it got: 2 waits for 0's put
    ∷ case 10 (opened 3 4) (Put 0 0 (touch_of 7 0 0) ∷ Deliver 1 0 ∷ Touch 1 0 9 1 2 ∷ Deliver 2 1 ∷ [])
    (done 0 0 1 (touch_of 7 0 0) ∷ done 0 0 1 (touch_of 7 0 0) ∷ done 0 1 1 (touch_of 7 1 2) ∷ record { code = 10; key = 0; site = 0; clock = 1; value = 1 } ∷ [])
    -- the threshold's own hour is cold, one more is not
    ∷ case 0 (opened 2 4) (some_puts ++ (Cold 0 150 50 64 ∷ Cold 0 150 51 64 ∷ Cold 1 150 1 64 ∷ [])) (put_so ++ (done 1 1 1 0 ∷ done 0 1 1 0 ∷ done 0 0 0 0 ∷ []))
    -- 14 before all, at its bounds
    ∷ case 14 (opened 2 4) (Cold 9 0 0 64 ∷ Cold 9 0 32768 64 ∷ Cold 9 0 1 63 ∷ Cold 9 0 1 65 ∷ Cold 9 65536 1 64 ∷ Cold 1 65535 32767 64 ∷ Cold 1 0 1 64 ∷ Cold 2 0 1 64 ∷ [])
    (refused 14 ∷ refused 14 ∷ refused 14 ∷ refused 14 ∷ refused 14 ∷ done 0 0 0 0 ∷ done 0 0 0 0 ∷ refused 4 ∷ [])
    -- the list looks at every key, and its site depends on none
    ∷ case_of 0 (opened 2 4) (some_puts ++ (Deliver 1 0 ∷ Deliver 1 0 ∷ Cold 1 150 50 64 ∷ [])) (put_so ++ (done 0 0 1 (touch_of 100 0 1) ∷ done 1 0 2 (touch_of 200 0 1) ∷ done 1 1 0 0 ∷ []))
    (λ S T. row S 1 ++ row T 1) (0 ∷ 0 ∷ 0 ∷ 0 ∷ [])
    -- at site 2: three keys listed, two clocks ahead, one malformed; the last key is another origin's
    ∷ case_of 0 (opened 3 6) (six_puts ++ (Deliver 2 1 ∷ replicate 5 (Deliver 2 0)) ++ (Cold 2 150 50 64 ∷ [])) (six_so ++ (done 5 1 1 (touch_of 50 0 1) ∷ five_so) ++ (done 3 2 1 0 ∷ []))
    (λ S T. row S 2 ++ row T 2) (0 ∷ 0 ∷ 0 ∷ 0 ∷ [])
    ∷ []

pub touched_so : Computed ours touches
unfolding rules touches
touched_so = (refl, (refl, (refl, (refl, (refl, (refl, (refl, (refl, (refl, (refl, tt))))))))))

-- keys 1 and 3 cold: the list names them, ascending, and zeros behind them
pub listed_so : cold_list (run ours (run ours (opened 1 4) (Put 0 3 (touch_of 9 0 0))).after (Put 0 1 (touch_of 8 0 0))).after 0 100 24 ≡ 1 ∷ 3 ∷ replicate 62 0
unfolding rules
listed_so = refl

-- 14 before 1: a buffer of no byte
pub words_first : first (asks [] (Touch 0 0 0 4 0)) ∷ first (asks [] (Cold 0 0 1 0)) ∷ first (asks [] (Touch 0 0 0 3 3)) ∷ first (asks [] (Cold 0 0 1 64)) ∷ [] ≡ 14 ∷ 14 ∷ 1 ∷ 1 ∷ []
unfolding asks
words_first = refl

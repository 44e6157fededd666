-- What is proved of touch records, the cold list and touch, a sentence of request (a) each. Assumes nothing.
use Rattle.std.specs.Prelude.{◌≡◌, true, false, ◌++◌, ◌⊎◌, ◌≢◌, ◌↔◌, ℕ, ◌+◌, ◌-◌, ◌%◌, ◌^◌, ◌≤◌, ◌<◌, length, get_or, replicate}
use Rattle.clock.specs.Lists.{◌∈◌}
use Rattle.layout.specs.State.{State, Entry}
use Rattle.rules.specs.Touch.{hour_of, toucher_of, tier_of, touch_of, well_formed, keeps_hour, touched, recorded, age, Kind, never, malformed, fresh, cold, ahead, aged, kind, keys_of, cold_list}
use Rattle.rules.specs.Engine.{Engine}
use Rattle.rules.specs.Steps.{done}
use Rattle.rules.specs.Calls.{Put, Get, Cold, Touch, run}

-- ## Records

-- "hour (16), toucher (3), tier (2), eleven zero bits": what is put together is taken apart again
abbrev pub TouchBack : Type 0
TouchBack = (h u r : ℕ) → u < 4 → r < 4 → let v = touch_of h u r in (hour_of v ≡ h) × (toucher_of v ≡ u) × (tier_of v ≡ r)

-- "any other form is malformed"
abbrev pub FormedExactly : Type 0
FormedExactly =
    (v : ℕ) → v < 2 ^ 32 → (well_formed v ≡ true) ↔ ((h : ℕ) × (u : ℕ) × (r : ℕ) × (h < 2 ^ 16) × (u < 4) × (r < 4) × (v ≡ touch_of h u r))

-- "age is now minus hour, modulo 65,536"
abbrev pub AgeAdds : Type 0
AgeAdds = (now h : ℕ) → now < 2 ^ 16 → h < 2 ^ 16 → (age now h < 2 ^ 16) × ((age now h + h) % 2 ^ 16 ≡ now)

-- "cold when its age is from the threshold T to 32,767; a greater age is a clock ahead": every age is in one of three
abbrev pub AgedExactly : Type 0
AgedExactly =
    (T a : ℕ) → T ≤ 32767
    → ((aged T a ≡ cold) ↔ ((T ≤ a) × (a ≤ 32767))) × ((aged T a ≡ ahead) ↔ (32767 < a)) × ((aged T a ≡ fresh) ↔ (a < T))

-- ## The cold list

-- what the list makes of an entry, in words
pub record KindIs (now T : ℕ) (e : Entry) (j : Kind) : Type 0 where
  -- "never-written keys are left out"
  pub as_never : (j ≡ never) ↔ (e.clock ≡ 0)
  pub as_malformed : (j ≡ malformed) ↔ ((e.clock ≢ 0) × (well_formed e.value ≡ false))
  pub as_cold : (j ≡ cold) ↔ ((recorded e ≡ true) × ((T ≤ age now (hour_of e.value)) × (age now (hour_of e.value) ≤ 32767)))
  pub as_ahead : (j ≡ ahead) ↔ ((recorded e ≡ true) × (32767 < age now (hour_of e.value)))
  pub as_fresh : (j ≡ fresh) ↔ ((recorded e ≡ true) × (age now (hour_of e.value) < T))

abbrev pub KindExactly : Type 0
KindExactly = (now T : ℕ) (e : Entry) → T ≤ 32767 → KindIs now T e (kind now T e)

-- the keys of a kind, each once and "keys ascending"
pub record Lists (S : State) (s now T : ℕ) (j : Kind) : Type 0 where
  pub exactly : (x : ℕ) → (x ∈ keys_of j S s now T) ↔ ((x < S.k) × (kind now T (S.store s x) ≡ j))
  pub ascends : (i i' : ℕ) → i < i' → i' < length (keys_of j S s now T) → get_or (keys_of j S s now T) i 0 < get_or (keys_of j S s now T) i' 0

-- the list is the cold keys and "the rest of it zero"; the answer counts these, the clocks ahead and the malformed values
abbrev pub KindsListed : Type 0
KindsListed = (S : State) (s now T : ℕ) (j : Kind) → Lists S s now T j

abbrev pub ListFilled : Type 0
ListFilled =
    (S : State) (s now T : ℕ) → S.k ≤ 64
    → let l = keys_of cold S s now T in (length (cold_list S s now T) ≡ 64) × (cold_list S s now T ≡ l ++ replicate (64 - length l) 0)

-- "The answer's key, site and clock count keys listed, clocks ahead and malformed values"
abbrev pub ColdAnswers : Type 0
ColdAnswers =
    (E : Engine) (S : State) (s now T m : ℕ) → let r = run E S (Cold s now T m) in r.answer.code ≡ 0
    → r.answer ≡ done (length (keys_of cold S s now T)) (length (keys_of ahead S s now T)) (length (keys_of malformed S s now T)) 0

-- ## Touch

-- "a record of the given toucher and tier, with the old hour for toucher 1 or 2, else now"
abbrev pub TouchedSays : Type 0
TouchedSays =
    (old now u r : ℕ) → u < 4 → r < 4 → let v = touched old now u r in
    (well_formed v ≡ true) × (toucher_of v ≡ u) × (tier_of v ≡ r) × ((u ≡ 1) ⊎ (u ≡ 2) → hour_of v ≡ hour_of old) × (u ≢ 1 → u ≢ 2 → hour_of v ≡ now)

-- "Touch gets a key and puts a record": where it is accepted it is its get and then its put, which are accepted too
pub record IsBoth (E : Engine) (S : State) (s x now u r : ℕ) : Type 0 where
  pub gets : (run E S (Get s x)).answer.code ≡ 0
  pub puts : run E S (Touch s x now u r) ≡ run E (run E S (Get s x)).after (Put s x (touched (S.store s x).value now u r))

abbrev pub TouchIsBoth : Type 0
TouchIsBoth = (E : Engine) (S : State) (s x now u r : ℕ) → (run E S (Touch s x now u r)).answer.code ≡ 0 → IsBoth E S s x now u r

-- a touch by the backup scan or by migration changes no key's coldness at its site, at any hour and threshold
abbrev pub ScanKeepsColdness : Type 0
ScanKeepsColdness =
    (E : Engine) (S : State) (s x now u r : ℕ) → keeps_hour u ≡ true → (hour T y : ℕ) → let A = (run E S (Touch s x now u r)).after in
    kind hour T (A.store s y) ≡ kind hour T (S.store s y)

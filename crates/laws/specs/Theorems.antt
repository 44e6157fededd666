-- What is proved of the rules, a sentence of document 01 each; the proofs are in proofs/. Assumes nothing.
use Rattle.std.specs.Prelude.{◌≡◌, true, false, List, [], ◌∷◌, ◌++◌, ◌⊎◌, ◌≢◌, ◌↔◌, ℕ, ◌+◌, ◌*◌, ◌-◌, ◌≤◌, ◌<◌, length}
use Rattle.clock.specs.Map.{bit, sum}
use Rattle.layout.specs.State.{State}
use Rattle.rules.specs.Live.{Live}
use Rattle.rules.specs.Sound.{sound, Sound}
use Rattle.rules.specs.Engine.{Engine}
use Rattle.rules.specs.Steps.{Numbers, refused, waiting}
use Rattle.rules.specs.Refusals.{order, Refusals, listed, follows, missing}
use Rattle.rules.specs.Drain.{drained, drain}
use Rattle.rules.specs.Calls.{Call, Open, Put, Get, Deliver, Drain, Cold, Touch, Look, Adopt, Retire, refusals, run, asks}

-- ## Sound tables

-- "A table is sound when all of these hold": the test that the calls make decides exactly that
abbrev pub SoundTested : Type 0
SoundTested = (S : State) → (sound S ≡ true) ↔ Sound S

-- "Every accepted call leaves a sound table": no call but open is accepted on another
abbrev pub AcceptedSound : Type 0
AcceptedSound = (E : Engine) (S : State) (c : Call) → (run E S c).answer.code ≡ 0 → Sound (run E S c).after

-- ".. and so does a drain that answers 11", and every refusal
abbrev pub KeepsSound : Type 0
KeepsSound = (E : Engine) (S : State) (c : Call) → Sound S → Sound (run E S c).after

-- "The table keeps all bytes, except under 11"
abbrev pub RefusedKeeps : Type 0
RefusedKeeps = (E : Engine) (S : State) (c : Call) → (run E S c).answer.code ≢ 0 → (run E S c).answer.code ≢ 11 → (run E S c).after ≡ S

-- ## "given exactly when"

-- the condition of a code holds, and none listed before it does
abbrev pub Given : Refusals → (code : ℕ) → Type 0
Given [] e = ⊥
Given (p ∷ ps) e = ((p.0 ≡ e) × (p.1 ≡ true)) ⊎ ((p.1 ≡ false) × Given ps e)

-- no condition holds
abbrev pub Clear : Refusals → Type 0
Clear [] = Unit {0}
Clear (p ∷ ps) = (p.1 ≡ false) × Clear ps

-- the codes with a condition, for each call
abbrev pub codes : Call → List ℕ
codes (Open n k) = 3 ∷ []
codes (Put s x v) = 2 ∷ 4 ∷ 16 ∷ 6 ∷ 7 ∷ 8 ∷ []
codes (Get s x) = 2 ∷ 4 ∷ 16 ∷ 6 ∷ []
codes (Deliver s o) = 2 ∷ 4 ∷ 5 ∷ 16 ∷ 9 ∷ 10 ∷ []
codes (Drain s b) = 2 ∷ 4 ∷ 16 ∷ []
codes (Cold s now T m) = 14 ∷ 2 ∷ 4 ∷ 16 ∷ []
codes (Touch s x now u r) = 14 ∷ 2 ∷ 4 ∷ 16 ∷ 6 ∷ 13 ∷ 7 ∷ 8 ∷ []
codes (Look s x) = 2 ∷ 4 ∷ 16 ∷ 6 ∷ []
codes (Adopt s x o c) = 2 ∷ 4 ∷ 16 ∷ 6 ∷ 15 ∷ []
codes (Retire s) = 2 ∷ 4 ∷ 16 ∷ 17 ∷ []

abbrev pub CodesListed : Type 0
CodesListed = (S : State) (c : Call) → listed (refusals S c) ≡ codes c

-- "Several at once": the codes of every call stand in its list as they do in `order`, 1 among them
abbrev pub FollowsOrder : Type 0
FollowsOrder = (t : List ℕ) (c : Call) → follows (listed (asks t c)) order ≡ true

-- every code but 0 and 11 is answered exactly when it is given
abbrev pub GivenExactly : Type 0
GivenExactly = (E : Engine) (S : State) (c : Call) (e : ℕ) → e ≢ 0 → e ≢ 11 → ((run E S c).answer.code ≡ e) ↔ Given (refusals S c) e

-- a drain with a budget that is always enough makes these tries
abbrev pub needed : Engine → State → (s : ℕ) → ℕ
needed E S s = (drain E S s 903).answer.value

-- the budget, where the call has one, is enough; or it is spent when a try is due
abbrev pub Enough : Engine → State → Call → Type 0
Enough E S (Open n k) = Unit {0}
Enough E S (Put s x v) = Unit {0}
Enough E S (Get s x) = Unit {0}
Enough E S (Deliver s o) = Unit {0}
Enough E S (Drain s b) = needed E S s ≤ b
Enough E S (Cold s now T m) = Unit {0}
Enough E S (Touch s x now u r) = Unit {0}
Enough E S (Look s x) = Unit {0}
Enough E S (Adopt s x o c) = Unit {0}
Enough E S (Retire s) = Unit {0}

abbrev pub Spent : Engine → State → Call → Type 0
Spent E S (Open n k) = ⊥
Spent E S (Put s x v) = ⊥
Spent E S (Get s x) = ⊥
Spent E S (Deliver s o) = ⊥
Spent E S (Drain s b) = b < needed E S s
Spent E S (Cold s now T m) = ⊥
Spent E S (Touch s x now u r) = ⊥
Spent E S (Look s x) = ⊥
Spent E S (Adopt s x o c) = ⊥
Spent E S (Retire s) = ⊥

-- 0 is answered exactly when no condition holds and the budget is enough
abbrev pub AcceptedExactly : Type 0
AcceptedExactly = (E : Engine) (S : State) (c : Call) → ((run E S c).answer.code ≡ 0) ↔ (Clear (refusals S c) × Enough E S c)

-- 11: "drain stopped by its budget"
abbrev pub SpentExactly : Type 0
SpentExactly = (E : Engine) (S : State) (c : Call) → ((run E S c).answer.code ≡ 11) ↔ (Clear (refusals S c) × Spent E S c)

-- "In every refused answer the other numbers are 0, except for 10 and 11"
abbrev pub RefusedZeros : Type 0
RefusedZeros = (E : Engine) (S : State) (c : Call) (e : ℕ) → e ≢ 0 → e ≢ 10 → e ≢ 11 → (run E S c).answer.code ≡ e → (run E S c).answer ≡ refused e

-- 10: "site and clock name the lowest failing column and its number in the update's vector";
-- the value names all: its bits are those of the failing columns, and none is above the eight
pub record LowestMissing (S : State) (s o : ℕ) (a : Numbers) : Type 0 where
  pub column : a.site < 8
  pub fails : missing S s o a.site ≡ true
  pub lowest : (j : ℕ) → j < a.site → missing S s o j ≡ false
  pub clock : a.clock ≡ (waiting S s o).depends a.site
  pub bits : (m : ℕ) → m < 8 → bit a.value m ≡ missing S s o m
  pub below : a.value < 256
  pub others : a.key ≡ 0

abbrev pub MissingNamed : Type 0
MissingNamed = (E : Engine) (S : State) (s o : ℕ) → (run E S (Deliver s o)).answer.code ≡ 10 → LowestMissing S s o (run E S (Deliver s o)).answer

-- ## Drain

-- the updates undelivered at s
unfoldable pub pending : State → (s : ℕ) → ℕ
pending S s = sum S.n (λ o. S.applied o o - S.applied s o)

-- accepted deliveries to s that lead from S to a state, with their answers, the newest first
pub data Delivers (E : Engine) (s : ℕ) (S : State) : List Numbers → State → Type 0 where
  start : Delivers E s S [] S
  one_more : {made : List Numbers} {R : State} → Delivers E s S made R → (o : ℕ) → (run E R (Deliver s o)).answer.code ≡ 0
      → Delivers E s S ((run E R (Deliver s o)).answer ∷ made) (run E R (Deliver s o)).after

-- a drain is its deliveries, and "its answer holds the deliveries made"
abbrev pub DrainDelivers : Type 0
DrainDelivers = (E : Engine) (S : State) (s b : ℕ) → Delivers E s S (drained E S s b).made (drain E S s b).after × ((drain E S s b).answer.clock ≡ length (drained E S s b).made)

-- "the deliveries made, which is the rise in the sum of the applied row of s", over eight columns or over the n in use
abbrev pub DrainRises : Type 0
DrainRises = (E : Engine) (S : State) (s b m : ℕ) → S.n ≤ m → sum m ((drain E S s b).after.applied s) ≡ sum m (S.applied s) + (drain E S s b).answer.clock

-- "It ends after a pass that delivered nothing": then every delivery is refused
abbrev pub DrainEnds : Type 0
DrainEnds = (E : Engine) (S : State) (s b : ℕ) → (drain E S s b).answer.code ≡ 0 → (o : ℕ) → (run E (drain E S s b).after (Deliver s o)).answer.code ≢ 0

-- "When a try is due and the budget is spent it stops with 11"
abbrev pub TriesWithin : Type 0
TriesWithin = (E : Engine) (S : State) (s b : ℕ) → ((drain E S s b).answer.value ≤ b) × ((drain E S s b).answer.code ≡ 11 → (drain E S s b).answer.value ≡ b)

-- "With P updates undelivered at the start there are at most P + (n - 1)(P + 1) tries"
abbrev pub TriesBounded : Type 0
TriesBounded = (E : Engine) (S : State) (s b : ℕ) → s < S.n → (drain E S s b).answer.value ≤ pending S s + (S.n - 1) * (pending S s + 1)

-- "P is at most 112"
abbrev pub PendingBounded : Type 0
PendingBounded = (S : State) → Sound S → (s : ℕ) → Live S s → pending S s ≤ 112

-- "so a budget of 903 is always enough"
abbrev pub BudgetEnough : Type 0
BudgetEnough = (E : Engine) (S : State) → Sound S → (s b : ℕ) → Live S s → 903 ≤ b → (drain E S s b).answer.code ≡ 0

-- with a smaller budget the deliveries are the first of those with a larger one
abbrev pub DrainPrefix : Type 0
DrainPrefix = (E : Engine) (S : State) (s b b' : ℕ) → b ≤ b' → (more : List Numbers) × ((drained E S s b').made ≡ more ++ (drained E S s b).made)

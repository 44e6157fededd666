-- Drain: passes over the origins by the budget left, its deliveries and tries counted on the way. Assumes nothing.
use Rattle.std.specs.Prelude.{Bool, true, false, ◌&&◌, List, [], ◌∷◌, ℕ, zero, suc, eqb, ltb, length}
use Rattle.clock.specs.Map.{when◌then◌else◌}
use Rattle.layout.specs.State.{State}
use Rattle.rules.specs.Engine.{Engine}
use Rattle.rules.specs.Steps.{Numbers, Outcome, deliver}
use Rattle.rules.specs.Refusals.{deliver_refusals, undelivered, unless}

-- one delivery attempted
unfoldable pub try : Engine → State → (s o : ℕ) → Outcome
try E S s o = unless (deliver_refusals S s o) (undelivered S s o) S (deliver E S s o)

-- a try is due at an origin, in a pass that has delivered or not; or the drain is at its end
pub data Turn : Type 0 where
  end : Turn
  due : (origin : ℕ) → (delivered : Bool) → Turn

-- leaving out s
abbrev pub skip : (s o : ℕ) → ℕ
skip s o = when eqb o s then suc o else o

-- from origin o on: the next origin of this pass, else the first of a new one if this one delivered
abbrev pub turn : (n s o : ℕ) → Bool → Turn
turn n s o delivered =
    when ltb (skip s o) n then due (skip s o) delivered
    else when delivered && ltb (skip s 0) n then due (skip s 0) false
    else end

-- the answers of the deliveries made, the newest first, and the tries made
pub record Drained : Type 0 where
  pub code : ℕ
  pub made : List Numbers
  pub tries : ℕ
  pub after : State

-- a try again at an origin until one is refused; 11 when a try is due and the budget is spent
unfoldable pub passes : Engine → (budget : ℕ) → State → (s : ℕ) → Turn → List Numbers → (tries : ℕ) → Drained
passes E zero S s end ds t = record { code = 0; made = ds; tries = t; after = S }
passes E (suc b) S s end ds t = record { code = 0; made = ds; tries = t; after = S }
passes E zero S s (due o d) ds t = record { code = 11; made = ds; tries = t; after = S }
passes E (suc b) S s (due o d) ds t =
    elim (eqb (try E S s o).answer.code 0) [
      | true ↦ passes E b (try E S s o).after s (due o true) ((try E S s o).answer ∷ ds) (suc t)
      | false ↦ passes E b S s (turn S.n s (suc o) d) ds (suc t)
    ]

unfoldable pub drained : Engine → State → (s budget : ℕ) → Drained
drained E S s b = passes E b S s (turn S.n s 0 false) [] 0

-- drain answers code, deliveries, tries
unfoldable pub drain : Engine → State → (s budget : ℕ) → Outcome
drain E S s b =
    let d = drained E S s b in
    record { answer = record { code = d.code; key = 0; site = 0; clock = length d.made; value = d.tries }; after = d.after }

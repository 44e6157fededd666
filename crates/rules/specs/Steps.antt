-- What an accepted open, put, get, look, delivery, touch, cold list and retirement do to the table of an engine, and what they answer. Assumes nothing.
use Rattle.std.specs.Prelude.{ℕ, suc, eqb, length}
use Rattle.clock.specs.Map.{when◌then◌else◌, ◌⟨◌≔◌⟩, ◌⟨◌⟩⟨◌≔◌⟩}
use Rattle.layout.specs.State.{State, Update, all_zero, with_counts, with_applied, with_depends, with_store, with_updates}
use Rattle.rules.specs.Live.{retiring}
use Rattle.rules.specs.Sound.{place}
use Rattle.rules.specs.Engine.{Engine}
use Rattle.rules.specs.Touch as kinds
use Rattle.rules.specs.Touch.{touched, keys_of}

-- an answer is five numbers
pub record Numbers : Type 0 where
  pub code : ℕ
  pub key : ℕ
  pub site : ℕ
  pub clock : ℕ
  pub value : ℕ

-- in every refused answer the other numbers are 0
abbrev pub refused : ℕ → Numbers
refused c = record { code = c; key = 0; site = 0; clock = 0; value = 0 }

abbrev pub done : (key site clock value : ℕ) → Numbers
done x s c v = record { code = 0; key = x; site = s; clock = c; value = v }

-- what a call answers, and the table it leaves
pub record Outcome : Type 0 where
  pub answer : Numbers
  pub after : State

-- all bytes zero, then the two counts
unfoldable pub opened : (n k : ℕ) → State
opened n k = with_counts all_zero n k

-- the clock of the next put of o that s is to apply: for s = o, of its next own put
abbrev pub next : State → (s o : ℕ) → ℕ
next S s o = suc (S.applied s o)

unfoldable pub put : Engine → State → (s x v : ℕ) → Outcome
put E S s x v =
    let c = next S s s in
    let d = E.sent (S.depends s) (S.store s x) in
    let U = with_updates S (S.updates ⟨ s ⟩⟨ place c ≔ record { value = v; key = x; zero = 0; clock = c; depends = d } ⟩) in
    let N = with_store U (S.store ⟨ s ⟩⟨ x ≔ record { value = v; origin = s; zero = 0; clock = c; depends = E.own d } ⟩) in
    let A = with_applied N (S.applied ⟨ s ⟩⟨ s ≔ c ⟩) in
    record { answer = done x s c v; after = with_depends A (S.depends ⟨ s ≔ E.left d s c ⟩) }

-- the dependency row of s with what the engine takes on of the entry, if its clock is not 0
unfoldable pub learn : Engine → State → (s x : ℕ) → State
learn E S s x =
    let e = S.store s x in
    when eqb e.clock 0 then S else with_depends S (S.depends ⟨ s ≔ E.learned (S.depends s) e ⟩)

-- what a get, a look and an adopt answer: "all three answer alike"
abbrev pub seen : State → (s x : ℕ) → Numbers
seen S s x = let e = S.store s x in done x e.origin e.clock e.value

-- also an adopt, "which takes on the dependence" of the entry that the caller names
unfoldable pub get : Engine → State → (s x : ℕ) → Outcome
get E S s x = record { answer = seen S s x; after = learn E S s x }

-- "look, which answers as get and changes nothing"
unfoldable pub look : State → (s x : ℕ) → Outcome
look S s x = record { answer = seen S s x; after = S }

-- the next update of o for s
abbrev pub waiting : State → (s o : ℕ) → Update
waiting S s o = S.updates o (place (next S s o))

-- where the update does not replace the entry, only the applied count rises
unfoldable pub deliver : Engine → State → (s o : ℕ) → Outcome
deliver E S s o =
    let c = next S s o in
    let u = waiting S s o in
    let M = S.store ⟨ s ⟩⟨ u.key ≔ record { value = u.value; origin = o; zero = 0; clock = c; depends = u.depends } ⟩ in
    let N = with_store S (when E.replaces u o (S.store s u.key) then M else S.store) in
    record { answer = done u.key o c u.value; after = with_applied N (S.applied ⟨ s ⟩⟨ o ≔ c ⟩) }

-- "Touch gets a key and puts a record of the given toucher and tier"; "it answers as its put"
unfoldable pub touch : Engine → State → (s x now toucher tier : ℕ) → Outcome
touch E S s x now u r = put E (learn E S s x) s x (touched (S.store s x).value now u r)

-- "The answer's key, site and clock count keys listed, clocks ahead and malformed values"; "The cold list uses look"
unfoldable pub cold : State → (s now threshold : ℕ) → Outcome
cold S s now T =
    let count : kinds.Kind → ℕ = λ j. length (keys_of j S s now T) in
    record { answer = done (count kinds.cold) (count kinds.ahead) (count kinds.malformed) 0; after = S }

-- "Retirement answers zeros", sets the bit and changes nothing else
unfoldable pub retire : State → (s : ℕ) → Outcome
retire S s = record { answer = refused 0; after = retiring S s }

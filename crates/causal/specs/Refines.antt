-- What the table's numbers mean in figure 7, when a call is figure 7's step, and what the history of calls must be. Assumes nothing.
use Rattle.std.specs.Prelude.{◌≡◌, true, ◌||◌, [], ◌∷◌, ◌++◌, map, ◌↔◌, ◌≢◌, ℕ, zero, suc, ◌+◌, ◌^◌, ◌≤◌, ◌<◌, eqb, length}
use Rattle.clock.specs.Map.{when◌then◌else◌, bit}
use Rattle.clock.specs.Lists.{◌∈◌, Before}
use Rattle.clock.specs.Vector.{Vector, join, note, rank}
use Rattle.layout.specs.State.{State, last_clock}
use Rattle.rules.specs.Engine.{Engine, ours}
use Rattle.rules.specs.Live.{Live}
use Rattle.rules.specs.Sound.{place, Retained, Sound}
use Rattle.rules.specs.Steps.{Numbers, done, Outcome}
use Rattle.rules.specs.Drain.{drained}
use Rattle.rules.specs.Calls.{Call, Open, Put, Get, Deliver, Drain, Cold, Touch, Look, Adopt, Retire}
use Rattle.causal.specs.World.{Set, Tops, just, ◌∪◌, Answer, never, wrote, World, nth, waiting, Behind, CausesApplied, Event, put, get, look, adopt, update, retire, acting, Step, Run}
use Rattle.causal.specs.History.{History, Ranked, Ordered, Lacks}

-- v is at most a in each of the eight columns
abbrev pub Within : Vector → Vector → Type 0
Within v a = (j : ℕ) → j < 8 → v j ≤ a j

-- "the two give the same answers": to UPDATE's check, to which sites fail it, and after a put and a get
pub record SameAnswers (v : Vector) (d : Set) : Type 1 where
  pub check : (a : Vector) → ((o c : ℕ) → d o c → c ≤ a o) ↔ Within v a
  pub fails : (a : Vector) (j : ℕ) → j < 8 → ((c : ℕ) × d j c × (a j < c)) ↔ (a j < v j)
  pub noted : (o c : ℕ) → o < 8 → Tops (note v o c) (d ∪ just o c)
  pub joined : (w : Vector) (e : Set) → Tops w e → Tops (join v w) (d ∪ e)

-- clock 0 is the mark of a key never written
abbrev pub answer : (value origin clock : ℕ) → Answer
answer v o c = when eqb c 0 then never else wrote v o c

-- the world's parts in the table's numbers; updates that every live site has applied are free
pub record Abstracts (S : State) (W : World) : Type 0 where
  pub applied : (s o : ℕ) → s < S.n → o < 8 → W.applied s o ≡ S.applied s o
  pub depends : (s : ℕ) → s < S.n → Tops (S.depends s) (W.depends s)
  pub answers : (s x : ℕ) → s < S.n → x < S.k → let e = S.store s x in (W.store s x).answer ≡ answer e.value e.origin e.clock
  pub store : (s x : ℕ) → s < S.n → x < S.k → Tops (S.store s x).depends (W.store s x).depends
  pub count : (o : ℕ) → o < S.n → length (W.updates o) ≡ S.applied o o
  pub updates : (o c : ℕ) → o < S.n → Retained S o c → let u = S.updates o (place c) in let w = nth (W.updates o) c in
      (w.key ≡ u.key) × (w.value ≡ u.value) × Tops u.depends w.depends

-- the five numbers that an answer says, and a label: "all three answer alike"
abbrev pub told : (key : ℕ) → Answer → Numbers
told x never = done x 0 0 0
told x (wrote v o c) = done x o c v

abbrev pub numbers : Event → Numbers
numbers (put s x v c) = done x s c v
numbers (get s x a) = told x a
numbers (look s x a) = told x a
numbers (adopt s x a) = told x a
numbers (update s o c x v) = done x o c v
numbers (retire s) = done 0 0 0 0

-- what a get of x at s finds, and the looks at the keys below m, in that order
abbrev pub found : State → (s x : ℕ) → Answer
found S s x = let e = S.store s x in answer e.value e.origin e.clock

abbrev pub looked : State → (s m : ℕ) → History → History
looked S s zero h = h
looked S s (suc m) h = look s m (found S s m) ∷ looked S s m h

-- the history after a call: a refused one makes no event, opening starts a new history, a drain has the events of its deliveries, also before an 11,
-- a cold list its looks, a touch its get and its put; a retirement is no event of any order
abbrev pub after_call : Engine → State → Call → Numbers → History → History
after_call E S (Open n k) a h = when eqb a.code 0 then [] else h
after_call E S (Put s x v) a h = when eqb a.code 0 then put s x v a.clock ∷ h else h
after_call E S (Get s x) a h = when eqb a.code 0 then get s x (answer a.value a.site a.clock) ∷ h else h
after_call E S (Deliver s o) a h = when eqb a.code 0 then update s o a.clock a.key a.value ∷ h else h
after_call E S (Drain s b) a h = when eqb a.code 0 || eqb a.code 11 then map (λ (d : Numbers). update s d.site d.clock d.key d.value) (drained E S s b).made ++ h else h
after_call E S (Cold s now T m) a h = when eqb a.code 0 then looked S s S.k h else h
after_call E S (Touch s x now u r) a h = when eqb a.code 0 then put s x a.value a.clock ∷ get s x (found S s x) ∷ h else h
after_call E S (Look s x) a h = when eqb a.code 0 then look s x (answer a.value a.site a.clock) ∷ h else h
after_call E S (Adopt s x o c) a h = when eqb a.code 0 then adopt s x (answer a.value a.site a.clock) ∷ h else h
after_call E S (Retire s) a h = when eqb a.code 0 then retire s ∷ h else h

-- figure 7's step of a live site, its label the call's event and the whole answer; its world is that of the table, which is sound; a retired site is live no longer, every other as before
pub record Steps (S : State) (W : World) (c : Call) (r : Outcome) : Type 1 where
  pub event : Event
  pub world : World
  pub step : Step S.n S.k W event world
  pub call : (h : History) → after_call ours S c r.answer h ≡ event ∷ h
  pub answer : r.answer ≡ numbers event
  pub abstracts : Abstracts r.after world
  pub acts : Live S (acting event)
  pub live : (t : ℕ) → Live r.after t ↔ (Live S t × (event ≢ retire t))
  pub sound : Sound r.after

-- 0 exactly when P; then figure 7's step, else nothing
pub record Refines (S : State) (W : World) (c : Call) (P : Type 0) (r : Outcome) : Type 1 where
  pub exactly : (r.answer.code ≡ 0) ↔ P
  pub accepted : r.answer.code ≡ 0 → Steps S W c r
  pub refused : r.answer.code ≢ 0 → r.after ≡ S

-- 9 and 10 say which premise of UPDATE fails; 10 names the lowest failing site and the greatest clock that it has in the set,
-- and bit m of its value is set exactly when the premise fails for site m: some pair (m, c) of the set has c above the applied count of m
pub record Tells (S : State) (W : World) (s o : ℕ) (a : Numbers) : Type 0 where
  pub nine : (a.code ≡ 9) ↔ (Live S s × (o < S.n) × (s ≢ o) × (Behind W s o → ⊥))
  pub ten : (a.code ≡ 10) ↔ (Live S s × (o < S.n) × (s ≢ o) × Behind W s o × (CausesApplied W s o → ⊥))
  pub fails : a.code ≡ 10 → (waiting W s o).depends a.site a.clock × (W.applied s a.site < a.clock)
  pub lowest : a.code ≡ 10 → (o' c' : ℕ) → o' < a.site → (waiting W s o).depends o' c' → c' ≤ W.applied s o'
  pub greatest : a.code ≡ 10 → (c' : ℕ) → (waiting W s o).depends a.site c' → c' ≤ a.clock
  pub waits : a.code ≡ 10 → (m : ℕ) → (bit a.value m ≡ true) ↔ ((c : ℕ) × (waiting W s o).depends m c × (W.applied s m < c))
  pub eight : a.code ≡ 10 → a.value < 256

-- a call is accepted exactly when its site is live and names, room (clocks to 65,535, sixteen places for each origin) and figure 7 allow it
pub record Follows (S : State) (W : World) (result : Call → Outcome) : Type 1 where
  pub puts : (s x v : ℕ) → v < 256 ^ 4 → Refines S W (Put s x v)
      (Live S s × (x < S.k) × (S.applied s s ≢ last_clock) × ((t : ℕ) → Live S t → S.applied s s < S.applied t s + 16)) (result (Put s x v))
  pub gets : (s x : ℕ) → Refines S W (Get s x) (Live S s × (x < S.k)) (result (Get s x))
  pub looks : (s x : ℕ) → Refines S W (Look s x) (Live S s × (x < S.k)) (result (Look s x))
  -- where the entry's answer is of the origin and the clock that are named
  pub adopts : (s x o c : ℕ) → let a = told x (W.store s x).answer in
      Refines S W (Adopt s x o c) (Live S s × (x < S.k) × (a.site ≡ o) × (a.clock ≡ c)) (result (Adopt s x o c))
  pub delivers : (s o : ℕ) → Refines S W (Deliver s o) (Live S s × (o < S.n) × (s ≢ o) × Behind W s o × CausesApplied W s o) (result (Deliver s o))
  -- where another site is live
  pub retires : (s : ℕ) → Refines S W (Retire s) (Live S s × ((t : ℕ) × Live S t × (t ≢ s))) (result (Retire s))
  pub tells : (s o : ℕ) → Tells S W s o (result (Deliver s o)).answer

-- a table that answers calls so, and the history of its calls since it was opened
pub record Causal (S : State) (answers : Call → Numbers) (h : History) : Type 1 where
  -- the history is a run of figure 7, of n sites and k keys, and the table has its world
  pub runs : (W : World) × Run S.n S.k h W × Abstracts S W
  -- each put has its rank, and no other: the sum of the columns of its vector, in every entry and in every update that some live site lacks
  pub ranked : Ranked h
  pub entries : (s x : ℕ) → s < S.n → x < S.k → let e = S.store s x in e.clock ≢ 0 → ranked.ranks e.origin e.clock ≡ rank e.depends
  pub updates : (o c : ℕ) → o < S.n → Retained S o c → ranked.ranks o c ≡ rank (S.updates o (place c)).depends
  -- each site has its order
  pub orders : (s : ℕ) → s < S.n → Ordered ranked.ranks h s
  -- the history says who is live, and a site that was retired acts no more
  pub alive : (s : ℕ) → Live S s ↔ ((s < S.n) × (retire s ∈ h → ⊥))
  pub quiet : (s : ℕ) (e : Event) → Before h (retire s) e → acting e ≢ s
  -- while a live site lacks an accepted put, of a live site or a retired one, some delivery to it is accepted
  pub live : (s o x v c : ℕ) → Live S s → put o x v c ∈ h → Lacks h s o c → (o' : ℕ) × ((answers (Deliver s o')).code ≡ 0)
  -- a drain that answers 0 has left its site holding every accepted put
  pub drains : (s b o x v c : ℕ) → (answers (Drain s b)).code ≡ 0 → put o x v c ∈ h
      → Lacks (after_call ours S (Drain s b) (answers (Drain s b)) h) s o c → ⊥

-- so each put of the history is one that the table counts
abbrev pub PutsCounted : Type 1
PutsCounted =
    (S : State) (answers : Call → Numbers) (h : History) → Causal S answers h → (o x v c : ℕ) → put o x v c ∈ h
    → (o < S.n) × (1 ≤ c) × (c ≤ S.applied o o)

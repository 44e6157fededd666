-- Causal consistency of a history, worked out from its events alone. Assumes nothing.
use Rattle.std.specs.Prelude.{◌≡◌, ◌&&◌, ◌||◌, List, [], ◌∷◌, ◌++◌, ◌⊎◌, ◌↔◌, ◌≢◌, ℕ, ◌<◌, eqb, ltb, leb}
use Rattle.clock.specs.Map.{when◌then◌else◌}
use Rattle.clock.specs.Lists.{◌∈◌, Before}
use Rattle.causal.specs.World.{Rank, Answer, never, wrote, World, nth, Behind, CausesApplied, Event, put, get, look, adopt, update, retire}

-- the newest event stands first
abbrev pub History : Type 0
History = List Event

-- the answer names the put (o, c)
abbrev pub Names : Answer → (o c : ℕ) → Type 0
Names never o c = ⊥
Names (wrote v o' c') o c = (o ≡ o') × (c ≡ c')

-- the event is s's own put (o, c), or a get or an adopt at s of the put (o, c); "a look .. makes no cause until adopted"
abbrev pub Saw : Event → (s o c : ℕ) → Type 0
Saw (put t x v c') s o c = (t ≡ s) × (o ≡ s) × (c ≡ c')
Saw (get t x a) s o c = (t ≡ s) × Names a o c
Saw (look t x a) s o c = ⊥
Saw (adopt t x a) s o c = (t ≡ s) × Names a o c
Saw (update t o' c' x v) s o c = ⊥
Saw (retire t) s o c = ⊥

-- what a single ordinary table is asked
pub data Op : Type 0 where
  Write : (origin clock key value : ℕ) → Op
  Read : (key : ℕ) → Answer → Op

-- the order of site s: its gets and looks and the puts applied there, its own and those it was handed, as they came, the newest first
unfoldable pub op : ℕ → Event → List Op
op s (put t x v c) = when eqb t s then Write t c x v ∷ [] else []
op s (get t x a) = when eqb t s then Read x a ∷ [] else []
op s (look t x a) = when eqb t s then Read x a ∷ [] else []
op s (adopt t x a) = []
op s (update t o c x v) = when eqb t s then Write o c x v ∷ [] else []
op s (retire t) = []

unfoldable pub order : ℕ → History → List Op
order s [] = []
order s (e ∷ h) = op s e ++ order s h

-- ## Ranks and causes

-- a number for each put, by its site and clock
abbrev pub Ranks : Type 0
Ranks = ℕ → ℕ → ℕ

-- the put (o, c) of v beside the highest so far: the higher rank, "of equal ranks the one with the higher origin"
abbrev pub higher : Ranks → Answer → (v o c : ℕ) → Answer
higher r never v o c = wrote v o c
higher r (wrote v' o' c') v o c = when ltb (r o' c') (r o c) || (eqb (r o' c') (r o c) && leb o' o) then wrote v o c else wrote v' o' c'

-- "the highest-ranked put of its key so far in its order"
abbrev pub lookup : Ranks → ℕ → List Op → Answer
lookup r x [] = never
lookup r x (Write o c y v ∷ l) = when eqb y x then higher r (lookup r x l) v o c else lookup r x l
lookup r x (Read y a ∷ l) = lookup r x l

-- in h the event e came next after those of p
abbrev pub Came : History → (p : History) → Event → Type 0
Came [] p e = ⊥
Came (f ∷ h) p e = ((e ≡ f) × (p ≡ h)) ⊎ Came h p e

-- a put of x at s after the events p has the put (o, c) as a cause: s saw it, or overwrites it, "found the same way"
abbrev pub Takes : Ranks → (p : History) → (s x o c : ℕ) → Type 0
Takes r p s x o c = ((e : Event) × (e ∈ p) × Saw e s o c) ⊎ Names (lookup r x (order s p)) o c

-- the put (o, c) is a cause of the put (o', c'), or a cause of a cause
pub data Cause (r : Ranks) (h : History) : (o c o' c' : ℕ) → Type 0 where
  direct : (p : History) (s x v c o' c' : ℕ) → Came h p (put s x v c) → Takes r p s x o' c' → Cause r h o' c' s c
  deeper : {o c o' c' o'' c'' : ℕ} → Cause r h o c o' c' → Cause r h o' c' o'' c'' → Cause r h o c o'' c''

-- the rank of each put is the sum, over sites, of the greatest clock among its causes
abbrev pub Ranking : Ranks → History → Type 0
Ranking r h = (o x v c : ℕ) → put o x v c ∈ h → Rank (λ o' c'. Cause r h o' c' o c) (r o c)

-- the history alone decides it: there is such a ranking, and no other
pub record Ranked (h : History) : Type 0 where
  pub ranks : Ranks
  pub ranking : Ranking ranks h
  pub only : (r : Ranks) → Ranking r h → (o x v c : ℕ) → put o x v c ∈ h → r o c ≡ ranks o c

-- ## Orders

-- each get and each look answers the highest-ranked put of its key so far
abbrev pub Reads : Ranks → List Op → Type 0
Reads r [] = Unit {0}
Reads r (Write o c y v ∷ l) = Reads r l
Reads r (Read x a ∷ l) = (a ≡ lookup r x l) × Reads r l

-- that order is as it must be
pub record Ordered (r : Ranks) (h : History) (s : ℕ) : Type 0 where
  -- what it was handed was put before
  pub put_first : (o c x v : ℕ) → update s o c x v ∈ h → Before h (put o x v c) (update s o c x v)
  -- no put stands twice
  pub once : (o c x v x' v' : ℕ) → Before (order s h) (Write o c x v) (Write o c x' v') → ⊥
  -- each stands after its causes
  pub caused : (o c x v o' c' : ℕ) → Write o c x v ∈ order s h → Cause r h o' c' o c
      → (x' : ℕ) × (v' : ℕ) × Before (order s h) (Write o' c' x' v') (Write o c x v)
  -- each get and each look answers as a single table would that keeps the highest-ranked put of each key
  pub reads : Reads r (order s h)

-- "exactly the puts applied there": those that were made, by the site itself or handed to it
abbrev pub AppliedExactly : Type 0
AppliedExactly =
    (r : Ranks) (h : History) (s : ℕ) → Ordered r h s → (o c x v : ℕ)
    → (Write o c x v ∈ order s h) ↔ ((put o x v c ∈ h) × ((o ≡ s) ⊎ (update s o c x v ∈ h)))

-- site s lacks the put (o, c)
abbrev pub Lacks : History → (s o c : ℕ) → Type 0
Lacks h s o c = (o ≢ s) × ((x v : ℕ) → update s o c x v ∈ h → ⊥)

-- what every run of figure 7 has; where a site lacks a put, some update is enabled there
pub record CausalRun (n : ℕ) (h : History) (W : World) : Type 0 where
  pub ranked : Ranked h
  -- "A put's rank is the sum of the columns of that vector": the one that tops its set
  pub vectors : (o x v c : ℕ) → put o x v c ∈ h → Rank (nth (W.updates o) c).depends (ranked.ranks o c)
  pub orders : (s : ℕ) → Ordered ranked.ranks h s
  pub live : (s o x v c : ℕ) → put o x v c ∈ h → Lacks h s o c → (o' : ℕ) × (o' < n) × (s ≢ o') × Behind W s o' × CausesApplied W s o'

-- What engines differ in: what gets and puts make of dependency vectors, and which deliveries replace an entry. Assumes nothing.
use Rattle.std.specs.Prelude.{Bool, true, ◌&&◌, ◌||◌, ℕ, eqb, ltb, leb}
use Rattle.clock.specs.Map.{when◌then◌else◌}
use Rattle.clock.specs.Vector.{Vector, zeros, join, note, rank}
use Rattle.layout.specs.State.{Entry, Update}

pub record Engine : Type 0 where
  -- the dependency row d of a site that got the written entry e
  pub learned : (d : Vector) → (e : Entry) → Vector
  -- what a put sends where d is its site's row, and e the entry that it overwrites
  pub sent : (d : Vector) → (e : Entry) → Vector
  -- the row after the put (s, c) that sent v
  pub left : (v : Vector) → (s c : ℕ) → Vector
  -- the vector with which its site stores the put that sent v
  pub own : (v : Vector) → Vector
  -- whether the update u of origin o replaces the entry e
  pub replaces : (u : Update) → (o : ℕ) → (e : Entry) → Bool

-- joined with the entry's vector and then with the pair (origin, clock)
abbrev pub taken_on : Vector → Entry → Vector
taken_on d e = note (join d e.depends) e.origin e.clock

-- figure 7, with the highest clock for each site: document 01
abbrev pub long : Engine
long = record { learned = taken_on; sent = λ d e. d; left = note; own = λ v. zeros; replaces = λ u o e. true }

-- figure 15: "the list becomes the site's own last put after each put, and a get adds the one pair it read"
abbrev pub short : Engine
short = record { learned = λ d e. note d e.origin e.clock; sent = λ d e. d; left = λ v. note zeros; own = λ v. zeros; replaces = λ u o e. true }

-- "replaces the entry if that is never written, or if the update's rank is higher, or equal with an origin not lower"
unfoldable pub outranks : (u : Update) → (o : ℕ) → (e : Entry) → Bool
outranks u o e =
    let r = rank u.depends in
    let r' = rank e.depends in
    eqb e.clock 0 || ltb r' r || (eqb r' r && leb e.origin o)

-- "A put now first takes on the dependence of the entry it overwrites, as a get would, and an own put is stored with its update's vector"
abbrev pub ranked : Engine
ranked = record { learned = taken_on; sent = λ d e. when eqb e.clock 0 then d else taken_on d e; left = note; own = λ v. v; replaces = outranks }

-- the engine of every call but the short ones
abbrev pub ours : Engine
ours = ranked

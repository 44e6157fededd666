-- What is the same on tables of two engines, and which calls do not depend on the engine. Assumes nothing.
use Rattle.std.specs.Prelude.{◌≡◌, List, ◌≢◌, ℕ}
use Rattle.layout.specs.State.{State, Entry}
use Rattle.rules.specs.Engine.{Engine}
use Rattle.rules.specs.Steps.{Numbers}
use Rattle.rules.specs.Calls.{Open, Look, Cold, Retire, serve}

-- the value, origin and clock of an entry
abbrev pub SameEntry : Entry → Entry → Type 0
SameEntry e f = (f.value ≡ e.value) × (f.origin ≡ e.origin) × (f.clock ≡ e.clock)

-- "the value, origin and clock of every entry, the applied counts"; and the counts of sites and keys
pub record SameTable (S T : State) : Type 0 where
  pub sites : T.n ≡ S.n
  pub keys : T.k ≡ S.k
  pub retired : T.retired ≡ S.retired
  pub applied : (s o : ℕ) → T.applied s o ≡ S.applied s o
  pub entries : (s x : ℕ) → SameEntry (S.store s x) (T.store s x)

-- "and every code agree. Only the site, clock and value beside a 10 may differ"
pub record SameAnswer (a b : Numbers) : Type 0 where
  pub code : b.code ≡ a.code
  pub key : b.key ≡ a.key
  pub others : a.code ≢ 10 → b ≡ a

-- open, look, the cold list and retire serve every engine: on the same bytes they do the same
pub record EngineFree : Type 0 where
  pub opens : (E F : Engine) (t : List ℕ) (n k : ℕ) → serve E t (Open n k) ≡ serve F t (Open n k)
  pub looks : (E F : Engine) (t : List ℕ) (s x : ℕ) → serve E t (Look s x) ≡ serve F t (Look s x)
  pub lists : (E F : Engine) (t : List ℕ) (s now threshold room : ℕ) → serve E t (Cold s now threshold room) ≡ serve F t (Cold s now threshold room)
  pub retires : (E F : Engine) (t : List ℕ) (s : ℕ) → serve E t (Retire s) ≡ serve F t (Retire s)

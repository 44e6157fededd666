-- Parts of the lists of refusals, over the numbers that the code has at hand. Assumes nothing.
use Rattle.std.specs.Prelude.{◌≡◌, Bool, false, not, ◌&&◌, ◌||◌, List, [], ◌∷◌, ◌≢◌, ℕ, ◌+◌, ◌<◌, eqb, leb, length}
use Rattle.clock.specs.Map.{any}
use Rattle.layout.specs.State.{State, state_of, last_clock, table}
use Rattle.rules.specs.Live.{gone}
use Rattle.rules.specs.Sound.{sound, Sound}
use Rattle.rules.specs.Refusals.{Refusals}
use Rattle.sound.specs.declared.Counts.{Counts}

abbrev pub sound_in : State → Refusals
sound_in S = (2, not (sound S)) ∷ []

-- 1, "the table buffer is not 15,620 bytes", and 2
abbrev pub table_in : List ℕ → Refusals
table_in t = (1, not (eqb (length t) table.width)) ∷ sound_in (state_of t)

abbrev pub live_in : State → (n s : ℕ) → Refusals
live_in S n s = (4, leb n s) ∷ (16, gone S s) ∷ []

abbrev pub names_in : State → (n k s x : ℕ) → Refusals
names_in S n k s x = (4, leb n s) ∷ (16, gone S s) ∷ (6, leb k x) ∷ []

abbrev pub sites_in : State → (n s o : ℕ) → Refusals
sites_in S n s o = (4, leb n s || leb n o) ∷ (5, eqb s o) ∷ (16, gone S s) ∷ []

abbrev pub full_in : State → (n s : ℕ) → Bool
full_in S n s = any n (λ t. not (gone S t) && eqb (S.applied t s + 16) (S.applied s s))

abbrev pub room_in : State → (n s : ℕ) → Refusals
room_in S n s = (7, eqb (S.applied s s) last_clock) ∷ (8, full_in S n s) ∷ []

-- what is asked of a delivery but 9 and 10
abbrev pub receives_in : State → (s o : ℕ) → Refusals
receives_in S s o = (2, not (sound S)) ∷ sites_in S S.n s o

-- the same over a lent buffer, whose size is asked first
abbrev pub deliver_in : List ℕ → (s o : ℕ) → Refusals
deliver_in t s o = (1, not (eqb (length t) table.width)) ∷ receives_in (state_of t) s o

-- the counts of the state
pub record Counted (S : State) (c : Counts) : Type 0 where
  pub sites : c.sites ≡ S.n
  pub keys : c.keys ≡ S.k

-- a sound table, and two of its sites, of which s is live
pub record Attempts (S : State) (s o : ℕ) : Type 0 where
  pub sound : Sound S
  pub site : s < S.n
  pub origin : o < S.n
  pub others : s ≢ o
  pub live : gone S s ≡ false

-- Request (e): "when every site has applied every put, all stores are equal", over bytes, and how an operator gets there. Assumes nothing.
use Rattle.std.specs.Prelude.{◌≡◌, List, [], map, ℕ, ◌≤◌, ◌<◌}
use Rattle.clock.specs.Lists.{◌∈◌}
use Rattle.layout.specs.State.{State, state_of}
use Rattle.rules.specs.Live.{Live}
use Rattle.rules.specs.Engine.{ours}
use Rattle.rules.specs.Calls.{Call, Open, Drain, serve}
use Rattle.demands.specs.Demands.{play, FourBytes}

-- "every site has applied every put": every live site, also those of retired sites
abbrev pub AllApplied : State → Type 0
AllApplied S = (s o : ℕ) → Live S s → o < S.n → S.applied s o ≡ S.applied o o

-- "all stores are equal": whole entries, for every key below k
abbrev pub StoresEqual : State → Type 0
StoresEqual S = (s t x : ℕ) → Live S s → Live S t → x < S.k → S.store s x ≡ S.store t x

-- from a freshly opened table, after any calls
abbrev pub OneWinner : Type 0
OneWinner =
    (t : List ℕ) (n k : ℕ) → (serve ours t (Open n k)).answer.code ≡ 0 → (cs : List Call) → FourBytes cs →
    let S = state_of (play ours (serve ours t (Open n k)).bytes [] cs).0 in AllApplied S → StoresEqual S

-- draining each live site once, in any order, with a budget of 903 or more: then every live site has applied every put
abbrev pub DrainedEqual : Type 0
DrainedEqual =
    (t : List ℕ) (n k : ℕ) → (serve ours t (Open n k)).answer.code ≡ 0 → (cs : List Call) → FourBytes cs →
    let p = play ours (serve ours t (Open n k)).bytes [] cs in
    (b : ℕ) → 903 ≤ b → (sites : List ℕ) → ((s : ℕ) → Live (state_of p.0) s → s ∈ sites) →
    let S = state_of (play ours p.0 p.1 (map (λ s. Drain s b) sites)).0 in AllApplied S × StoresEqual S

-- Which sites are retired: "Byte 2 holds the retired sites, bit m worth 2 to the power m". Assumes nothing.
use Rattle.std.specs.Prelude.{◌≡◌, Bool, false, ℕ, ◌+◌, ◌^◌, ◌<◌}
use Rattle.clock.specs.Map.{bit}
use Rattle.layout.specs.State.{State, with_retired}

abbrev pub gone : State → (s : ℕ) → Bool
gone S s = bit S.retired s

-- below n and not retired
abbrev pub Live : State → (s : ℕ) → Type 0
Live S s = (s < S.n) × (gone S s ≡ false)

-- with s retired too, which was not
abbrev pub retiring : State → (s : ℕ) → State
retiring S s = with_retired S (S.retired + 2 ^ s)

-- What is proved of the layout (crates/layout/proofs/TableTrips). Assumes nothing.
use Rattle.std.specs.Prelude.{◌≡◌, List, ℕ, ◌<◌, eqb, length, get_or}
use Rattle.clock.specs.Map.{when◌then◌else◌}
use Rattle.layout.specs.State.{State, table, with_retired, state_of, bytes_of}
use Rattle.layout.specs.Ranges.{Bytes, Fits}

-- the table's bytes, read as a state and laid out again, are the same bytes
abbrev pub BytesBack : Type 0
BytesBack = (t : List ℕ) → length t ≡ table.width → Bytes t → bytes_of (state_of t) ≡ t

-- a state that fits, laid out and read again, is the same state; and what is read of bytes fits
abbrev pub StateBack : Type 0
StateBack = (S : State) → Fits S → state_of (bytes_of S) ≡ S

abbrev pub StateFits : Type 0
StateFits = (t : List ℕ) → length t ≡ table.width → Bytes t → Fits (state_of t)

abbrev pub BytesLong : Type 0
BytesLong = (S : State) → Fits S → length (bytes_of S) ≡ table.width

-- "Byte 2 holds the retired sites": other retired sites are another byte 2, and no other byte
abbrev pub RetiredByte : Type 0
RetiredByte = (S : State) (b i : ℕ) → b < 256 → get_or (bytes_of (with_retired S b)) i 0 ≡ (when eqb i 2 then b else get_or (bytes_of S) i 0)

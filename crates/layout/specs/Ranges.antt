-- Lists of bytes, and the states that have bytes of their own: numbers within their widths, and zero past the rows. Assumes nothing.
use Rattle.std.specs.Prelude.{◌≡◌, List, [], ℕ, ◌^◌, ◌≤◌, ◌<◌, get_or}
use Rattle.clock.specs.Vector.{Vector}
use Rattle.layout.specs.Codec.{Codec, row}
use Rattle.layout.specs.State.{State, Fields, of_entry, of_update, byte, value, clock, vector, entry, update}

-- every number is a byte, and every one is 0
unfoldable pub Bytes : List ℕ → Type 0
Bytes l = (i : ℕ) → get_or l i 0 < 256

abbrev pub Zeros : List ℕ → Type 0
Zeros l = (i : ℕ) → get_or l i 0 ≡ 0

-- m values in range, and past them what no bytes read as
abbrev pub Rows : {A : Type 0} → ℕ → Codec A → (A → Type 0) → (ℕ → A) → Type 0
Rows m c ok a = ((j : ℕ) → j < m → ok (a j)) × ((j : ℕ) → m ≤ j → a j ≡ c.dec [])

-- a number within a width
abbrev pub Within : Codec ℕ → ℕ → Type 0
Within c n = n < 256 ^ c.width

-- eight columns, a clock each
abbrev pub FitsVector : Vector → Type 0
FitsVector v = Rows 8 clock (Within clock) v

-- value, origin or key, zero, clock, and a vector
abbrev pub FitsFields : Fields → Type 0
FitsFields p = Within value p.0 × (Within byte p.1.0 × (Within byte p.1.1.0 × (Within clock p.1.1.1.0 × FitsVector p.1.1.1.1)))

-- every number of the table within its width
abbrev pub Fits : State → Type 0
Fits S =
    Within byte S.n × (Within byte S.k × (Within byte S.retired × (Within byte S.byte3
    × (Rows 8 vector FitsVector S.applied × (Rows 8 vector FitsVector S.depends
    × (Rows 8 (row 64 entry) (Rows 64 entry (λ e. FitsFields (of_entry e))) S.store
    × Rows 8 (row 16 update) (Rows 16 update (λ u. FitsFields (of_update u))) S.updates))))))

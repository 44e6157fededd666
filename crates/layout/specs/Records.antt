-- What the code's records and squares stand for. Assumes nothing.
use Rattle.std.specs.Prelude.{◌≡◌, List, [], ℕ, ◌+◌, get_or}
use Rattle.clock.specs.Map.{up_to}
use Rattle.clock.specs.Vector.{Vector, zeros}
use Rattle.clock.specs.Clock.{cells, columns}
use Rattle.layout.specs.declared.Record.{Record}
use Rattle.layout.specs.declared.Header.{Header}
use Rattle.layout.specs.State.{State, Entry, Update, Fields, square, fields, to_entry, to_update, applied_at}

-- a record of the code as its fields, as an entry and as an update
abbrev pub fields_of : Record → Fields
fields_of r = (r.value, (r.tag, (r.zero, (r.clock, columns r.depends))))

abbrev pub entry_of : Record → Entry
entry_of r = to_entry (fields_of r)

abbrev pub update_of : Record → Update
update_of r = to_update (fields_of r)

-- 24 bytes as the fields they hold
unfoldable pub fields_at : List ℕ → Fields
fields_at l = fields.dec l

-- an array of arrays as the map of its rows
abbrev pub cells2 : List (List ℕ) → ℕ → Vector
cells2 a i = cells (get_or a i [])

-- the rows of f from one on and below another; zeros elsewhere
abbrev pub rows : (from to : ℕ) → (ℕ → Vector) → ℕ → Vector
rows from to f = up_to to (up_to from (λ i. zeros) f) (λ i. zeros)

-- how many bytes are read at once where only zero or not matters
abbrev pub pair : ℕ
pair = 2

abbrev pub quad : ℕ
quad = pair + pair

abbrev pub word : ℕ
word = quad + quad

-- a table is cleared by blocks of a square and the four bytes behind it
abbrev pub block : ℕ
block = square.width + applied_at

-- the header that a state has
pub record Headed (h : Header) (S : State) : Type 0 where
  pub n : h.n ≡ S.n
  pub k : h.k ≡ S.k
  pub retired : h.retired ≡ S.retired
  pub byte3 : h.byte3 ≡ S.byte3

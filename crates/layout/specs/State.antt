-- The table as plain numbers, and the one definition of how it stands in bytes. Assumes nothing.
use Rattle.std.specs.Prelude.{◌≡◌, refl, List, [], ◌∷◌, ℕ, ◌+◌, ◌-◌, ◌^◌}
use Rattle.clock.specs.Vector.{Vector, zeros}
use Rattle.layout.specs.Codec.{Codec, number, ◌then◌, row, via}

-- the put of `origin` with `clock` was the last applied to this key at this site
pub record Entry : Type 0 where
  pub value : ℕ
  pub origin : ℕ
  pub zero : ℕ
  pub clock : ℕ
  pub depends : Vector

-- a put that may still be under way to some site
pub record Update : Type 0 where
  pub value : ℕ
  pub key : ℕ
  pub zero : ℕ
  pub clock : ℕ
  pub depends : Vector

-- n sites, k keys; a row of applied and depends for each site, entries by site and key, updates by origin and place
pub record State : Type 0 where
  pub n : ℕ
  pub k : ℕ
  pub retired : ℕ
  pub byte3 : ℕ
  pub applied : ℕ → Vector
  pub depends : ℕ → Vector
  pub store : ℕ → ℕ → Entry
  pub updates : ℕ → ℕ → Update

-- ## The layout

-- a byte, as the counts, a site or a key take; a value (4 bytes); a clock (2 bytes)
abbrev pub byte : Codec ℕ
byte = number 1

abbrev pub value : Codec ℕ
value = number 4

abbrev pub clock : Codec ℕ
clock = number 2

-- the greatest number that a clock can be
abbrev pub last_clock : ℕ
last_clock = 256 ^ clock.width - 1

-- eight columns of 2 bytes each
abbrev pub vector : Codec Vector
vector = row 8 clock

-- a square of eight rows by eight columns
abbrev pub square : Codec (ℕ → Vector)
square = row 8 vector

-- value (4 bytes), origin or key (1), zero (1), clock (2), dependency vector (8 columns of 2)
abbrev pub Fields : Type 0
Fields = ℕ × (ℕ × (ℕ × (ℕ × Vector)))

abbrev pub fields : Codec Fields
fields = value then byte then byte then clock then vector

abbrev pub to_entry : Fields → Entry
to_entry p = record { value = p.0; origin = p.1.0; zero = p.1.1.0; clock = p.1.1.1.0; depends = p.1.1.1.1 }

abbrev pub of_entry : Entry → Fields
of_entry e = (e.value, (e.origin, (e.zero, (e.clock, e.depends))))

abbrev pub entry : Codec Entry
entry = via to_entry of_entry fields

abbrev pub to_update : Fields → Update
to_update p = record { value = p.0; key = p.1.0; zero = p.1.1.0; clock = p.1.1.1.0; depends = p.1.1.1.1 }

abbrev pub of_update : Update → Fields
of_update u = (u.value, (u.key, (u.zero, (u.clock, u.depends))))

abbrev pub update : Codec Update
update = via to_update of_update fields

abbrev pub Parts : Type 0
Parts = ℕ × (ℕ × (ℕ × (ℕ × ((ℕ → Vector) × ((ℕ → Vector) × ((ℕ → ℕ → Entry) × (ℕ → ℕ → Update)))))))

abbrev pub to_state : Parts → State
to_state p =
    record {
      n = p.0;
      k = p.1.0;
      retired = p.1.1.0;
      byte3 = p.1.1.1.0;
      applied = p.1.1.1.1.0;
      depends = p.1.1.1.1.1.0;
      store = p.1.1.1.1.1.1.0;
      updates = p.1.1.1.1.1.1.1;
    }

abbrev pub of_state : State → Parts
of_state S = (S.n, (S.k, (S.retired, (S.byte3, (S.applied, (S.depends, (S.store, S.updates)))))))

-- for each of 8 sites, 64 entries; for each of 8 origins, 16 places
abbrev pub table : Codec State
table =
    via to_state of_state
    (byte then byte then byte then byte then square then square then row 8 (row 64 entry) then row 8 (row 16 update))

unfoldable pub state_of : List ℕ → State
state_of t = table.dec t

unfoldable pub bytes_of : State → List ℕ
bytes_of S = table.enc S

-- where the squares, the store and the updates begin
abbrev pub applied_at : ℕ
applied_at = 4

abbrev pub depends_at : ℕ
depends_at = applied_at + square.width

abbrev pub store_at : ℕ
store_at = depends_at + square.width

abbrev pub updates_at : ℕ
updates_at = store_at + (row 8 (row 64 entry)).width

-- the document's numbers: clocks up to 65,535; 15,620 bytes; the squares from 4 and 132, the store from 260, the updates from 12,548; 24 bytes each
pub the_widths : last_clock ∷ table.width ∷ square.width ∷ entry.width ∷ update.width ∷ [] ≡ 65535 ∷ 15620 ∷ 128 ∷ 24 ∷ 24 ∷ []
the_widths = refl

pub the_offsets : applied_at ∷ depends_at ∷ store_at ∷ updates_at ∷ (updates_at + (row 8 (row 16 update)).width) ∷ [] ≡ 4 ∷ 132 ∷ 260 ∷ 12548 ∷ 15620 ∷ []
the_offsets = refl

-- all bytes zero
abbrev pub all_zero : State
all_zero =
    record {
      n = 0;
      k = 0;
      retired = 0;
      byte3 = 0;
      applied = λ s. zeros;
      depends = λ s. zeros;
      store = λ s x. record { value = 0; origin = 0; zero = 0; clock = 0; depends = zeros };
      updates = λ o p. record { value = 0; key = 0; zero = 0; clock = 0; depends = zeros };
    }

-- ## A state with one part changed

abbrev pub with_counts : State → (n k : ℕ) → State
with_counts S n k =
    record { n = n; k = k; retired = S.retired; byte3 = S.byte3; applied = S.applied; depends = S.depends; store = S.store; updates = S.updates }

abbrev pub with_retired : State → (retired : ℕ) → State
with_retired S b =
    record { n = S.n; k = S.k; retired = b; byte3 = S.byte3; applied = S.applied; depends = S.depends; store = S.store; updates = S.updates }

abbrev pub with_applied : State → (ℕ → Vector) → State
with_applied S a =
    record { n = S.n; k = S.k; retired = S.retired; byte3 = S.byte3; applied = a; depends = S.depends; store = S.store; updates = S.updates }

abbrev pub with_depends : State → (ℕ → Vector) → State
with_depends S d =
    record { n = S.n; k = S.k; retired = S.retired; byte3 = S.byte3; applied = S.applied; depends = d; store = S.store; updates = S.updates }

abbrev pub with_store : State → (ℕ → ℕ → Entry) → State
with_store S e =
    record { n = S.n; k = S.k; retired = S.retired; byte3 = S.byte3; applied = S.applied; depends = S.depends; store = e; updates = S.updates }

abbrev pub with_updates : State → (ℕ → ℕ → Update) → State
with_updates S u =
    record { n = S.n; k = S.k; retired = S.retired; byte3 = S.byte3; applied = S.applied; depends = S.depends; store = S.store; updates = u }

-- The table's round trips. Assumes nothing.
use mathlib.Core.Path.{refl}
use Prim.Native.Nat.{zero, suc}
use native.Mathlib.Omega.{arith}
use borrow.Author.Tests.{ne_eqb}
use Rattle.layout.specs.State.{value, clock, fields, vector, to_entry, of_entry, to_update, of_update, to_state, of_state, table, state_of, bytes_of}
use Rattle.layout.specs.Ranges.{FitsVector, FitsFields, Fits}
use Rattle.layout.specs.Theorems.{BytesBack, StateBack, StateFits, BytesLong, RetiredByte}
use Rattle.layout.proofs.RoundTrip.{Lawful, number_lawful, then_lawful, row_lawful, via_lawful}

vector_lawful : Lawful vector FitsVector
vector_lawful = row_lawful (number_lawful clock.width) 8

pub fields_lawful : Lawful fields FitsFields
fields_lawful = then_lawful (number_lawful value.width) (then_lawful (number_lawful 1) (then_lawful (number_lawful 1) (then_lawful (number_lawful clock.width) vector_lawful)))

table_lawful : Lawful table Fits
table_lawful =
    let one = number_lawful 1 in
    let rows = row_lawful vector_lawful 8 in
    via_lawful
    (then_lawful one (then_lawful one (then_lawful one (then_lawful one (then_lawful rows (then_lawful rows
    (then_lawful
    (row_lawful (row_lawful (via_lawful fields_lawful to_entry of_entry (λ a. refl) (λ b. refl)) 64) 8)
    (row_lawful (row_lawful (via_lawful fields_lawful to_update of_update (λ a. refl) (λ b. refl)) 16) 8))))))))
    to_state of_state (λ a. refl) (λ b. refl)

pub bytes_back : BytesBack
unfolding bytes_of state_of
bytes_back = table_lawful.forth

pub state_back : StateBack
unfolding bytes_of state_of
state_back = table_lawful.back

pub state_fits : StateFits
unfolding state_of
state_fits = table_lawful.sane

pub bytes_long : BytesLong
unfolding bytes_of
bytes_long = table_lawful.long

pub retired_byte : RetiredByte
unfolding bytes_of
retired_byte S b zero h = refl
retired_byte S b (suc zero) h = refl
retired_byte S b (suc (suc zero)) h = omega arith
retired_byte S b (suc (suc (suc i))) h = rw (ne_eqb (suc (suc (suc i))) 2 (λ e. omega arith))

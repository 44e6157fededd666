-- A schedule's step: its fields, the call it makes, and what it answers and leaves. Assumes nothing.
use Rattle.std.specs.Prelude.{◌≡◌, Bool, ◌&&◌, List, ℕ, ◌/◌, ◌%◌, ◌^◌, eqb}
use Rattle.clock.specs.Map.{when◌then◌else◌}
use Rattle.layout.specs.Codec.{number_of}
use Rattle.layout.specs.State.{State}
use Rattle.rules.specs.Engine.{ours}
use Rattle.rules.specs.Steps.{Outcome, refused}
use Rattle.rules.specs.Calls as Calls
use Rattle.rules.specs.Calls.{Call, run, Served, serve}
use Rattle.schedule.specs.declared.Operation.{Operation}
use Rattle.schedule.specs.declared.Operation.TheVariants.{Put, Get, Deliver, Drain}
use Rattle.schedule.specs.declared.Step.{Step}

-- the width of a step: 48 bits
abbrev pub step_bytes : ℕ
step_bytes = 6

-- "0 put, 1 get, 2 deliver, 3 drain"
abbrev pub operation_of : ℕ → Operation
operation_of o = when eqb o 0 then Put else when eqb o 1 then Get else when eqb o 2 then Deliver else Drain

-- "operation (2 bits), site (3), origin (3), key (8), value (32)"
abbrev pub fields_of : (bits : ℕ) → Step
fields_of b = record { operation = b / 2 ^ 46; site = b / 2 ^ 43 % 2 ^ 3; origin = b / 2 ^ 40 % 2 ^ 3; key = b / 2 ^ 32 % 2 ^ 8; value = b % 2 ^ 32 }

unfoldable pub step_of : List ℕ → Step
step_of l = fields_of (number_of step_bytes l)

-- ".. drain with budget 903"
unfoldable pub call_of : Step → Call
call_of p =
    elim (operation_of p.operation) [
      | Put ↦ Calls.Put p.site p.key p.value
      | Get ↦ Calls.Get p.site p.key
      | Deliver ↦ Calls.Deliver p.site p.origin
      | Drain ↦ Calls.Drain p.site 903
    ]

-- of three fields none is set
abbrev pub zero : (origin key value : ℕ) → Bool
zero o x v = eqb o 0 && eqb x 0 && eqb v 0

-- "A put uses site, key and value; a get site and key; a deliver site and origin; a drain its site. Unused fields are zero"
unfoldable pub unused_zero : Step → Bool
unused_zero p =
    elim (operation_of p.operation) [
      | Put ↦ zero p.origin 0 0
      | Get ↦ zero p.origin 0 p.value
      | Deliver ↦ zero 0 p.key p.value
      | Drain ↦ zero p.origin p.key p.value
    ]

-- ".. else 12", which "comes before all others"; the table keeps all bytes
unfoldable pub played : State → Step → Outcome
played S p = when unused_zero p then run ours S (call_of p) else record { answer = refused 12; after = S }

-- the same on the bytes of a lent table, of any length
unfoldable pub played_on : List ℕ → Step → Served
played_on t p = when unused_zero p then serve ours t (call_of p) else record { answer = refused 12; bytes = t }

-- the promise of `play`: on the bytes t a step answers and leaves that
abbrev pub Promise : List ℕ → Step → Served → Type 0
Promise t p w = w ≡ played_on t p

use Rattle.std.proofs.Common.{◌≡◌, ◌+◌, ◌*◌, ◌-◌, ◌≤◌, length}
use Rattle.layout.specs.State.{state_of}
use Rattle.schedule.specs.declared.Output.{Output}
use Rattle.schedule.specs.Listing.{listed}
use Rattle.schedule.specs.Written.{Adds}
use Rattle.schedule.proofs.Output.steps.Given as goal

-- the lines so far leave room, and whoever adds the rest of the listing has added all of it
abbrev pub invariant-loop-i : goal.invariant-loop-i
invariant-loop-i l =
    (length l.self.bytes.now ≡ length l.initial.self.bytes.now)
    × (l.self.written ≤ l.initial.self.written + 66 * l.i)
    × ((new : Output) → Adds l.self (listed (10922 - l.i) (state_of l.t) l.i l.rest) new
    → Adds l.initial.self (listed 10922 (state_of l.initial.t) 0 l.steps) new)

use Rattle.std.proofs.Common.{◌≡◌, false}
use Rattle.layout.specs.State.{state_of}
use Rattle.refusals.specs.Asked.{full_in}
use Rattle.refusals.proofs.full.Given as goal

abbrev pub invariant-loop-i : goal.invariant-loop-i
invariant-loop-i l = full_in (state_of l.t) l.i l.s ≡ false

use Rattle.std.proofs.Common.{◌≡◌}
use Rattle.clock.specs.Map.{up_to}
use Rattle.clock.specs.Clock.{columns}
use Rattle.layout.specs.State.{vector}
use Rattle.layout.proofs.write_vector.Given as goal

abbrev pub invariant-loop-i : goal.invariant-loop-i
invariant-loop-i l = vector.dec l.s ≡ up_to l.i (columns l.c) (vector.dec l.initial.s)

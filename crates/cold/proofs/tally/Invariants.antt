use Rattle.layout.specs.State.{state_of}
use Rattle.rules.specs.Touch.{kinds_at}
use Rattle.cold.specs.Tally.{Tally}
use Rattle.cold.proofs.tally.Given as goal

abbrev pub invariant-loop-x : goal.invariant-loop-x
invariant-loop-x l = Tally (kinds_at (state_of l.t) l.s l.hours.hour l.hours.threshold) l.x l.list l.c

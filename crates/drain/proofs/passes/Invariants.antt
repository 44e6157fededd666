use Rattle.std.proofs.Common.{◌-◌}
use Rattle.layout.specs.State.{state_of}
use Rattle.drain.specs.Turns.{turn_of}
use Rattle.drain.proofs.Draining.{Draining}
use Rattle.drain.proofs.passes.Given as goal

abbrev pub invariant-loop-turn : goal.invariant-loop-turn
invariant-loop-turn g l = Draining (g.E.EngineValue.engine l.engine) (state_of l.initial.t) (state_of l.t) l.n l.s l.budget (turn_of l.turn) l.deliveries l.tries

abbrev pub decreases-loop-turn : goal.decreases-loop-turn
decreases-loop-turn g l = l.budget - l.tries

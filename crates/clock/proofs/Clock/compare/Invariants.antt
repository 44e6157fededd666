use Rattle.clock.specs.Clock.{cells}
use Rattle.clock.proofs.Compares.{Down}
use Rattle.clock.proofs.Clock.compare.Given as goal

abbrev pub invariant-loop-i : goal.invariant-loop-i
invariant-loop-i l = Down (cells l.self.col) (cells l.other.col) l.i l.mask l.column l.number

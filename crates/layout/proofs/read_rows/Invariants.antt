use Rattle.std.proofs.Common.{◌≡◌, length}
use Rattle.layout.specs.State.{square}
use Rattle.layout.specs.Records.{cells2, rows}
use Rattle.layout.proofs.read_rows.Given as goal

abbrev pub invariant-loop-i : goal.invariant-loop-i
invariant-loop-i l = (length l.a ≡ 8) × (cells2 l.a ≡ rows l.from l.i (square.dec l.s))

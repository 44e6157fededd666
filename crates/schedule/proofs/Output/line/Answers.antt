use Rattle.schedule.specs.Text.{line}
use Rattle.schedule.proofs.Writing.{adds_then}
use Rattle.schedule.proofs.Output.line.Goals as goal

pub returns-clause-written : goal.returns-clause-written
unfolding line
returns-clause-written c =
    rw (← c.from-a.ensures, line, ← c.from.ensures, ← c.from-2.ensures, ← c.from-3.ensures, ← c.from-4.ensures)
    (adds_then c.word.ensures.written
    (adds_then c.word-2.ensures.written
    (adds_then c.word-3.ensures.written (adds_then c.word-4.ensures.written (adds_then c.word-5.ensures.written c.word-6.ensures.written)))))

use Rattle.schedule.proofs.Writing.{adds_then}
use Rattle.schedule.proofs.Output.last_line.Goals as goal

pub returns : goal.returns
returns c = adds_then c.text.ensures c.word.ensures.written

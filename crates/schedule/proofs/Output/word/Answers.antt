use Rattle.schedule.proofs.Decimal.{decimal_one}
use Rattle.schedule.proofs.Writing.{adds_then}
use Rattle.schedule.proofs.Output.word.Goals as goal

pub returns-then-n-lt10-clause-written : goal.returns-then-n-lt10-clause-written
returns-then-n-lt10-clause-written c = rw (decimal_one c.args.n c.if-n-lt10.true) c.text.ensures

pub returns-else-n-lt10-clause-written : goal.returns-else-n-lt10-clause-written
returns-else-n-lt10-clause-written c = adds_then c.decimal.ensures c.text-else-n-lt10.ensures

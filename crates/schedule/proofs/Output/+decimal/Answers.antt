use Rattle.std.proofs.Common.{arith}
use Rattle.schedule.proofs.Decimal.{decimal_one, decimal_two, decimal_pair}
use Rattle.schedule.proofs.Writing.{adds_then}
use Rattle.schedule.proofs.Output.+decimal.Goals as goal

pub text-requires-then-n-ge10 : goal.text-requires-then-n-ge10
text-requires-then-n-ge10 t c = rw (decimal_two c.args.n c.if-n-ge10.true c.if-tens-ge10.false) at c.requires

pub text-requires-else-n-ge10 : goal.text-requires-else-n-ge10
text-requires-else-n-ge10 t c = rw (decimal_one c.args.n c.if-n-ge10.false) at c.requires

pub returns-then-tens-ge10 : goal.returns-then-tens-ge10
returns-then-tens-ge10 t c = rw (decimal_pair c.args.n c.if-tens-ge10.true (omega arith)) (adds_then c.decimal.ensures c.text.ensures)

pub returns-then-n-ge10 : goal.returns-then-n-ge10
returns-then-n-ge10 t c = rw (decimal_two c.args.n c.if-n-ge10.true c.if-tens-ge10.false) c.text-then-n-ge10.ensures

pub returns-else-n-ge10 : goal.returns-else-n-ge10
returns-else-n-ge10 t c = rw (decimal_one c.args.n c.if-n-ge10.false) c.text-else-n-ge10.ensures

use Rattle.sound.proofs.Bits.{below_shifted}
use Rattle.sound.proofs.some_live.Goals as goal

pub returns : goal.returns
returns c = rw c.from.ensures (below_shifted c.args.retired c.args.n)

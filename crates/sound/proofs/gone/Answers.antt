use Rattle.sound.proofs.Bits.{bit_shifted}
use Rattle.sound.proofs.gone.Goals as goal

pub returns : goal.returns
returns c = bit_shifted c.args.retired c.args.s

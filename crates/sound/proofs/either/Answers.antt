use Rattle.std.proofs.Common.{arith}
use lib.Bits.{or_add_and, and_le_l, and_le_r}
use Rattle.sound.proofs.either.Goals as goal

pub returns : goal.returns
returns c = let a = c.args in omega (arith, or_add_and a.a a.b, and_le_l a.a a.b, and_le_r a.a a.b)

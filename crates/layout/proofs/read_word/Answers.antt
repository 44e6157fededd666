use Rattle.std.proofs.Common.{◌∙◌, sym, arith}
use Rattle.layout.proofs.Zeros.{low_zeros_are}
use Rattle.layout.proofs.read_word.Goals as goal

pub returns : goal.returns
returns c =
    let e = c.from_le_bytes.ensures in
    let are = low_zeros_are 7 c.args.s.now (omega arith) in
    ((λ z. are.0 (sym e ∙ z)), λ z. e ∙ are.1 z)

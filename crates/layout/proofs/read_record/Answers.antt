use Rattle.std.proofs.Common.{◌∙◌, get_or}
use Rattle.layout.proofs.Places.{fields_read}
use Rattle.layout.proofs.read_record.Goals as goal

pub returns : goal.returns
returns c =
    let s = c.args.s.now in
    (λ i. (c.read_value.ensures i, (get_or s 4 0, (get_or s 5 0, (c.read_clock.ensures i, c.read_vector.ensures i)))))
    ∙ fields_read s

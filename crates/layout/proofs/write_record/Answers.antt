use Rattle.std.proofs.Common.{◌∙◌, rules}
use Rattle.layout.proofs.Places.{fields_written}
use Rattle.layout.proofs.write_record.Goals as goal

pub returns : goal.returns
returns c =
    let a = c.args in
    let value = c.write_value in
    let clock = c.write_clock in
    let vector = c.write_vector in
    fields_written a.s.now value.new.s a.r.tag a.r.zero clock.new.s vector.new.s c.requires
    (search rules) (search rules) (search rules) (search rules) value.auto.s clock.auto.s vector.auto.s
    ∙ (λ i. (value.ensures i, (a.r.tag, (a.r.zero, (clock.ensures i, vector.ensures i)))))

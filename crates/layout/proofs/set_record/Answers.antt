use Rattle.std.proofs.Common.{◌∙◌, sym, rules}
use Rattle.layout.specs.State.{state_of}
use Rattle.layout.specs.Records.{fields_at}
use Rattle.layout.proofs.Fields.{at_place, write_part}
use Rattle.layout.proofs.Places.{record_stands}
use Rattle.layout.proofs.set_record.Goals as goal

pub returns : goal.returns
unfolding state_of fields_at
returns g c =
    let w = c.write_record in
    let a = c.args in
    write_part (at_place (sym c.record_place-at.ensures) (record_stands g.R.Shelves.which a.s a.x c.requires.0 c.requires.1)) a.t.now w.new.s
    (search rules) w.auto.s
    ∙ rw w.ensures

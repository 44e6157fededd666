use Rattle.std.proofs.Common.{◌∙◌, sym}
use Rattle.layout.specs.State.{state_of}
use Rattle.layout.specs.Records.{fields_at}
use Rattle.layout.proofs.Fields.{at_place, read_part}
use Rattle.layout.proofs.Places.{record_stands}
use Rattle.layout.proofs.record_at.Goals as goal

pub returns : goal.returns
unfolding state_of fields_at
returns g c =
    let a = c.args in
    c.read_record.ensures
    ∙ read_part (at_place (sym c.record_place-at.ensures) (record_stands g.R.Shelves.which a.s a.x c.requires.0 c.requires.1)) a.t.now

use Rattle.std.proofs.Common.{◌∙◌, ap, sym, rules}
use Rattle.layout.specs.State.{state_of}
use Rattle.layout.specs.Records.{rows}
use Rattle.layout.proofs.Fields.{at_place, read_part}
use Rattle.layout.proofs.Places.{square_stands}
use Rattle.layout.proofs.rows.Goals as goal

pub returns : goal.returns
unfolding state_of
returns g c = c.read_rows.ensures ∙ ap (rows c.args.from c.args.to) (read_part (at_place (sym (search rules)) (square_stands g.Q.Square.which)) c.args.t.now)

use Rattle.std.proofs.Common.{◌∙◌, rules}
use Rattle.layout.specs.State.{state_of}
use Rattle.layout.proofs.Fields.{at_place, write_part}
use Rattle.layout.proofs.Places.{square_stands, row_placed}
use Rattle.layout.proofs.set_row.Goals as goal

pub returns : goal.returns
unfolding state_of
returns g c =
    let w = c.write_vector in
    let a = c.args in
    write_part (at_place (search rules) (row_placed (square_stands g.Q.Square.which) a.s c.requires)) a.t.now w.new.s (search rules) w.auto.s ∙ rw w.ensures

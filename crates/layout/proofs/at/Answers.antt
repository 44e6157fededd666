use Rattle.std.proofs.Common.{◌∙◌, sym}
use Rattle.layout.specs.State.{state_of}
use Rattle.layout.proofs.Fields.{at_place, read_part}
use Rattle.layout.proofs.Places.{square_stands, number_placed}
use Rattle.layout.proofs.at.Goals as goal

pub returns : goal.returns
unfolding state_of
returns g c =
    let a = c.args in
    c.read_clock.ensures
    ∙ read_part (at_place (sym c.place-at.ensures) (number_placed (square_stands g.Q.Square.which) a.s a.o c.requires.0 c.requires.1)) a.t.now

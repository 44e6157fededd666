use Rattle.std.proofs.Common.{◌∙◌, sym, refl, [], rules, arith}
use Rattle.clock.specs.Map.{up_to}
use Rattle.clock.specs.Vector.{zeros}
use Rattle.clock.specs.Clock.{cells}
use Rattle.clock.proofs.Cells.{up_to_none, up_to_from, fill_next}
use Rattle.layout.specs.State.{vector, square}
use Rattle.layout.proofs.Fields.{element, read_part}
use Rattle.layout.proofs.Places.{cells2_zeros}
use Rattle.layout.proofs.read_rows.Goals as goal

pub loop-i-init : goal.loop-i-init
loop-i-init c = (refl, cells2_zeros 8 8 ∙ sym (up_to_none _ _ c.args.from))

pub loop-i-preserved : goal.loop-i-preserved
loop-i-preserved c =
    let a = c.args in
    let l = c.loop-i in
    let f = square.dec a.s.now in
    let read = c.read_vector.ensures ∙ read_part (element vector 8 l.i (omega arith)) a.s.now in (
      search rules,
      fill_next cells [] (up_to a.from (λ j. zeros) f) (λ j. zeros) l.a l.i _ (omega arith) l.invariant.1 (read ∙ sym (up_to_from (λ j. zeros) f a.from l.i (omega arith))),
    )

use Rattle.std.proofs.Common.{◌∙◌, sym, rules, arith}
use Rattle.clock.proofs.Cells.{cells_past, up_to_all, up_to_next}
use Rattle.layout.specs.State.{clock}
use Rattle.layout.proofs.Fields.{element, row_past, write_part}
use Rattle.layout.proofs.write_vector.Goals as goal

pub loop-i-preserved : goal.loop-i-preserved
loop-i-preserved c =
    let l = c.loop-i in
    let w = c.write_clock in
    write_part (element clock 8 l.i (omega arith)) l.s w.new.s (search rules) w.auto.s ∙ rw (l.invariant, w.ensures) (up_to_next _ _ l.i)

pub returns : goal.returns
returns c =
    c.loop-i.invariant ∙ up_to_all _ _ 8 c.loop-i.i (omega arith) λ j h.
    row_past clock 8 c.args.s.now (search rules) j h ∙ sym (cells_past c.args.c.col 8 (search rules) j h)

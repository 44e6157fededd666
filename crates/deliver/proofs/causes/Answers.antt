use Rattle.std.proofs.Common.{◌∙◌, ap, mod-eq_of_lt, ◌%◌}
use Rattle.clock.specs.Vector.{Vector}
use Rattle.clock.specs.Clock as clocks
use Rattle.layout.specs.State.{state_of}
use Rattle.layout.proofs.Places.{row_read}
use Rattle.deliver.proofs.causes.Goals as goal

pub returns : goal.returns
returns c =
    let a = c.args in
    let f = (state_of a.t.now).applied in
    c.compare.ensures
    ∙ ap (λ (v : Vector). clocks.compare (clocks.columns a.u.depends) v) (row_read (a.s % 8) f c.rows-a.ensures ∙ ap f (mod-eq_of_lt c.requires))

use Rattle.std.proofs.Common.{◌∙◌, ap, mod-eq_of_lt, ◌%◌}
use Rattle.layout.specs.State.{state_of}
use Rattle.layout.proofs.Places.{row_read}
use Rattle.rows.proofs.row.Goals as goal

pub returns : goal.returns
returns c =
    let f = (state_of c.args.t.now).depends in
    row_read (c.args.s % 8) f c.rows-d.ensures ∙ ap f (mod-eq_of_lt c.requires)

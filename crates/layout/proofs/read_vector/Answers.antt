use Rattle.std.proofs.Common.{◌≡◌, ◌∙◌, ◌+◌, ◌*◌, ◌-◌, rules}
use Rattle.clock.proofs.Cells.{made_at, cells_are}
use Rattle.layout.specs.State.{clock, vector}
use Rattle.layout.specs.Fields.{part}
use Rattle.layout.proofs.Fields.{element, row_past, read_part}
use Rattle.layout.proofs.read_vector.Goals as goal

pub returns : goal.returns
returns c =
    let s = c.args.s.now in
    let made = c.from_fn.ensures.items in
    let column = made_at (vector.dec s) made (λ i b q h k.
    let read : b ≡ clock.dec (part s (i * 2) (i * 2 + 2 - i * 2)) = search rules in
    (search rules, read ∙ read_part (element clock 8 i h) s)) in
    cells_are _ 8 made.long (λ j h. column j 0 h) (row_past clock 8 s c.requires)

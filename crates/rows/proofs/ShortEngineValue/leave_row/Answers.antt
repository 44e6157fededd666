use Rattle.std.proofs.Common.{◌∙◌, ap}
use Rattle.clock.specs.Map.{◌⟨◌≔◌⟩}
use Rattle.clock.specs.Vector.{Vector, note}
use Rattle.layout.specs.State.{state_of, with_depends}
use Rattle.rows.proofs.ShortEngineValue.leave_row.Goals as goal

pub returns : goal.returns
returns c =
    let a = c.args in
    let S = state_of a.t.now in
    c.set_row.ensures
    ∙ ap (λ (v : Vector). with_depends S (S.depends ⟨ a.s ≔ v ⟩)) (c.note.ensures ∙ ap (λ (v : Vector). note v a.s a.c) c.zero.ensures)

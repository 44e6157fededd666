use Rattle.std.proofs.Common.{ℕ, rules}
use Rattle.clock.specs.Vector.{join}
use Rattle.clock.specs.Clock.{cells}
use Rattle.clock.proofs.Cells.{made_at, cells_are, cells_past}
use Rattle.clock.proofs.Clock.join.Goals as goal

pub returns : goal.returns
returns c =
    let a = c.args in
    let v : ℕ → ℕ = join (cells a.self.col) (cells a.other.col) in
    let made = c.from_fn.ensures.items in
    cells_are _ 8 made.long (λ j h. made_at v made (λ i b q h k. (search rules, search rules)) j 0 h) (λ j h. rw (cells_past a.self.col 8 (search rules) j h, cells_past a.other.col 8 (search rules) j h))

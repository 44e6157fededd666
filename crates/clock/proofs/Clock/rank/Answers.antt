use Rattle.std.proofs.Common.{rules, ◌≡◌, ◌∙◌, sym, ap}
use Rattle.std.specs.List as std
use Rattle.std.proofs.iter.runs.Sources.{sums}
use Rattle.clock.specs.Map.{sum}
use Rattle.clock.specs.Clock.{cells}
use Rattle.clock.proofs.Sums.{sum_cells}
use Rattle.clock.proofs.Clock.rank.Goals as goal

pub sum-requires-clause-fits : goal.sum-requires-clause-fits
sum-requires-clause-fits c = search (rules, sums)

pub returns : goal.returns
returns c =
    let e : c.sum.result ≡ std.sum c.args.self.col = search rules in
    e ∙ sym (sum_cells c.args.self.col) ∙ ap (λ m. sum m (cells c.args.self.col)) (search rules)

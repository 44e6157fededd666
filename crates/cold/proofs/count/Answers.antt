use Rattle.std.proofs.Common.{ap, ◌∙◌}
use mathlib.Core.Logic.{⊎_elim}
use Rattle.rules.specs.Touch.{cold, ahead, malformed, is}
use Rattle.cold.specs.Kinds.{meant}
use Rattle.cold.proofs.Counting.{tally_cold, tally_ahead, tally_malformed, tally_other}
use Rattle.cold.proofs.count.Goals as goal

pub returns-in-Cold : goal.returns-in-Cold
returns-in-Cold c f e T = rw c.from.ensures (tally_cold T (e ∙ ap meant c.in-Cold.is) c.requires.0)

pub returns-in-Ahead : goal.returns-in-Ahead
returns-in-Ahead c f e T = tally_ahead T (e ∙ ap meant c.in-Ahead.is)

pub returns-in-Malformed : goal.returns-in-Malformed
returns-in-Malformed c f e T = tally_malformed T (e ∙ ap meant c.in-Malformed.is)

pub returns-in-Fresh : goal.returns-in-Fresh
returns-in-Fresh c f e T =
    ⊎_elim
    (λ k. let q = e ∙ ap meant k in tally_other T (ap (is cold) q) (ap (is ahead) q) (ap (is malformed) q))
    (λ k. let q = e ∙ ap meant k in tally_other T (ap (is cold) q) (ap (is ahead) q) (ap (is malformed) q))
    c.in-Fresh.is

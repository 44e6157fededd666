use Rattle.std.proofs.Common.{eq-eqb}
use borrow.Author.Tests.{ne_eqb}
use Rattle.rules.specs.Touch.{kind}
use Rattle.cold.proofs.Hours.kind_at.Goals as goal

pub returns-then-e-eq0 : goal.returns-then-e-eq0
unfolding kind
returns-then-e-eq0 c = rw (eq-eqb _ 0 c.if-e-eq0.true)

pub returns : goal.returns
unfolding kind
returns c = rw (ne_eqb _ 0 c.if-e-eq0.false) c.kind_of.ensures

use Rattle.std.proofs.Common.{sym, arith, eq-eqb}
use mathlib.Core.Bool.{or-false}
use borrow.Author.Tests.{ne_eqb, le-ltb}
use Rattle.rules.specs.Engine as rules
use Rattle.rows.proofs.outranks.Goals as goal

pub returns-then-old-eq0 : goal.returns-then-old-eq0
unfolding rules.outranks
returns-then-old-eq0 c = rw (eq-eqb _ 0 c.if-old-eq0.true)

pub returns-then-rank-old_rank : goal.returns-then-rank-old_rank
unfolding rules.outranks
returns-then-rank-old_rank c =
    let old = c.rank-old_rank in
    let new = c.rank-rank in
    rw (← old.ensures, ← new.ensures, ne_eqb _ 0 c.if-old-eq0.false, le-ltb old.result new.result (omega arith), eq-eqb old.result new.result (omega arith))
    (rw c.from.ensures)

pub returns : goal.returns
unfolding rules.outranks
returns c =
    let old = c.rank-old_rank in
    let new = c.rank-rank in
    rw (← old.ensures, ← new.ensures, ne_eqb _ 0 c.if-old-eq0.false, ne_eqb old.result new.result (omega arith)) (sym (or-false _))

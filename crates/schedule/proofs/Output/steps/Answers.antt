use Rattle.std.proofs.Common.{◌≡◌, ◌-◌, length, rules, arith, eq-eqb, ne_eqb}
use Rattle.layout.specs.State.{state_of}
use Rattle.schedule.specs.Listing.{last_line, listed}
use Rattle.schedule.specs.Text.{end_line, cut_line}
use Rattle.schedule.proofs.Going.{onward, ended}
use Rattle.schedule.proofs.Output.steps.Goals as goal

pub returns-in-0 : goal.returns-in-0
unfolding last_line end_line
returns-in-0 c =
    let l = c.loop-i in
    l.invariant.2 _ (ended (state_of l.t) l.i l.rest.now (omega arith) (omega arith) (rw (last_line, eq-eqb (length l.rest.now) 0 (omega arith)) c.last_line.ensures))

pub returns-in_default-len : goal.returns-in_default-len
unfolding last_line cut_line
returns-in_default-len c =
    let l = c.loop-i in
    l.invariant.2 _ (ended (state_of l.t) l.i l.rest.now (omega arith) (search rules) (rw (last_line, ne_eqb (length l.rest.now) 0 (omega arith)) c.last_line-in_default-len.ensures))

pub loop-i-preserved : goal.loop-i-preserved
loop-i-preserved c =
    let l = c.loop-i in
    let split = c.in-Some.ensures.cases in (
      search rules,
      search rules,
      λ new f. l.invariant.2 new (onward (state_of l.t) l.i l.rest.now (omega arith) (search rules) (rw split.0 at c.step.ensures.written) (rw (c.step.ensures.after, split.0, split.1) at f)),
    )

pub returns : goal.returns
unfolding listed end_line
returns c =
    let l = c.loop-i in
    let most : 10922 - l.i ≡ 0 = omega arith in
    let i : l.i ≡ 10922 = omega arith in
    l.invariant.2 _ (rw (most, listed, i) c.last_line-2.ensures)

use Rattle.std.proofs.Common.{◌≡◌, ◌∙◌, ap, rules, arith}
use Rattle.laws.proofs.Outcomes.{outcome}
use Rattle.layout.specs.Ranges.{Bytes}
use Rattle.layout.specs.State.{state_of}
use Rattle.rules.specs.Steps.{Outcome}
use Rattle.schedule.specs.Step.{step_of, played, played_on}
use Rattle.answers.specs.Answers.{served}
use Rattle.schedule.proofs.Playing.{played_is}
use Rattle.schedule.proofs.Output.step.Goals as goal

plays : (c : goal.After-line) → outcome (served c.play.result c.play.new.t) ≡ played (state_of c.args.t.now) (step_of c.args.step.now)
unfolding Bytes step_of
plays c =
    let t = c.args.t.now in
    let p = step_of c.args.step.now in
    ap outcome (c.play.ensures ∙ ap (played_on t) c.decode.ensures) ∙ played_is t (search rules) (λ i. search rules) p (omega arith)

pub returns-clause-after : goal.returns-clause-after
returns-clause-after c = ap (λ (o : Outcome). o.after) (plays c)

pub returns-clause-written : goal.returns-clause-written
returns-clause-written c = rw (← ap (λ (o : Outcome). o.answer) (plays c)) c.line.ensures.written

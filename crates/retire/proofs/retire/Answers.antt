use Rattle.std.proofs.Common.{refl, sym, rules, arith}
use Rattle.layout.specs.State.{state_of}
use Rattle.layout.specs.Ranges.{Bytes}
use Rattle.rules.specs.Engine.{ours}
use Rattle.rules.specs.Steps.{retire}
use Rattle.rules.specs.Calls.{Retire, step, refusals}
use Rattle.answers.proofs.Serves.{other_size, refused_inside, step_taken}
use Rattle.retire.proofs.Retiring.{retire_fits}
use Rattle.retire.proofs.retire.Goals as goal

pub returns-in_err-t : goal.returns-in_err-t
returns-in_err-t c = other_size ours _ (Retire c.args.s) _ (search rules) (search rules) refl

pub returns-in_err-retire_refusal : goal.returns-in_err-retire_refusal
returns-in_err-retire_refusal c =
    refused_inside ours _ (Retire c.args.s) _ (search rules) (search rules) _ _ (search rules) c.in_err-retire_refusal.ensures

pub retire_step-requires : goal.retire_step-requires
unfolding refusals
retire_step-requires c = retire_fits (state_of c.in_ok-t.t.now) c.args.s (sym c.in_ok-retire_refusal.ensures)

pub returns : goal.returns
unfolding Bytes step retire
returns c =
    step_taken ours _ (Retire c.args.s) _ (search rules) (search rules) _ _ (search rules) (λ i. omega (arith, c.type_inv.t i))
    c.in_ok-retire_refusal.ensures refl c.retire_step.ensures

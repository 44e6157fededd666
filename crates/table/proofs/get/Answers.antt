use Rattle.std.proofs.Common.{refl, sym, rules, arith}
use Rattle.layout.specs.State.{state_of}
use Rattle.layout.specs.Ranges.{Bytes}
use Rattle.rules.specs.Steps.{done, get}
use Rattle.rules.specs.Calls.{Get, step, refusals}
use Rattle.laws.proofs.Ready.{get_ready}
use Rattle.answers.proofs.Serves.{other_size, refused_inside, step_taken}
use Rattle.rows.proofs.Fits.{get_fits}
use Rattle.table.proofs.get.Goals as goal

pub returns-in_err-t : goal.returns-in_err-t
returns-in_err-t g c = other_size (g.E.EngineValue.engine c.args.engine) _ (Get c.args.s c.args.x) _ (search rules) (search rules) refl

pub returns-in_err-get_refusal : goal.returns-in_err-get_refusal
returns-in_err-get_refusal g c =
    refused_inside (g.E.EngineValue.engine c.args.engine) _ (Get c.args.s c.args.x) _ (search rules) (search rules) _ _ (search rules) c.in_err-get_refusal.ensures.refusal

pub get_step-e-requires : goal.get_step-e-requires
unfolding refusals
get_step-e-requires g c =
    let a = c.args in
    let S = state_of c.in_ok-t.t.now in
    get_fits S a.s a.x ((get_ready S a.s a.x).0 (sym c.in_ok-get_refusal.ensures.refusal))

pub overflow_cast-result : goal.overflow_cast-result
unfolding refusals
overflow_cast-result g c =
    let R = (get_ready (state_of c.in_ok-t.t.now) c.args.s c.args.x).0 (sym c.in_ok-get_refusal.ensures.refusal) in
    omega (arith, R.key, R.sound.keys)

pub returns : goal.returns
unfolding Bytes step get
returns g c =
    let a = c.args in
    let w = c.get_step-e.ensures in
    step_taken (g.E.EngineValue.engine a.engine) _ (Get a.s a.x) _ (search rules) (search rules) _ _ (search rules) (λ i. omega (arith, c.type_inv.t i))
    c.in_ok-get_refusal.ensures.refusal (λ i. done a.x (w.entry i).origin (w.entry i).clock (w.entry i).value) w.after

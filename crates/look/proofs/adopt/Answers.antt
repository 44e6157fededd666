use Rattle.std.proofs.Common.{refl, sym, rules, arith}
use Rattle.layout.specs.State.{state_of}
use Rattle.layout.specs.Ranges.{Bytes}
use Rattle.rules.specs.Steps.{done, get}
use Rattle.rules.specs.Calls.{Adopt, step, refusals}
use Rattle.laws.proofs.Ready.{adopt_ready}
use Rattle.answers.proofs.Serves.{other_size, refused_inside, step_taken}
use Rattle.rows.proofs.Fits.{get_fits}
use Rattle.look.proofs.adopt.Goals as goal

pub returns-in_err-t : goal.returns-in_err-t
returns-in_err-t g c = other_size (g.E.EngineValue.engine c.args.engine) _ (Adopt c.args.s c.args.x c.args.o c.args.c) _ (search rules) (search rules) refl

pub returns-in_err-adopt_refusal : goal.returns-in_err-adopt_refusal
returns-in_err-adopt_refusal g c =
    refused_inside (g.E.EngineValue.engine c.args.engine) _ (Adopt c.args.s c.args.x c.args.o c.args.c) _ (search rules) (search rules) _ _ (search rules) c.in_err-adopt_refusal.ensures

pub get_step-e-requires : goal.get_step-e-requires
unfolding refusals
get_step-e-requires g c =
    let a = c.args in
    let S = state_of c.in_ok-t.t.now in
    get_fits S a.s a.x ((adopt_ready S a.s a.x a.o a.c).0 (sym c.in_ok-adopt_refusal.ensures)).get

pub overflow_cast-result : goal.overflow_cast-result
unfolding refusals
overflow_cast-result g c =
    let a = c.args in
    let R = (adopt_ready (state_of c.in_ok-t.t.now) a.s a.x a.o a.c).0 (sym c.in_ok-adopt_refusal.ensures) in
    omega (arith, R.get.key, R.get.sound.keys)

pub returns : goal.returns
unfolding Bytes step get
returns g c =
    let a = c.args in
    let w = c.get_step-e.ensures in
    step_taken (g.E.EngineValue.engine a.engine) _ (Adopt a.s a.x a.o a.c) _ (search rules) (search rules) _ _ (search rules) (λ i. omega (arith, c.type_inv.t i))
    c.in_ok-adopt_refusal.ensures (λ i. done a.x (w.entry i).origin (w.entry i).clock (w.entry i).value) w.after

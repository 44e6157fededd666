use Rattle.std.proofs.Common.{refl, sym, ap, ◌∙◌, rules, arith}
use Rattle.layout.specs.State.{State, state_of}
use Rattle.layout.specs.Ranges.{Bytes}
use Rattle.rules.specs.Steps.{Outcome, done, put}
use Rattle.rules.specs.Calls.{Put, step, refusals}
use Rattle.laws.proofs.Ready.{put_ready, gets_too}
use Rattle.answers.proofs.Serves.{other_size, refused_inside, step_taken}
use Rattle.rows.proofs.Fits.{get_fits}
use Rattle.rows.proofs.Sending.{sends_as_is, puts_the_same}
use Rattle.table.proofs.put.Goals as goal

pub returns-in_err-t : goal.returns-in_err-t
returns-in_err-t g c = other_size (g.E.EngineValue.engine c.args.engine) _ (Put c.args.s c.args.x c.args.v) _ (search rules) (search rules) refl

pub returns-in_err-put_refusal : goal.returns-in_err-put_refusal
unfolding refusals
returns-in_err-put_refusal g c =
    refused_inside (g.E.EngineValue.engine c.args.engine) _ (Put c.args.s c.args.x c.args.v) _ (search rules) (search rules) _ _ (search rules) c.in_err-put_refusal.ensures

pub learn_old-requires : goal.learn_old-requires
unfolding refusals
learn_old-requires g c =
    let a = c.args in
    let S = state_of c.in_ok-t.t.now in
    get_fits S a.s a.x (gets_too ((put_ready S a.s a.x).0 (sym c.in_ok-put_refusal.ensures)))

pub put_step-c-requires : goal.put_step-c-requires
unfolding refusals
put_step-c-requires g c =
    let a = c.args in
    let S = state_of c.in_ok-t.t.now in
    let R = (put_ready S a.s a.x).0 (sym c.in_ok-put_refusal.ensures) in
    let f = get_fits S a.s a.x (gets_too R) in
    let e = c.learn_old.ensures in
    record {
      site = f.site;
      key = f.key;
      clock = λ z. R.clock (sym (ap (λ (S : State). S.applied a.s a.s) e) ∙ z);
      taken = sends_as_is S a.s a.x (g.E.EngineValue.engine a.engine) (g.met.E.EngineValue.takes a.engine) _ e;
    }

pub overflow_cast-result : goal.overflow_cast-result
unfolding refusals
overflow_cast-result g c =
    let R = (put_ready (state_of c.in_ok-t.t.now) c.args.s c.args.x).0 (sym c.in_ok-put_refusal.ensures) in
    omega (arith, R.key, R.sound.keys)

pub overflow_cast-result-2 : goal.overflow_cast-result-2
unfolding refusals
overflow_cast-result-2 g c =
    let R = (put_ready (state_of c.in_ok-t.t.now) c.args.s c.args.x).0 (sym c.in_ok-put_refusal.ensures) in
    omega (arith, R.site, R.sound.sites)

pub returns : goal.returns
unfolding Bytes step refusals put
returns g c =
    let a = c.args in
    let w = c.put_step-c.ensures in
    let r = puts_the_same (state_of c.in_ok-t.t.now) a.s a.x (g.E.EngineValue.engine a.engine) (g.met.E.EngineValue.takes a.engine) _ c.learn_old.ensures a.v in
    step_taken (g.E.EngineValue.engine a.engine) _ (Put a.s a.x a.v) _ (search rules) (search rules) _ _ (search rules) (λ i. omega (arith, c.type_inv.t i)) c.in_ok-put_refusal.ensures
    ((λ i. done a.x a.s (w.clock i) a.v) ∙ ap (λ (o : Outcome). o.answer) r) (w.after ∙ ap (λ (o : Outcome). o.after) r)

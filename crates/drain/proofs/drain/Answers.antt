use Rattle.std.proofs.Common.{refl, sym, rules, arith}
use Rattle.layout.specs.State.{state_of}
use Rattle.layout.specs.Ranges.{Bytes}
use Rattle.rules.specs.Calls.{Drain, refusals, step}
use Rattle.laws.proofs.Ready.{drain_ready}
use Rattle.answers.proofs.Serves.{other_size, refused_inside, step_taken}
use Rattle.drain.proofs.drain.Goals as goal

pub returns-in_err-t : goal.returns-in_err-t
returns-in_err-t g c = other_size (g.E.EngineValue.engine c.args.engine) _ (Drain c.args.s c.args.budget) _ (search rules) (search rules) refl

pub returns-in_err-counts : goal.returns-in_err-counts
unfolding refusals
returns-in_err-counts g c =
    refused_inside (g.E.EngineValue.engine c.args.engine) _ (Drain c.args.s c.args.budget) _ (search rules) (search rules) _ _ (search rules) c.in_err-counts.ensures.refusal

pub passes-requires : goal.passes-requires
unfolding refusals
passes-requires g c =
    let k = c.in_ok-counts.ensures in
    let R = (drain_ready (state_of c.in_ok-t.t.now) c.args.s).0 (sym k.refusal) in
    record { sound = R.sound; sites = k.counts.sites; site = omega (arith, R.site, k.counts.sites); live = R.live }

pub returns : goal.returns
unfolding Bytes step refusals
returns g c =
    let a = c.args in
    let w = c.passes.ensures in
    step_taken (g.E.EngineValue.engine a.engine) _ (Drain a.s a.budget) _ (search rules) (search rules) _ _ (search rules) (λ i. omega (arith, c.type_inv.t i))
    c.in_ok-counts.ensures.refusal w.0 w.1

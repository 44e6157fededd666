use Rattle.std.proofs.Common.{◌≡◌, length, refl, sym, ap, rules, arith}
use Rattle.layout.specs.State.{to_entry, state_of, table}
use Rattle.layout.specs.Ranges.{Bytes}
use Rattle.rules.specs.Engine.{ours}
use Rattle.rules.specs.Steps.{done, get, look}
use Rattle.rules.specs.Calls.{Look, step, refusals}
use Rattle.laws.proofs.Ready.{get_ready}
use Rattle.answers.proofs.Serves.{other_size, refused_inside, step_taken}
use Rattle.look.proofs.look.Goals as goal

pub returns-in_err-t : goal.returns-in_err-t
returns-in_err-t c = other_size ours _ (Look c.args.s c.args.x) _ (search rules) (search rules) refl

pub returns-in_err-get_refusal : goal.returns-in_err-get_refusal
unfolding refusals
returns-in_err-get_refusal c =
    let a = c.args in
    let e : a.t.now ≡ c.in_ok-t.t.now = search rules in
    let size : length c.in_ok-t.t.now ≡ table.width = search rules in
    rw e (refused_inside ours _ (Look a.s a.x) _ refl size _ _ (search rules) c.in_err-get_refusal.ensures.refusal)

pub record_at-seen-requires : goal.record_at-seen-requires
unfolding refusals
record_at-seen-requires c =
    let R = (get_ready (state_of c.in_ok-t.t.now) c.args.s c.args.x).0 (sym c.in_ok-get_refusal.ensures.refusal) in
    (omega (arith, R.site, R.sound.sites), omega (arith, R.key, R.sound.keys))

pub overflow_cast-result : goal.overflow_cast-result
unfolding refusals
overflow_cast-result c =
    let R = (get_ready (state_of c.in_ok-t.t.now) c.args.s c.args.x).0 (sym c.in_ok-get_refusal.ensures.refusal) in
    omega (arith, R.key, R.sound.keys)

pub returns : goal.returns
unfolding Bytes step refusals get look
returns c =
    let a = c.args in
    let w = ap to_entry c.record_at-seen.ensures in
    let e : a.t.now ≡ c.in_ok-t.t.now = search rules in
    let size : length c.in_ok-t.t.now ≡ table.width = search rules in
    step_taken ours _ (Look a.s a.x) _ e size _ a.t.now (rw e size) (λ i. omega (arith, c.type_inv.t i)) c.in_ok-get_refusal.ensures.refusal
    (λ i. done a.x (w i).origin (w i).clock (w i).value) (ap state_of e)

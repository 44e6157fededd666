use Rattle.std.proofs.Common.{◌≡◌, sym, ◌∙◌, rules, arith}
use Rattle.layout.specs.State.{State, state_of}
use Rattle.rules.specs.Refusals.{first, put_refusals, get_refusals, full}
use Rattle.rules.specs.Calls.{Get, refusals}
use Rattle.answers.specs.Answers.{asked, code_of}
use Rattle.answers.proofs.Codes.{asked_stop, first_then}
use Rattle.laws.proofs.Ready.{get_ready}
use Rattle.refusals.specs.Asked.{room_in}
use Rattle.refusals.proofs.inside.put_refusal.Goals as goal

pub returns-in_err-counts : goal.returns-in_err-counts
unfolding refusals put_refusals get_refusals full
returns-in_err-counts c =
    let a = c.args in
    let S : State = state_of a.t.now in
    let w = c.in_err-counts in
    let e : asked c.from_residual.result ≡ code_of w.field-0.0 = search rules in
    e ∙ asked_stop (refusals S (Get a.s a.x)) (room_in S S.n a.s) w.field-0.0 w.ensures.refusal

pub room_refusal-requires : goal.room_refusal-requires
unfolding refusals
room_refusal-requires c =
    let R = (get_ready (state_of c.args.t.now) c.args.s c.args.x).0 (sym c.in_ok-counts.ensures.refusal) in
    omega (arith, R.site, R.sound.sites)

pub returns : goal.returns
unfolding refusals put_refusals get_refusals full
returns c =
    let a = c.args in
    let S : State = state_of a.t.now in
    let k = c.in_ok-counts.ensures in
    c.room_refusal.ensures ∙ (λ i. first (room_in S (k.counts.sites i) a.s)) ∙ first_then (refusals S (Get a.s a.x)) (room_in S S.n a.s) (omega arith) (sym k.refusal)

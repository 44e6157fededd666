use Rattle.std.proofs.Common.{◌≡◌, sym, ◌∙◌, rules, arith}
use Rattle.layout.specs.State.{State, state_of}
use Rattle.rules.specs.Refusals.{first, site_refusals}
use Rattle.rules.specs.Calls.{refusals}
use Rattle.answers.specs.Answers.{asked, code_of}
use Rattle.answers.proofs.Codes.{asked_stop, first_then}
use Rattle.refusals.specs.Asked.{sound_in, live_in}
use Rattle.refusals.proofs.inside.site_refusal.Goals as goal

pub returns-in_err-counts-clause-refusal : goal.returns-in_err-counts-clause-refusal
unfolding refusals site_refusals
returns-in_err-counts-clause-refusal c =
    let a = c.args in
    let S : State = state_of a.t.now in
    let w = c.in_err-counts in
    let e : asked c.from_residual.result ≡ code_of w.field-0.0 = search rules in
    e ∙ asked_stop (sound_in S) (live_in S S.n a.s) w.field-0.0 w.ensures.refusal

pub returns-in_err-live_refusal-clause-refusal : goal.returns-in_err-live_refusal-clause-refusal
unfolding refusals site_refusals
returns-in_err-live_refusal-clause-refusal c =
    let a = c.args in
    let S : State = state_of a.t.now in
    let k = c.in_ok-counts.ensures in
    let w = c.in_err-live_refusal in
    let e : asked c.from_residual-in_err-live_refusal.result ≡ code_of w.field-0.0 = search rules in
    e ∙ w.ensures ∙ (λ i. first (live_in S (k.counts.sites i) a.s)) ∙ first_then (sound_in S) (live_in S S.n a.s) (omega arith) (sym k.refusal)

pub returns-clause-refusal : goal.returns-clause-refusal
unfolding refusals site_refusals
returns-clause-refusal c =
    let a = c.args in
    let S : State = state_of a.t.now in
    let k = c.in_ok-counts.ensures in
    c.in_ok-live_refusal.ensures
    ∙ (λ i. first (live_in S (k.counts.sites i) a.s)) ∙ first_then (sound_in S) (live_in S S.n a.s) (omega arith) (sym k.refusal)

use Rattle.std.proofs.Common.{◌≡◌, sym, ◌∙◌, rules, arith}
use Rattle.layout.specs.State.{State, state_of}
use Rattle.rules.specs.Refusals.{first, get_refusals}
use Rattle.rules.specs.Calls.{refusals}
use Rattle.answers.specs.Answers.{asked, code_of}
use Rattle.answers.proofs.Codes.{asked_stop, first_then}
use Rattle.refusals.specs.Asked.{sound_in, names_in}
use Rattle.refusals.proofs.inside.get_refusal.Goals as goal

pub returns-in_err-counts-clause-refusal : goal.returns-in_err-counts-clause-refusal
unfolding refusals get_refusals
returns-in_err-counts-clause-refusal c =
    let a = c.args in
    let S : State = state_of a.t.now in
    let w = c.in_err-counts in
    let e : asked c.from_residual.result ≡ code_of w.field-0.0 = search rules in
    e ∙ asked_stop (sound_in S) (names_in S S.n S.k a.s a.x) w.field-0.0 w.ensures.refusal

pub returns-in_err-names_refusal-clause-refusal : goal.returns-in_err-names_refusal-clause-refusal
unfolding refusals get_refusals
returns-in_err-names_refusal-clause-refusal c =
    let a = c.args in
    let S : State = state_of a.t.now in
    let k = c.in_ok-counts.ensures in
    let w = c.in_err-names_refusal in
    let e : asked c.from_residual-in_err-names_refusal.result ≡ code_of w.field-0.0 = search rules in
    e ∙ w.ensures ∙ (λ i. first (names_in S (k.counts.sites i) (k.counts.keys i) a.s a.x)) ∙ first_then (sound_in S) (names_in S S.n S.k a.s a.x) (omega arith) (sym k.refusal)

pub returns-clause-refusal : goal.returns-clause-refusal
unfolding refusals get_refusals
returns-clause-refusal c =
    let a = c.args in
    let S : State = state_of a.t.now in
    let k = c.in_ok-counts.ensures in
    c.in_ok-names_refusal.ensures
    ∙ (λ i. first (names_in S (k.counts.sites i) (k.counts.keys i) a.s a.x)) ∙ first_then (sound_in S) (names_in S S.n S.k a.s a.x) (omega arith) (sym k.refusal)

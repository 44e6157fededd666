use Rattle.std.proofs.Common.{◌≡◌, sym, ◌∙◌, rules, arith}
use Rattle.layout.specs.State.{State, state_of}
use Rattle.rules.specs.Refusals.{first, adopt_refusals}
use Rattle.rules.specs.Calls.{refusals}
use Rattle.answers.specs.Answers.{asked, code_of}
use Rattle.answers.proofs.Codes.{asked_stop, first_then}
use Rattle.refusals.specs.Asked.{sound_in}
use Rattle.look.specs.Asked.{named_in}
use Rattle.look.proofs.adopt_refusal.Goals as goal

pub returns-in_err-counts : goal.returns-in_err-counts
unfolding refusals adopt_refusals
returns-in_err-counts c =
    let a = c.args in
    let S : State = state_of a.t.now in
    let w = c.in_err-counts in
    let e : asked c.from_residual.result ≡ code_of w.field-0.0 = search rules in
    e ∙ asked_stop (sound_in S) (named_in S S.n S.k a.s a.x a.o a.c) w.field-0.0 w.ensures.refusal

pub returns : goal.returns
unfolding refusals adopt_refusals
returns c =
    let a = c.args in
    let S : State = state_of a.t.now in
    let k = c.in_ok-counts.ensures in
    c.named_refusal.ensures
    ∙ (λ i. first (named_in S (k.counts.sites i) (k.counts.keys i) a.s a.x a.o a.c))
    ∙ first_then (sound_in S) (named_in S S.n S.k a.s a.x a.o a.c) (omega arith) (sym k.refusal)

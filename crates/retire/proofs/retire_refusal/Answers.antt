use Rattle.std.proofs.Common.{◌≡◌, suc, ◌+◌, ◌^◌, [], ◌∷◌, not, nat_lt, true, false, sym, ◌∙◌, rules}
use borrow.Author.Tests.{not-true, not-false}
use Rattle.layout.specs.State.{State, state_of}
use Rattle.rules.specs.Refusals.{last, site_refusals, retire_refusals}
use Rattle.rules.specs.Calls.{refusals}
use Rattle.laws.proofs.Ready.{drain_ready}
use Rattle.answers.specs.Answers.{asked, code_of}
use Rattle.answers.proofs.Codes.{asked_stop}
use Rattle.retire.proofs.Retiring.{another, site_fits, retire_asks}
use Rattle.retire.proofs.retire_refusal.Goals as goal
use Rattle.retire.proofs.retire_refusal.Goals.{After-some_live}

pub returns-in_err-counts : goal.returns-in_err-counts
unfolding refusals site_refusals retire_refusals
returns-in_err-counts c =
    let S : State = state_of c.args.t.now in
    let w = c.in_err-counts in
    let e : asked c.from_residual.result ≡ code_of w.field-0.0 = search rules in
    e ∙ asked_stop (site_refusals S c.args.s) ((17, last S c.args.s) ∷ []) w.field-0.0 w.ensures.refusal

pub with_site-requires : goal.with_site-requires
unfolding refusals
with_site-requires c =
    let S : State = state_of c.args.t.now in
    let F = site_fits S c.args.s ((drain_ready S c.args.s).0 (sym c.in_ok-counts.ensures.refusal)) in
    (F.site, rw c.read_header-h.ensures.retired F.room)

-- what the code finds is whether another site is live
found : (c : After-some_live) → c.some_live.result ≡ not (last (state_of c.args.t.now) c.args.s)
unfolding refusals
found c =
    let s = c.args.s in
    let S : State = state_of c.args.t.now in
    let h = c.read_header-h.ensures in
    let k = c.in_ok-counts.ensures in
    c.some_live.ensures
    ∙ (λ i. nat_lt (suc (c.with_site.ensures i)) (2 ^ k.counts.sites i))
    ∙ (λ i. nat_lt (suc (h.retired i + 2 ^ s)) (2 ^ S.n))
    ∙ sym (another S s ((drain_ready S s).0 (sym k.refusal)))

pub returns-then-not-some_live : goal.returns-then-not-some_live
unfolding refusals
returns-then-not-some_live c =
    retire_asks (state_of c.args.t.now) c.args.s true (not-false _ (sym (found (goal.at.returns-then-not-some_live c).After-some_live) ∙ c.if-not-some_live.true))
    (sym c.in_ok-counts.ensures.refusal)

pub returns : goal.returns
unfolding refusals
returns c =
    retire_asks (state_of c.args.t.now) c.args.s false (not-true _ (sym (found (goal.at.returns c).After-some_live) ∙ c.if-not-some_live.false))
    (sym c.in_ok-counts.ensures.refusal)

use Rattle.std.proofs.Common.{◌≡◌, ◌++◌, sym, ap, ◌∙◌, rules, arith}
use Rattle.layout.specs.State.{State, Fields, to_entry, state_of}
use Rattle.rules.specs.Refusals.{first, get_refusals, touch_refusals, full}
use Rattle.rules.specs.Calls.{refusals}
use Rattle.laws.proofs.Ready.{get_ready}
use Rattle.answers.specs.Answers.{asked, code_of}
use Rattle.answers.proofs.Codes.{asked_stop, first_then}
use Rattle.refusals.specs.Asked.{room_in}
use Rattle.touch.specs.Asked.{record_in}
use Rattle.touch.specs.Touchers.{number_of}
use Rattle.touch.proofs.table_refusal.Goals as goal

pub returns-in_err-counts : goal.returns-in_err-counts
unfolding refusals get_refusals touch_refusals full
returns-in_err-counts c =
    let a = c.args in
    let S : State = state_of a.t.now in
    let w = c.in_err-counts in
    let e : asked c.from_residual.result ≡ code_of w.field-0.0 = search rules in
    e ∙ asked_stop (get_refusals S a.s a.x) (record_in (S.store a.s a.x) (number_of a.toucher) ++ room_in S S.n a.s) w.field-0.0 w.ensures.refusal

pub record_at-requires : goal.record_at-requires
unfolding refusals
record_at-requires c =
    let R = (get_ready (state_of c.args.t.now) c.args.s c.args.x).0 (sym c.in_ok-counts.ensures.refusal) in
    (omega (arith, R.site, R.sound.sites), omega (arith, R.key, R.sound.keys))

pub returns-in_err-record_refusal : goal.returns-in_err-record_refusal
unfolding refusals get_refusals touch_refusals full
returns-in_err-record_refusal c =
    let a = c.args in
    let S : State = state_of a.t.now in
    let w = c.in_err-record_refusal in
    let kept = record_in (S.store a.s a.x) (number_of a.toucher) in
    let e : asked c.from_residual-in_err-record_refusal.result ≡ code_of w.field-0.0 = search rules in
    e
    ∙ asked_stop kept (room_in S S.n a.s) w.field-0.0 (w.ensures ∙ ap (λ (p : Fields). first (record_in (to_entry p) (number_of a.toucher))) c.record_at.ensures)
    ∙ first_then (get_refusals S a.s a.x) (kept ++ room_in S S.n a.s) (omega arith) (sym c.in_ok-counts.ensures.refusal)

pub room_refusal-requires : goal.room_refusal-requires
unfolding refusals
room_refusal-requires c =
    let R = (get_ready (state_of c.args.t.now) c.args.s c.args.x).0 (sym c.in_ok-counts.ensures.refusal) in
    omega (arith, R.site, R.sound.sites)

pub returns : goal.returns
unfolding refusals get_refusals touch_refusals full
returns c =
    let a = c.args in
    let S : State = state_of a.t.now in
    let k = c.in_ok-counts.ensures in
    let kept = record_in (S.store a.s a.x) (number_of a.toucher) in
    let none = c.in_ok-record_refusal.ensures ∙ ap (λ (p : Fields). first (record_in (to_entry p) (number_of a.toucher))) c.record_at.ensures in
    c.room_refusal.ensures
    ∙ (λ i. first (room_in S (k.counts.sites i) a.s))
    ∙ first_then kept (room_in S S.n a.s) (omega arith) (sym none)
    ∙ first_then (get_refusals S a.s a.x) (kept ++ room_in S S.n a.s) (omega arith) (sym k.refusal)

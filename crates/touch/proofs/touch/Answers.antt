use Rattle.std.proofs.Common.{◌≡◌, ap, ◌∙◌, rules, arith}
use Rattle.layout.specs.State.{State, state_of}
use Rattle.layout.specs.Ranges.{Bytes}
use Rattle.rules.specs.Touch.{touched}
use Rattle.rules.specs.Refusals.{first, touch_refusals}
use Rattle.rules.specs.Steps.{done, put, touch}
use Rattle.rules.specs.Calls.{Call, Touch, step}
use Rattle.laws.proofs.Ready.{gets_too}
use Rattle.answers.proofs.Serves.{other_size, refused_words, size_behind, inside_behind, refused_inside, step_taken}
use Rattle.rows.proofs.Fits.{get_fits}
use Rattle.touch.proofs.Touching.{put_fits, clear, ready}
use Rattle.touch.proofs.touch.Goals as goal

pub returns-in_err-record : goal.returns-in_err-record
returns-in_err-record g c =
    let a = c.args in
    let w = c.in_err-record in
    refused_words (g.E.EngineValue.engine a.engine) _ (Touch a.s a.x a.hour a.toucher a.tier) _ w.field-0.0 (search rules) w.ensures.refusal

pub returns-in_err-t : goal.returns-in_err-t
returns-in_err-t g c =
    let a = c.args in
    let call : Call = Touch a.s a.x a.hour a.toucher a.tier in
    let E = g.E.EngineValue.engine a.engine in
    other_size E _ call _ (search rules) (search rules) (size_behind E a.t.now call c.in_ok-record.ensures.refusal)

pub returns-in_err-table_refusal : goal.returns-in_err-table_refusal
returns-in_err-table_refusal g c =
    let a = c.args in
    let k = c.in_ok-record.ensures in
    let S = state_of c.in_ok-t.t.now in
    let call : Call = Touch a.s a.x a.hour a.toucher a.tier in
    let E = g.E.EngineValue.engine a.engine in
    refused_inside E _ call _ (search rules) (search rules) _ _ (search rules)
    (c.in_err-table_refusal.ensures ∙ (λ i. first (touch_refusals S a.s a.x (k.record.1 i))) ∙ inside_behind E a.t.now call S k.refusal)

pub get_step-e-requires : goal.get_step-e-requires
get_step-e-requires g c =
    let a = c.args in
    let k = c.in_ok-record.ensures in
    let S = state_of c.in_ok-t.t.now in
    get_fits S a.s a.x (gets_too (ready S a.s a.x a.hour a.toucher a.tier k.refusal k.record.1 c.in_ok-table_refusal.ensures).put)

pub put_step-c-requires : goal.put_step-c-requires
put_step-c-requires g c =
    let a = c.args in
    let k = c.in_ok-record.ensures in
    let S = state_of c.in_ok-t.t.now in
    put_fits (g.E.EngineValue.engine a.engine) (g.met.E.EngineValue.takes a.engine) S _ a.s a.x (ready S a.s a.x a.hour a.toucher a.tier k.refusal k.record.1 c.in_ok-table_refusal.ensures).put c.get_step-e.ensures.after

pub overflow_cast-result : goal.overflow_cast-result
overflow_cast-result g c =
    let a = c.args in
    let k = c.in_ok-record.ensures in
    let R = (ready (state_of c.in_ok-t.t.now) a.s a.x a.hour a.toucher a.tier k.refusal k.record.1 c.in_ok-table_refusal.ensures).put in
    omega (arith, R.key, R.sound.keys)

pub overflow_cast-result-2 : goal.overflow_cast-result-2
overflow_cast-result-2 g c =
    let a = c.args in
    let k = c.in_ok-record.ensures in
    let R = (ready (state_of c.in_ok-t.t.now) a.s a.x a.hour a.toucher a.tier k.refusal k.record.1 c.in_ok-table_refusal.ensures).put in
    omega (arith, R.site, R.sound.sites)

pub returns : goal.returns
unfolding Bytes step touch put
returns g c =
    let a = c.args in
    let E = g.E.EngineValue.engine a.engine in
    let k = c.in_ok-record.ensures in
    let S = state_of c.in_ok-t.t.now in
    let e = c.get_step-e.ensures in
    let p = c.put_step-c.ensures in
    let v : c.over-v.result ≡ touched (S.store a.s a.x).value a.hour a.toucher a.tier =
    c.over-v.ensures ∙ (λ i. touched (e.entry i).value (k.record.0 i) (k.record.1 i) (k.record.2 i)) in
    step_taken E _ (Touch a.s a.x a.hour a.toucher a.tier) _ (search rules) (search rules) _ _ (search rules) (λ i. omega (arith, c.type_inv.t i))
    (clear S a.s a.x a.hour a.toucher a.tier k.refusal k.record.1 c.in_ok-table_refusal.ensures)
    ((λ i. done a.x a.s (p.clock i) (v i)) ∙ ap (λ (T : State). (put E T a.s a.x (touched (S.store a.s a.x).value a.hour a.toucher a.tier)).answer) e.after)
    (p.after ∙ (λ i. (put E (e.after i) a.s a.x (v i)).after))
